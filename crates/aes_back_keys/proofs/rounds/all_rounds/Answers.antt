-- `aes_back_keys::rounds::all_rounds` meets its contract. Assumes nothing.
use Rattle.std.proofs.Common.{◌≡◌, ℕ, ◌*◌, ◌+◌, ◌≤◌, ◌++◌, length, drop, ap, ◌∙◌, arith}
use Rattle.std.proofs.lemmas.Option.{MatchOption-at_some}
use Rattle.aes.specs.Aes.{unmix_columns}
use Rattle.aes.specs.Back.{back_to}
use Rattle.aes.specs.Words.{bytes_of}
use Rattle.aes.proofs.Quads.{sixteen}
use Rattle.aes_loops.proofs.Stores.{chunk-here, part-stored}
use Rattle.aes_back_keys.proofs.Laws.{long-none, held_none, long-held, long-next, held_next, held_all}
use Rattle.aes_back_keys.proofs.rounds.all_rounds.Goals as goal

pub loop-n-init : goal.loop-n-init
loop-n-init c =
    let w = c.args.d.now in
    record { long = long-none w c.requires; held = held_none w }

pub loop-n-preserved : goal.loop-n-preserved
loop-n-preserved c =
    let l = c.loop-n in
    let w = c.args.d.now in
    let i = l.invariant in
    let x = c.unmix-x.result in
    let h = MatchOption-at_some _ _ _ c.unwrap.ensures c.first_chunk.ensures.cases in
    let e = c.unmix-x.ensures ∙ ap unmix_columns (c.load-y.ensures ∙ h.same ∙ chunk-here l.d (l.n * 16 + 16)) in
    let k : l.n * 16 + 16 + 16 ≤ length l.d = omega (
      arith,
      c.requires,
      c.loop-n-test.true,
      long-held w l.n l.d i.long i.held (omega (arith, c.requires, c.loop-n-test.true)),
    ) in
    let p = part-stored l.d (bytes_of x) (l.n * 16 + 16) (c.copy_from_slice.ensures.after ∙ c.store.ensures) (sixteen x) k in
    record {
      long = long-next w l.n l.d i.long i.held (bytes_of x) (sixteen x) e;
      held = held_next w l.n l.d i.long i.held (bytes_of x) (sixteen x) e _ k p;
    }

pub returns : goal.returns
returns c =
    let l = c.loop-n in
    let w = c.args.d.now in
    let e : l.n ≡ 13 = omega (arith, c.loop-n-test.false) in
    held_all w l.d c.requires (l.invariant.held ∙ ap (λ (n : ℕ). back_to n w ++ drop (n * 16 + 16) w) e)
