-- `aes_loops::block::block` meets its contract. Assumes nothing.
use Rattle.std.proofs.Common.{◌≡◌, ℕ, ◌+◌, ap, ◌∙◌, arith}
use Rattle.std.specs.Prelude.{min}
use Rattle.std.proofs.Math.Nat.{min-eq_left}
use Rattle.std.proofs.lemmas.Option.{MatchOption-at_some}
use Rattle.aes.specs.Aes.{add}
use Rattle.aes.specs.Words.{bytes_of}
use Rattle.aes_loops.specs.Rounds.{rounds_of}
use Rattle.aes_loops.proofs.Stores.{chunk-here}
use Rattle.aes_loops.proofs.Blocks.{rounds-none, rounds-next, ciphered-law}
use Rattle.aes_loops.proofs.block.block.Goals as goal

pub loop-n-init : goal.loop-n-init
loop-n-init g c =
    let d = g.D.TotalDirection in
    rounds-none d.round_makes d.last_makes d.place_of c.args.k.now (bytes_of c.both-x.result)

pub loop-n-preserved : goal.loop-n-preserved
loop-n-preserved g c =
    let d = g.D.TotalDirection in
    let k = c.args.k.now in
    let p = c.place in
    let l = c.loop-n in
    let e : min (l.n + 1) 14 ≡ l.n + 1 = min-eq_left (omega (arith, c.loop-n-test.true)) in
    rounds-next d.round_makes d.last_makes d.place_of k l.n (bytes_of c.both-x.result)
    (g.met.D.TotalDirection.inner k p.result (omega (arith, p.ensures.within)) l.x c.round-x.result
    c.round-x.ensures) (p.ensures.is ∙ ap d.place_of e) l.invariant

pub returns : goal.returns
returns g c =
    let d = g.D.TotalDirection in
    let k = c.args.k.now in
    let s = bytes_of c.args.s in
    let p = c.place-2 in
    let l = c.loop-n in
    let f = MatchOption-at_some _ _ _ c.unwrap.ensures c.first_chunk.ensures.cases in
    let e : l.n ≡ 13 = omega (arith, c.loop-n-test.false) in
    ciphered-law d.round_makes d.last_makes d.place_of k s
    (g.met.D.TotalDirection.last k p.result (omega (arith, p.ensures.within)) l.x c.round.result c.round.ensures)
    p.ensures.is
    (l.invariant ∙ ap (λ (n : ℕ). rounds_of d.round_makes d.place_of n k (bytes_of c.both-x.result)) e)
    (c.both-x.ensures ∙ ap (add s) (c.load-first.ensures ∙ f.same ∙ chunk-here k c.place-at.result)) c.place-at.ensures.is
    ∙ g.met.D.TotalDirection.whole k s
