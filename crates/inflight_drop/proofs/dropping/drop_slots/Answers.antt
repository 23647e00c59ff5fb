-- The requests in the slots of a mask are freed if the slice has two numbers for each.
-- Assumes nothing.
use mathlib.Core.Path.{◌≡◌, refl, ap, ◌∙◌}
use mathlib.Core.List.{List}
use Prim.Native.Nat.{ℕ}
use native.Mathlib.Omega.{arith}
use lib.IntN.{ℤ}
use lib.ListN.{length}
use Rattle.std.specs.Prelude.{Ok}
use Rattle.inflight.specs.Matching.{over_front}
use Rattle.inflight.specs.Tables.{ends_at, ends_of, leaving}
use Rattle.inflight_drop.proofs.DropLaws.{leaving-eq, struck-eq, drop-no, drop-yes}
use Rattle.inflight_drop.proofs.dropping.drop_slots.Goals as goal

pub returns-then-out-k : goal.returns-then-out-k
returns-then-out-k c =
    let a = c.args in
    let t = a.table.now in
    let sum : c.count_leaving-k.result ≡ length (leaving t a.mask) =
    c.count_leaving-k.ensures.0 ∙ ap length (leaving-eq t a.mask c.lay_out.ensures c.count-n.ensures.0) in
    rw (drop-no t a.mask (ends_at a.publishers) a.out.now (omega (arith, c.if-out-k.true, sum))) (refl, refl, refl)

pub returns : goal.returns
returns c =
    let a = c.args in
    let t = a.table.now in
    let leave = leaving-eq t a.mask c.lay_out.ensures c.count-n.ensures.0 in
    let sum : c.count_leaving-k.result ≡ length (leaving t a.mask) = c.count_leaving-k.ensures.0 ∙ ap length leave in
    let written : (ℕ → List ℕ → List ℤ) = λ base xs. over_front (ends_of t.numbers t.places base xs) a.out.now in
    let ends =
    c.write_ends.ensures
    ∙ ap (written c.ends_at-base.result) leave
    ∙ ap (λ (base : ℕ). written base (leaving t a.mask)) c.ends_at-base.ensures.0 in
    rw (drop-yes t a.mask (ends_at a.publishers) a.out.now (omega (arith, c.if-out-k.false, sum)))
    (ap Ok sum, c.strike.ensures ∙ struck-eq t a.mask c.lay_out.ensures, ends)
