-- Byte by byte: those before it that name slots of the mask.
-- Assumes nothing.
use borrow.Author.Rules.{rules}
use mathlib.Core.Path.{sym, ◌∙◌}
use mathlib.Core.List.{[], ◌∷◌}
use Prim.Native.Nat.{ℕ}
use native.Mathlib.Omega.{arith}
use lib.ListN.{take, get_or, length-append}
use Rattle.inflight.specs.Masks.{within}
use Rattle.inflight_drop.proofs.EndLaws.{within-yes, within-no}
use Rattle.inflight_drop.proofs.ends.count_leaving.Goals as goal
use Rattle.inflight_drop.proofs.ends.count_leaving.Goals.{then-holds, else-holds}

pub loop-x-init : goal.loop-x-init
unfolding within
loop-x-init c = search rules

pub loop-x-preserved : goal.loop-x-preserved
loop-x-preserved c =
    let xs = c.args.line.now in
    let g : ℕ = c.args.mask in
    let i : ℕ = c.loop-x.x-index in
    let inv = c.loop-x.invariant in
    elim c.if-holds.branch [
      | then-holds w ↦
          let y = within-yes g xs i (omega arith) (sym c.holds.ensures ∙ w.if-holds.true) in
          let l = length-append (within g (take i xs)) (get_or xs i 0 ∷ []) in
          (omega arith, rw y (omega (arith, l, inv.1, w.sum-is)))
      | else-holds w ↦
          let y = within-no g xs i (omega arith) (sym c.holds.ensures ∙ w.if-holds.false) in
          (omega arith, rw y (w.sum-is ∙ inv.1))
    ]
