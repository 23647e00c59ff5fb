-- A pass over the slots of a mask: the lowest is laid out, and the rest is left.
-- Assumes nothing.
use mathlib.Core.Path.{sym, ◌∙◌}
use Prim.Native.Nat.{ℕ}
use native.Mathlib.Omega.{arith}
use Rattle.inflight.proofs.MaskLaws.{popped}
use Rattle.inflight.proofs.OrderLaws.{laid_out-turn, laid_out-none}
use Rattle.inflight_slots.proofs.line.lay_out.Goals as goal

pub bounds-order-i : goal.bounds-order-i
bounds-order-i c = let m : ℕ = c.loop-m.m in let p = popped m (omega arith) (omega arith) in omega arith

pub loop-m-smaller : goal.loop-m-smaller
loop-m-smaller c =
    let m : ℕ = c.loop-m.m in
    let p = popped m (omega arith) (omega arith) in
    omega (arith, p.less, c.rest-m.ensures)

pub loop-m-preserved : goal.loop-m-preserved
loop-m-preserved c =
    let m : ℕ = c.loop-m.m in
    let p = popped m (omega arith) (omega arith) in
    let q = c.lowest-i.ensures.0 in
    let r = c.rest-m.ensures in
    let i : ℕ = c.lowest-i.result in
    let os = c.args.order.now in
    (omega (arith, p.less, r), laid_out-turn os m i p q c.rest-m.result c.loop-m.line r ∙ c.loop-m.invariant.1)

pub returns : goal.returns
returns c =
    sym (laid_out-none c.args.order.now c.loop-m.m c.loop-m.line (omega arith)) ∙ c.loop-m.invariant.1
