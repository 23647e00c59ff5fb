-- A search over the slots of a mask: the lowest is looked at, and the rest is left.
-- Assumes nothing.
use mathlib.Core.Path.{sym, ap, ◌∙◌}
use Prim.Native.Nat.{ℕ, ◌^◌}
use native.Mathlib.Omega.{arith}
use lib.Bits.{bit_or}
use Rattle.inflight.specs.Masks.{slots, gather}
use Rattle.inflight.specs.Tables.{is_due}
use Rattle.inflight.proofs.MaskLaws.{popped, slot-low, gather-hit, gather-pass, gather_none}
use Rattle.inflight_slots.proofs.search.find_due.Goals as goal

pub bounds-times-i : goal.bounds-times-i
bounds-times-i c = let m : ℕ = c.loop-m.m in let p = popped m (omega arith) (omega arith) in omega arith

pub bit-b-requires : goal.bit-b-requires
bit-b-requires c = let m : ℕ = c.loop-m.m in let p = popped m (omega arith) (omega arith) in omega arith

pub loop-m-smaller-then-is_due : goal.loop-m-smaller-then-is_due
loop-m-smaller-then-is_due c =
    let m : ℕ = c.loop-m.m in
    let p = popped m (omega arith) (omega arith) in
    let q = c.lowest-i.ensures.0 in
    omega (arith, p.less, c.rest-m.ensures)

pub loop-m-preserved-then-is_due : goal.loop-m-preserved-then-is_due
loop-m-preserved-then-is_due c =
    let m : ℕ = c.loop-m.m in
    let p = popped m (omega arith) (omega arith) in
    let q = c.lowest-i.ensures.0 in
    let ts = c.args.times.now in
    let t : ℕ = c.args.time in
    let i : ℕ = c.lowest-i.result in
    let r = c.rest-m.ensures in
    (omega (arith, p.less, r), ap (λ (b : ℕ). gather (is_due ts t) (slots c.rest-m.result) (bit_or c.loop-m.found b)) (c.bit-b.ensures ∙ ap (λ (x : ℕ). 2 ^ x) (slot-low i (rw q p.low))) ∙ gather-hit (is_due ts t) m i p q c.rest-m.result c.loop-m.found r (sym c.is_due.ensures ∙ c.if-is_due.true) ∙ c.loop-m.invariant.1)

pub loop-m-smaller : goal.loop-m-smaller
loop-m-smaller c =
    let m : ℕ = c.loop-m.m in
    let p = popped m (omega arith) (omega arith) in
    let q = c.lowest-i.ensures.0 in
    omega (arith, p.less, c.rest-m.ensures)

pub loop-m-preserved : goal.loop-m-preserved
loop-m-preserved c =
    let m : ℕ = c.loop-m.m in
    let p = popped m (omega arith) (omega arith) in
    let q = c.lowest-i.ensures.0 in
    let ts = c.args.times.now in
    let t : ℕ = c.args.time in
    let i : ℕ = c.lowest-i.result in
    let r = c.rest-m.ensures in
    (omega (arith, p.less, r), gather-pass (is_due ts t) m i p q c.rest-m.result c.loop-m.found r (sym c.is_due.ensures ∙ c.if-is_due.false) ∙ c.loop-m.invariant.1)

pub returns : goal.returns
returns c = sym (gather_none (is_due c.args.times.now c.args.time) c.loop-m.m c.loop-m.found (omega arith)) ∙ c.loop-m.invariant.1
