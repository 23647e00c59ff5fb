-- A search over the slots of a mask: the lowest is looked at, and the rest is left.
-- Assumes nothing.
use borrow.Author.Tests.{eq-eqb, ne_eqb}
use mathlib.Core.Path.{sym, ap, ◌∙◌}
use Prim.Native.Nat.{ℕ, ◌^◌}
use native.Mathlib.Omega.{arith}
use lib.Bits.{bit_or}
use Rattle.inflight.specs.Masks.{slots, gather}
use Rattle.inflight.specs.Tables.{is_link}
use Rattle.inflight.proofs.MaskLaws.{popped, slot-low, gather-hit, gather-pass, gather_none}
use Rattle.inflight_slots.proofs.search.find_link.Goals as goal

pub bounds-places-i : goal.bounds-places-i
bounds-places-i c = let m : ℕ = c.loop-m.m in let p = popped m (omega arith) (omega arith) in omega arith

pub bit-b-requires : goal.bit-b-requires
bit-b-requires c = let m : ℕ = c.loop-m.m in let p = popped m (omega arith) (omega arith) in omega arith

pub loop-m-smaller-then-l-link : goal.loop-m-smaller-then-l-link
loop-m-smaller-then-l-link c =
    let m : ℕ = c.loop-m.m in
    let p = popped m (omega arith) (omega arith) in
    let q = c.lowest-i.ensures.0 in
    omega (arith, p.less, c.rest-m.ensures)

pub loop-m-preserved-then-l-link : goal.loop-m-preserved-then-l-link
loop-m-preserved-then-l-link c =
    let m : ℕ = c.loop-m.m in
    let p = popped m (omega arith) (omega arith) in
    let q = c.lowest-i.ensures.0 in
    let ps = c.args.places.now in
    let l : ℕ = c.args.link in
    let i : ℕ = c.lowest-i.result in
    let r = c.rest-m.ensures in
    (omega (arith, p.less, r), ap (λ (b : ℕ). gather (is_link ps l) (slots c.rest-m.result) (bit_or c.loop-m.found b)) (c.bit-b.ensures ∙ ap (λ (x : ℕ). 2 ^ x) (slot-low i (rw q p.low))) ∙ gather-hit (is_link ps l) m i p q c.rest-m.result c.loop-m.found r (eq-eqb _ _ c.if-l-link.true) ∙ c.loop-m.invariant.1)

pub loop-m-smaller : goal.loop-m-smaller
loop-m-smaller c =
    let m : ℕ = c.loop-m.m in
    let p = popped m (omega arith) (omega arith) in
    let q = c.lowest-i.ensures.0 in
    omega (arith, p.less, c.rest-m.ensures)

pub loop-m-preserved : goal.loop-m-preserved
loop-m-preserved c =
    let m : ℕ = c.loop-m.m in
    let p = popped m (omega arith) (omega arith) in
    let q = c.lowest-i.ensures.0 in
    let ps = c.args.places.now in
    let l : ℕ = c.args.link in
    let i : ℕ = c.lowest-i.result in
    let r = c.rest-m.ensures in
    (omega (arith, p.less, r), gather-pass (is_link ps l) m i p q c.rest-m.result c.loop-m.found r (ne_eqb _ _ c.if-l-link.false) ∙ c.loop-m.invariant.1)

pub returns : goal.returns
returns c = sym (gather_none (is_link c.args.places.now c.args.link) c.loop-m.m c.loop-m.found (omega arith)) ∙ c.loop-m.invariant.1
