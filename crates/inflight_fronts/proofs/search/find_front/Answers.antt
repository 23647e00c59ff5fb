-- A search from four slots to the next four, the mask shortened as it goes.
-- Assumes nothing.
use mathlib.Core.Path.{◌≡◌}
use Prim.Native.Nat.{ℕ, ◌+◌, ◌%◌, ◌<◌}
use native.Mathlib.Omega.{arith}
use Rattle.inflight.specs.Tables.{is_front}
use Rattle.inflight.proofs.MaskLaws.{onward-start, onward-low, onward-end}
use Rattle.inflight_fronts.proofs.FourLaws.{by-four}
use Rattle.inflight_fronts.proofs.search.find_front.Goals as goal

-- four slots are left

four-left : (i : ℕ) → i < 64 → i % 4 ≡ 0 → i + 3 < 64
four-left i h e = omega arith

pub loop-m-init : goal.loop-m-init
loop-m-init c =
    let a = c.args in
    (onward-start (is_front a.numbers.now a.places.now a.link a.n) a.mask c.ranges.mask.fits, omega arith)

pub front_of_four-s-requires : goal.front_of_four-s-requires
front_of_four-s-requires c =
    let v = c.loop-m.invariant in
    four-left _ (onward-low _ _ _ _ v.0 c.loop-m-test.true) v.1

pub returns-then-s-ne64 : goal.returns-then-s-ne64
returns-then-s-ne64 c =
    let v = c.loop-m.invariant in
    let l = four-left _ (onward-low _ _ _ _ v.0 c.loop-m-test.true) v.1 in
    (by-four _ _ _ _ l v.0 _ c.front_of_four-s.ensures).0 c.if-s-ne64.true

pub overflow_add-i : goal.overflow_add-i
overflow_add-i c =
    let v = c.loop-m.invariant in
    let i : ℕ = c.loop-m.i in
    let l : i < 64 = onward-low _ _ _ _ v.0 c.loop-m-test.true in
    omega arith

pub loop-m-preserved : goal.loop-m-preserved
loop-m-preserved c =
    let v = c.loop-m.invariant in
    let e = v.1 in
    let l = four-left _ (onward-low _ _ _ _ v.0 c.loop-m-test.true) v.1 in
    ((by-four _ _ _ _ l v.0 _ c.front_of_four-s.ensures).1 c.if-s-ne64.false, omega arith)

pub returns : goal.returns
returns c = onward-end _ _ _ _ c.loop-m.invariant.0 c.loop-m-test.false
