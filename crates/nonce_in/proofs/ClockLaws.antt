-- The difference of two times of 32 bits, as 64 bits hold it, and the tests of it in three ways: laws of crate opening,
-- which needs none of them any more. Assumes nothing.
use borrow.Author.Tests.{ltb-true, ltb-false, le-leb, lt-leb}
use native.Mathlib.Omega.{arith}
use mathlib.Core.Path.{◌≡◌, ap}
use mathlib.Core.Bool.{Bool, true, false, not, cond}
use Prim.Native.Nat.{ℕ, zero, suc, ◌-◌, ◌<◌, ◌^◌}
use lib.IntN.{ℤ, pos, negsuc, ◌-ℤ◌}
use lib.Signed.{mag, le_z, lt_z}
use lib.Dec.{ltb, leb}
use mir.Syntax.{w64}
use mir.Val.{to_z, of_z}
use mir.ValLaws.{to_z_pos, to_z-of_z}
use Rattle.opening.specs.Clock.{within30}
use Rattle.std.specs.Prelude.{Option, Some, None}

-- the difference of two numbers is no larger than the larger
gap_by : (t : Bool) (a k n : ℕ) → a < n → k < n → mag (cond t (negsuc (suc k - suc a)) (pos (a - suc k))) < n
gap_by true a k n ha hk = omega arith
gap_by false a k n ha hk = omega arith

pub gap : (a b n : ℕ) → a < n → b < n → mag (pos a -ℤ pos b) < n
gap a zero n ha hb = omega arith
gap a (suc k) n ha hb = gap_by (ltb a (suc k)) a k n ha (omega arith)

-- a test of order and its opposite
ltb-leb : (a b : ℕ) (t : Bool) → ltb a b ≡ t → leb b a ≡ not t
ltb-leb a b true e = lt-leb b a (ltb-true a b e)
ltb-leb a b false e = le-leb b a (ltb-false a b e)

lt-le : (x y : ℤ) (t : Bool) → lt_z x y ≡ t → le_z y x ≡ not t
lt-le (pos a) (pos b) t e = ltb-leb a b t e
lt-le (pos a) (negsuc b) t e = ap not e
lt-le (negsuc a) (pos b) t e = ap not e
lt-le (negsuc a) (negsuc b) t e = ltb-leb b a t e

-- what the difference of two u32, held as an i64, reads back as
pub value : (a b : ℕ) → a < 2 ^ 32 → b < 2 ^ 32 → to_z w64 (of_z w64 (to_z w64 a -ℤ to_z w64 b)) ≡ pos a -ℤ pos b
value a b ha hb =
    let ea : to_z w64 a ≡ pos a = to_z_pos w64 a (omega arith) in
    let eb : to_z w64 b ≡ pos b = to_z_pos w64 b (omega arith) in
    rw (ea, eb) (to_z-of_z w64 (pos a -ℤ pos b) (record { sfits = gap a b (2 ^ 63) (omega arith) (omega arith) }))

-- the three ways of the tests
pub low : (d z : ℤ) → d ≡ z → lt_z d (negsuc 29) ≡ true → None ≡ within30 z
low d z e h = simp (lt-le z (negsuc 29) true (rw e at h))

pub high : (d z : ℤ) → d ≡ z → lt_z d (negsuc 29) ≡ false → lt_z (pos 30) d ≡ true → None ≡ within30 z
high d z e h g = simp (lt-le z (negsuc 29) false (rw e at h), lt-le (pos 30) z true (rw e at g))

pub near : (d z : ℤ) → d ≡ z → lt_z d (negsuc 29) ≡ false → lt_z (pos 30) d ≡ false → Some d ≡ within30 z
near d z e h g = simp (e, lt-le z (negsuc 29) false (rw e at h), lt-le (pos 30) z false (rw e at g))
