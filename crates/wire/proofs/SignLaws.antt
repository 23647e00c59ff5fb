-- The bits of a signed number, at any width. Assumes nothing.
use mathlib.Core.Path.{◌≡◌, sym, ap, ◌∙◌}
use Prim.Native.Nat.{ℕ, suc, ◌-◌, ◌^◌, ◌<◌}
use native.Mathlib.Omega.{arith}
use mathlib.Core.Bool.{true, false}
use lib.IntN.{ℤ, pos, negsuc}
use lib.Dec.{leb-zero}
use lib.Signed.{le_z, mag}
use mir.Syntax.{Width}
use mir.Val.{to_z, of_z, SFits, bits, hbits}
use mir.ValLaws.{to_z-of_z, to_z_pos}

-- What the two arms of `bits64` and `bits32` compute.
module _ (w : Width) where
  -- a number that is not negative is its bits
  pub of-pos : (z : ℤ) → SFits w z → le_z (pos 0) (to_z w (of_z w z)) ≡ true → to_z w (of_z w z) ≡ pos (of_z w z)
  of-pos (pos n) f t = to_z-of_z w (pos n) f
  of-pos (negsuc n) f t =
      let t' : le_z (pos 0) (negsuc n) ≡ true = sym (ap (le_z (pos 0)) (to_z-of_z w (negsuc n) f)) ∙ t in
      let z : ◌≡◌ {A = ℕ} 0 1 = cc in
      absurd (omega arith)

  -- the bits of a negative number, all inverted, are a number that is not negative
  pub of-neg : (m : ℕ) → 2 ^ bits w ≡ suc m → (z : ℤ) → SFits w z → le_z (pos 0) (to_z w (of_z w z)) ≡ false
      → to_z w (m - of_z w z) ≡ pos (m - of_z w z)
  of-neg m e (pos n) f t =
      let t' : le_z (pos 0) (pos n) ≡ false = sym (ap (le_z (pos 0)) (to_z-of_z w (pos n) f)) ∙ t in
      let z : ◌≡◌ {A = ℕ} 0 1 = cc (leb-zero n) in
      absurd (omega arith)
  of-neg m e (negsuc n) f t = to_z_pos w (m - of_z w (negsuc n)) (omega (arith, f.sfits))

-- a signed number that a local holds: its bits, read back. `back w64 c.f.result c.f.ok` after a call of f
pub back : (w : Width) (z : ℤ) → mag z < 2 ^ hbits w → to_z w (of_z w z) ≡ z
back w z p = to_z-of_z w z (record { sfits = p })
