-- The number after one fits where it is not the largest.
-- Assumes nothing.
use mathlib.Core.Path.{◌≡◌, sym, ap, ◌∙◌}
use Prim.Native.Nat.{ℕ, zero, suc, ◌+◌, ◌<◌, ◌^◌}
use native.Mathlib.Omega.{arith}
use lib.IntN.{ℤ, pos, negsuc, ◌+ℤ◌, +ℤ_one}
use mir.Syntax.{w64}
use mir.Val.{SFits, of_z, to_z}
use mir.Facts.{to_z-of_z}

-- a number that is not the largest has a next one
pub next_fits : (z : ℤ) → SFits w64 z → (z ≡ pos 9223372036854775807 → ⊥) → SFits w64 (z +ℤ pos 1)
next_fits (pos n) p h = record { sfits = small n p.sfits (λ e. h (ap pos e)) }
  where
    small : (n : ℕ) → n < 2 ^ 63 → (n ≡ 9223372036854775807 → ⊥) → n + 1 < 2 ^ 63
    small n q g = omega (arith, g)
next_fits (negsuc zero) p h = record { sfits = omega arith }
next_fits (negsuc (suc n)) p h =
    rw (+ℤ_one (negsuc (suc n))) (record { sfits = down n p.sfits })
  where
    down : (n : ℕ) → suc n < 2 ^ 63 → n < 2 ^ 63
    down n q = omega arith

-- a number whose bits are those of the largest is the largest
pub largest : (z : ℤ) → SFits w64 z → of_z w64 z ≡ 9223372036854775807 → z ≡ pos 9223372036854775807
largest z p e = sym (to_z-of_z p) ∙ ap (to_z w64) e
