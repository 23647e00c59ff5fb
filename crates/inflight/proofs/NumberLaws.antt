-- Laws on signed numbers: when two are the same.
-- Assumes nothing.
use mathlib.Core.Path.{◌≡◌, refl, ap, ◌∙◌}
use Prim.Native.Nat.{ℕ}
use mathlib.Core.Bool.{true, false}
use lib.IntN.{ℤ, pos, negsuc}
use mir.Syntax.{w64}
use mir.Val.{SFits, of_z, to_z}
use mir.Facts.{to_z-of_z}
use borrow.Author.Tests.{eqb-true, eqb-false, eq-eqb, ne_eqb}
use Rattle.std.specs.Ordering.{int_eq}
use Rattle.std.specs.Bool.{one_answer}
use Rattle.std.proofs.lemmas.Bool.Decides.{Decides-int_eq}
use Rattle.inflight.specs.Numbers.{same}

pub same_true : (a b : ℤ) → same a b ≡ true → a ≡ b
unfolding same
same_true (pos m) (pos n) e = ap pos (eqb-true m n e)
same_true (pos m) (negsuc n) e = let z : ◌≡◌ {A = ℕ} 0 1 = cc in absurd (eqb-false 0 1 refl z)
same_true (negsuc m) (pos n) e = let z : ◌≡◌ {A = ℕ} 0 1 = cc in absurd (eqb-false 0 1 refl z)
same_true (negsuc m) (negsuc n) e = ap negsuc (eqb-true m n e)

pub same_self : (a : ℤ) → same a a ≡ true
unfolding same
same_self (pos m) = eq-eqb m m refl
same_self (negsuc m) = eq-eqb m m refl

pub eq-same : (a b : ℤ) → a ≡ b → same a b ≡ true
eq-same a b e = rw e (same_self b)

pub ne_same : (a b : ℤ) → (a ≡ b → ⊥) → same a b ≡ false
unfolding same
ne_same (pos m) (pos n) h = ne_eqb m n (λ e. h (ap pos e))
ne_same (pos m) (negsuc n) h = refl
ne_same (negsuc m) (pos n) h = refl
ne_same (negsuc m) (negsuc n) h = ne_eqb m n (λ e. h (ap negsuc e))

-- what `==` answers
pub int-same : (a b : ℤ) → int_eq a b ≡ same a b
int-same a b = one_answer (int_eq a b) (same a b) (Decides-int_eq a b) (same_true a b, eq-same a b)

-- and of a number that was read
pub read-same : (a b : ℤ) → SFits w64 a → int_eq (to_z w64 (of_z w64 a)) b ≡ same a b
read-same a b f = ap (λ x. int_eq x b) (to_z-of_z f) ∙ int-same a b
