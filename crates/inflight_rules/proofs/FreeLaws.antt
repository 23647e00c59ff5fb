-- Looking for a number that no slot of a mask has.
-- Assumes nothing.
use mathlib.Core.Path.{◌≡◌}
use Prim.Native.Nat.{ℕ, zero, suc, ◌-◌, ◌<◌}
use native.Mathlib.Omega.{arith}
use mathlib.Core.List.{List}
use lib.IntN.{ℤ}
use borrow.Author.Tests.{eq-eqb, ne_eqb}
use Rattle.inflight.specs.Numbers.{after}
use Rattle.inflight.specs.declared.PublisherNumber.{PublisherNumber}
use Rattle.inflight.specs.Masks.{slots, seek}
use Rattle.inflight.specs.Tables.{is_number, free_of}

module _ (m : ℕ) (ns : List ℤ) (x : PublisherNumber) where
  pub free-yes : (left : ℕ) → 0 < left → seek (is_number ns x) (slots m) ≡ 64 → free_of left m ns x ≡ x
  unfolding free_of
  free-yes zero h e = absurd (omega arith)
  free-yes (suc k) h e = rw (eq-eqb (seek (is_number ns x) (slots m)) 64 e)

  pub free-no : (left : ℕ) → 0 < left → (seek (is_number ns x) (slots m) ≡ 64 → ⊥) → free_of left m ns x ≡ free_of (left - 1) m ns (after x)
  unfolding free_of
  free-no zero h e = absurd (omega arith)
  free-no (suc k) h e =
      let q : suc k - 1 ≡ k = omega arith in
      rw (ne_eqb (seek (is_number ns x) (slots m)) 64 e, q)

pub free-zero : (m left : ℕ) (ns : List ℤ) (x : PublisherNumber) → left ≡ 0 → free_of left m ns x ≡ x
unfolding free_of
free-zero m left ns x e = rw e
