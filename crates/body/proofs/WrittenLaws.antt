-- What a size as a writer's answer tells, and what then stands at the front of the lent bytes. Assumes nothing.
use mathlib.Core.Path.{◌≡◌, refl, sym, ap, subst, ◌∙◌}
use Prim.Native.Nat.{ℕ, ◌+◌, ◌≤◌}
use native.Mathlib.Nat.{zero-add}
use native.Mathlib.Omega.{arith}
use mathlib.Core.List.{List}
use mathlib.Core.Bool.{Bool, true, false}
use lib.ListN.{length, take, drop}
use lib.Dec.{ltb, eqb}
use lib.Seq.{sets-eq, take_at}
use lib.IntN.{ℤ}
use mir.Syntax.{w64}
use mir.Val.{of_z}
use borrow.Author.Tests.{ltb-false, eqb-false}
use Rattle.wire.specs.Choice.{pick}
use Rattle.body.specs.Written.{size_or_refusal, bytes_after}
use Rattle.std.specs.Prelude.{Result, Ok, Err}
use Rattle.refusal.specs.declared.Refusal.{Refusal}

-- what a size tells: no row of the refusals applied
abbrev pub Good : ℤ → Bool → ℕ → ℕ → Result ℕ Refusal → Type 0
Good number header size room (Ok k) = (of_z w64 number ≡ 0 → ⊥) × (header ≡ false) × (k ≡ size) × (size ≤ 16777199) × (size ≤ room)
Good number header size room (Err k) = Unit

module _ (number : ℤ) (header : Bool) (size room : ℕ) where
  by-test : (b : Bool) (u v : Result ℕ Refusal) → Good number header size room u → (b ≡ false → Good number header size room v) → Good number header size room (pick b u v)
  by-test true u v p q = p
  by-test false u v p q = q refl

  good : Good number header size room (size_or_refusal number header size room)
  unfolding size_or_refusal
  good =
      by-test (eqb (of_z w64 number) 0) _ _ tt λ z. by-test header _ _ tt λ h. by-test (ltb 16777215 (size + 16)) _ _ tt λ l.
      by-test (ltb room size) _ _ tt λ r.
      (eqb-false (of_z w64 number) 0 z, h, refl, omega (arith, ltb-false 16777215 (size + 16) l), ltb-false room size r)

  pub told : {k : ℕ} → size_or_refusal number header size room ≡ Ok k → Good number header size room (Ok k)
  told e = subst (Good number header size room) e good

-- the front of what is left, as many bytes as the answer says, is the body
pub front : (d x : List ℕ) (number : ℤ) (header : Bool) {k : ℕ} → size_or_refusal number header (length x) (length d) ≡ Ok k
    → take k (bytes_after (Ok k) d x) ≡ x
front d x number header {k} e =
    let g = told number header (length x) (length d) e in
    ap (take k) (sets-eq x d 0 (omega (arith, g.4))) ∙ rw (zero-add (length x)) (take_at x (drop (length x) d) k (sym g.2))
