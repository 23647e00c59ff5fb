-- A law of choices by a test. Assumes nothing.
use mathlib.Core.Path.{◌≡◌, refl}
use mathlib.Core.Bool.{Bool, true, false}
use Rattle.wire.specs.Choice.{pick}

module _ {A : Type 0} where
  -- what holds of either word under its test holds of the one that is picked
  pub by_row : (P : A → Type 0) (b : Bool) (x a : A) → (b ≡ true → P x) → (b ≡ false → P a) → P (pick b x a)
  by_row P true x a f g = f refl
  by_row P false x a f g = g refl
