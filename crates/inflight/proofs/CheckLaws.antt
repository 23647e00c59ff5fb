-- A check that passes.
-- Assumes nothing.
use mathlib.Core.Path.{◌≡◌, refl}
use mathlib.Core.Bool.{true, false≢true}
use Rattle.std.specs.Prelude.{Result, Ok, Err, is_ok, ⊤}
use Rattle.refusal.specs.declared.Refusal.{Refusal}

pub passes : (r : Result ⊤ Refusal) → is_ok r ≡ true → r ≡ Ok tt
passes (Ok x) e = refl
passes (Err x) e = absurd (false≢true e)
