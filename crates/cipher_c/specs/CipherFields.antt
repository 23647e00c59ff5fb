-- What a call's answer and the vector v that was given are as a struct for C. Assumes nothing.
use Rattle.std.specs.Prelude.{ℕ, List, Result, Ok, Err}
use Rattle.refusal.specs.declared.Refusal.{Refusal}
use Rattle.refusal.specs.Numbers.{number}
use Rattle.cipher_c.specs.declared.RelayChained.{RelayChained}

-- 0 and the vector that was answered; or the refusal's number and v
unfoldable pub chained_fields : List ℕ → Result (List ℕ) Refusal → RelayChained
chained_fields v (Ok n) = record { refusal = 0; vector = record { bytes = n } }
chained_fields v (Err k) = record { refusal = number k; vector = record { bytes = v } }
