-- What a flush call answers, as a struct for C. Assumes nothing.
use Rattle.flush_c.specs.declared.RelayFlushed.{RelayFlushed}
use Rattle.std.specs.Prelude.{ℕ, Result, Ok, Err}
use Rattle.refusal.specs.Numbers.{number}
use Rattle.refusal.specs.declared.Refusal.{Refusal}

unfoldable pub flush_fields : Result ℕ Refusal → RelayFlushed
-- "hands back their size in bytes"
flush_fields (Ok n) = record { refusal = 0; size = n }
-- "Every refusal gives back its number alone"
flush_fields (Err k) = record { refusal = number k; size = 0 }
