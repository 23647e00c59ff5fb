-- What a send call answers, as a struct for C. Assumes nothing.
use Rattle.send_c.specs.declared.RelaySent.{RelaySent}
use Rattle.std.specs.Prelude.{ℕ, Result, Ok, Err}
use Rattle.refusal.specs.Numbers.{number}
use Rattle.refusal.specs.declared.Refusal.{Refusal}

unfoldable pub sent_fields : Result ℕ Refusal → RelaySent
-- "the packet's size is handed back"
sent_fields (Ok n) = record { refusal = 0; size = n }
-- "Every refusal gives back its number alone"
sent_fields (Err k) = record { refusal = number k; size = 0 }
