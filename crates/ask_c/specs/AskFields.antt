-- The answers of fresh and ask as structs of numbers, for C: "every refusal gives back its number alone".
-- Assumes nothing.
use Rattle.std.specs.Prelude.{ℕ, pos, Result, Ok, Err, ⊤}
use Rattle.refusal.specs.Numbers.{number}
use Rattle.refusal.specs.declared.Refusal.{Refusal}
use Rattle.inflight.specs.declared.PublisherNumber.{PublisherNumber}
use Rattle.ask_c.specs.declared.RelayAsked.{RelayAsked}

-- a refusal's number, or 0
abbrev pub started_refusal : Result ⊤ Refusal → ℕ
started_refusal (Ok _) = 0
started_refusal (Err refusal) = number refusal

-- ask: "accepted with a publisher number"
unfoldable pub ask_fields : Result PublisherNumber Refusal → RelayAsked
ask_fields (Ok n) = record { refusal = 0; number = n }
ask_fields (Err refusal) = record { refusal = number refusal; number = record { 0 = pos 0 } }
