-- A gone peer by a flag and a number, and the answer as a struct of numbers, for C: "every refusal gives back its
-- number alone". Assumes nothing.
use Rattle.std.specs.Prelude.{ℕ, Bool, true, false, Result, Ok, Err}
use Rattle.refusal.specs.Numbers.{number}
use Rattle.refusal.specs.declared.Refusal.{Refusal}
use Rattle.inflight.specs.declared.Peer as P
use Rattle.drops_c.specs.declared.RelayDropped.{RelayDropped}

-- "the side and its number": a publisher that was lost, or else a front link that closed
abbrev pub peer_of : Bool → ℕ → P.Peer
peer_of true p = P.TheVariants.Publisher p
peer_of false l = P.TheVariants.Front l

-- "the count is handed back"
unfoldable pub drop_fields : Result ℕ Refusal → RelayDropped
drop_fields (Ok n) = record { refusal = 0; count = n }
drop_fields (Err refusal) = record { refusal = number refusal; count = 0 }
