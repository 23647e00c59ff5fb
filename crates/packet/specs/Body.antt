-- The body of a packet in the lent bytes (document 01, "Packets": "a second call takes the bytes and the answer and hands
-- it back, empty if there was no packet or it doesn't fit the bytes"). Assumes nothing.
use Rattle.std.specs.Prelude.{ℕ, List, [], Result, Ok, Err}
use Rattle.wire.specs.Bytes.{within}
use Rattle.packet.specs.declared.Arrival.{Arrival}
use Rattle.packet.specs.declared.Arrival.TheVariants.{Incomplete, Packet}
use Rattle.refusal.specs.declared.Refusal.{Refusal}

-- the part that an answer names
unfoldable pub body_of : List ℕ → Result Arrival Refusal → List ℕ
body_of s (Ok (Incomplete k)) = []
body_of s (Ok (Packet kind consumed at len)) = within s at len
body_of s (Err k) = []
