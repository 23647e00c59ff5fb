-- What the caller of a link makes of lent bytes, by three calls: receive, the packet's body, and the body read as a
-- message at this link's side (document 01, "Packets" and "Messages"). Assumes nothing.
use Rattle.std.specs.Prelude.{ℕ, Bool, List, Err, Result, Ok}
use Rattle.wire.specs.Choice.{pick}
use Rattle.header.specs.declared.Side.{Side}
use Rattle.header.specs.declared.Side.TheVariants.{Client, Server}
use Rattle.link_state.specs.declared.Link.{Link}
use Rattle.link_state.specs.declared.Moment.{Moment}
use Rattle.packet.specs.Body.{body_of}
use Rattle.packet.specs.declared.Arrival.{Arrival}
use Rattle.packet.specs.declared.Arrival.TheVariants.{Incomplete, Packet}
use Rattle.link.specs.Receive.{receive_of}
use Rattle.message.specs.PartOf.{part_of}
use Rattle.message.specs.ReadMessage.{read_message}
use Rattle.message.specs.declared.Message.{Message}
use Rattle.refusal.specs.declared.Refusal.{Refusal}

-- no packet; or the bytes used, the message, and its rest, page or text
pub data Heard : Type 0 where
  nothing : Heard
  heard : ℕ → Result Message Refusal → List ℕ → Heard

-- the side at which a server (true) or a client reads
abbrev pub side_of : Bool → Side
side_of server = pick server Server Client

-- a body of a type, read at a side
abbrev pub read_at : Side → ℕ → ℕ → List ℕ → Heard
read_at side kind used body = heard used (read_message side kind body) (part_of body (read_message side kind body))

-- of the bytes s, by what receive answered
abbrev pub hear_by : Side → List ℕ → Result Arrival Refusal → Heard
hear_by side s (Ok (Incomplete k)) = nothing
hear_by side s (Err k) = nothing
hear_by side s (Ok (Packet kind consumed at len)) = read_at side kind consumed (body_of s (Ok (Packet kind consumed at len)))

-- what a link hears in the bytes s
unfoldable pub hears : Link → List ℕ → Moment → Heard
hears k s m = hear_by (side_of k.set.server) s (receive_of k s m).answer
