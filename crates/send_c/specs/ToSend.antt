-- What to send, from a struct for C, by the packet's type (document 01, "Opening" and "Messages": "The packet type is the
-- message type"). A field that the type does not use counts for nothing. Assumes nothing.
use Rattle.std.specs.Prelude.{ℕ, Bool, [], ◌∷◌, ℤ, eqb, Option, Some, None}
use Rattle.wire.specs.Choice.{pick, first}
use Rattle.message_out.specs.declared.Outgoing.{Outgoing}
use Rattle.message_out.specs.declared.Outgoing.TheVariants as O
use Rattle.send.specs.declared.ToSend.{ToSend}
use Rattle.send.specs.declared.ToSend.TheVariants.{Nonce, Handshake, Ping, Pong, Message}
use Rattle.nonce_out.specs.declared.Drawn.{Drawn}
use Rattle.send_c.specs.declared.RelayOutgoing.{RelayOutgoing}

-- the actor, if one is given
abbrev pub actor_of : Bool → ℤ → Option ℤ
actor_of given a = pick given (Some a) None

-- the timeout in ms, if one is given
abbrev pub timeout_of : Bool → ℕ → Option ℕ
timeout_of given ms = pick given (Some ms) None

-- "An answer is thus a page or an error, inside one message"
abbrev pub result_of : Bool → ℤ → ℤ → Outgoing
result_of error number code = pick error (O.Error number code) (O.Payload number)

-- "Client to server: invoke .., cancel .., client fin ... Server to client: result .., server fin"; no other type is sent
unfoldable pub message_of : RelayOutgoing → Outgoing
message_of w =
    first (
    (eqb w.kind 0x2374df3d, O.Invoke w.number (actor_of w.hasactor w.actor) (timeout_of w.hastimeout w.timeout) w.tl2) ∷
    (eqb w.kind 0x193f1b22, O.Cancel w.number) ∷
    (eqb w.kind 0x0b73429e, O.ClientFin) ∷
    (eqb w.kind 0x63aeda4e, result_of w.error w.number w.code) ∷
    (eqb w.kind 0xa8ddbc46, O.ServerFin) ∷
    []
    ) (O.Unknown w.kind)

-- a packet of the link itself, by the table of "Opening", or else a message; what was drawn for a Nonce goes beside it
unfoldable pub to_send_of : RelayOutgoing → ToSend
to_send_of w =
    first (
    (eqb w.kind 0x7acb87aa, Nonce) ∷
    (eqb w.kind 0x7682eef5, Handshake w.sender w.peer) ∷
    (eqb w.kind 0x5730a2df, Ping w.id) ∷
    (eqb w.kind 0x8430eaa7, Pong) ∷
    []
    ) (Message (message_of w))

-- what was drawn for a Nonce: "16 random bytes given by the caller", and the card's point (document 02, A9)
abbrev pub drawn_of : RelayOutgoing → Drawn
drawn_of w = record { random = w.random; point = w.point }
