-- Any calls on a link, in any order, with any bytes, clocks and buffers, refused ones included. Assumes nothing.
use Rattle.std.specs.Prelude.{ℕ, List, [], ◌∷◌}
use Rattle.link_state.specs.declared.Link.{Link}
use Rattle.link_state.specs.declared.Moment.{Moment}
use Rattle.link.specs.Receive.{receive_of}
use Rattle.nonce_out.specs.declared.Drawn.{Drawn}
use Rattle.message_out.specs.Outgoing.{kind_of}
use Rattle.send.specs.Send.{send_of}
use Rattle.send.specs.declared.ToSend.{ToSend}
use Rattle.send.specs.declared.ToSend.TheVariants.{Nonce, Handshake, Ping, Pong, Message}
use Rattle.flush.specs.Flush.{flush_step}

-- a receive call on some bytes; a send call: what is sent, its payload or text, what was drawn for a Nonce, and so
-- much room; a flush call with so much room
pub data Call : Type 0 where
  receives : List ℕ → Moment → Call
  sends : ToSend → List ℕ → Drawn → Moment → ℕ → Call
  flushes : ℕ → Call

-- the link after a call
abbrev pub after_call : Link → Call → Link
after_call l (receives s m) = (receive_of l s m).link
after_call l (sends w p drawn m room) = (send_of l w p drawn m room).link
after_call l (flushes room) = (flush_step l room).link

-- and after all of them
abbrev pub after_calls : Link → List Call → Link
after_calls l [] = l
after_calls l (c ∷ cs) = after_calls (after_call l c) cs

-- the type of the packet that is sent
unfoldable pub type_of : ToSend → ℕ
type_of Nonce = 0x7acb87aa
type_of (Handshake sender peer) = 0x7682eef5
type_of (Ping id) = 0x5730a2df
type_of Pong = 0x8430eaa7
type_of (Message w) = kind_of w
