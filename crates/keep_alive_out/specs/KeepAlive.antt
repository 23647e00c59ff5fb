-- Our Ping and our Pong (document 01, "Opening": "Ping and Pong hold an 8-byte ID"). Assumes nothing.
use Rattle.std.specs.Prelude.{ℕ, not, List}
use Rattle.wire.specs.Bytes.{bytes}
use Rattle.link_state.specs.declared.Link.{Link}
use Rattle.send_rules.specs.Control.{control_step, control_buffer}
use Rattle.send_rules.specs.declared.Step.{Step}

-- a Ping: "our second Ping" before the first is answered is 21
unfoldable pub ping_step : Link → ℕ → ℕ → Step
ping_step l id room = control_step l 0x5730a2df l.awaits (bytes 8 id) id room

-- the buffer after it: "Bytes past the packet stay"
unfoldable pub ping_buffer : Link → ℕ → List ℕ → List ℕ
ping_buffer l id b = control_buffer l 0x5730a2df l.awaits (bytes 8 id) b

-- a Pong: "ours takes the ID from the link", and "our Pong when none is owed" is 21
unfoldable pub pong_step : Link → ℕ → Step
pong_step l room = control_step l 0x8430eaa7 (not l.owes) (bytes 8 l.owed) 0 room

-- the buffer after it
unfoldable pub pong_buffer : Link → List ℕ → List ℕ
pong_buffer l b = control_buffer l 0x8430eaa7 (not l.owes) (bytes 8 l.owed) b
