-- A send call, whatever is sent (document 01, "Send order: 20, 22, 5, 21, 19, 12, 15, 2, 16"): what each packet's own
-- definition says. Assumes nothing.
use Rattle.std.specs.Prelude.{ℕ, List}
use Rattle.link_state.specs.declared.Link.{Link}
use Rattle.link_state.specs.declared.Moment.{Moment}
use Rattle.nonce_out.specs.Nonce.{nonce_step, nonce_buffer}
use Rattle.nonce_out.specs.declared.Drawn.{Drawn}
use Rattle.handshake_out.specs.Handshake.{handshake_step, handshake_buffer}
use Rattle.keep_alive_out.specs.KeepAlive.{ping_step, ping_buffer, pong_step, pong_buffer}
use Rattle.send_rules.specs.declared.Step.{Step}
use Rattle.message_out.specs.MessageStep.{message_step, message_buffer}
use Rattle.send.specs.declared.ToSend.{ToSend}
use Rattle.send.specs.declared.ToSend.TheVariants.{Nonce, Handshake, Ping, Pong, Message}

-- the link after the call, and the answer; p is the payload or text of a message, drawn what the
-- caller drew for a Nonce, and there is so much room
unfoldable pub send_of : Link → ToSend → List ℕ → Drawn → Moment → ℕ → Step
send_of l Nonce p drawn m room = nonce_step l drawn m room
send_of l (Handshake sender peer) p drawn m room = handshake_step l sender peer room
send_of l (Ping id) p drawn m room = ping_step l id room
send_of l Pong p drawn m room = pong_step l room
send_of l (Message w) p drawn m room = message_step l w p room

-- the buffer b after the call: "Bytes past the packet stay"
unfoldable pub send_buffer : Link → ToSend → List ℕ → Drawn → Moment → List ℕ → List ℕ
send_buffer l Nonce p drawn m b = nonce_buffer l drawn m b
send_buffer l (Handshake sender peer) p drawn m b = handshake_buffer l sender peer b
send_buffer l (Ping id) p drawn m b = ping_buffer l id b
send_buffer l Pong p drawn m b = pong_buffer l b
send_buffer l (Message w) p drawn m b = message_buffer l w p b
