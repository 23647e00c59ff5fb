-- A message that a link sends (document 01, "Send order: 20, 22, 5, 21, 19, 12, 15, 2, 16"; 21 is of Ping and Pong).
-- Assumes nothing.
use Rattle.std.specs.Prelude.{ℕ, false, List, [], ◌∷◌, length, Err, Result}
use Rattle.std.specs.Result.{result_and}
use Rattle.wire.specs.Choice.{first}
use Rattle.link_state.specs.declared.Link.{Link}
use Rattle.packet_out.specs.Size.{fits_of}
use Rattle.send_rules.specs.Control.{check_send, step_by, buffer_by}
use Rattle.send_rules.specs.declared.Step.{Step}
use Rattle.message_out.specs.Outgoing.{kind_of, body_of, wrong_way, number_zero, payload_misread}
use Rattle.message_out.specs.declared.Outgoing as O
use Rattle.refusal.specs.declared.Refusal.TheVariants.{NumberZero, PayloadReadsAsHeader, TypeNotRpc}
use Rattle.refusal.specs.declared.Refusal.{Refusal}

-- the answer with the payload or text p and so much room: the whole order, then the packet's size
unfoldable pub message_answer : Link → O.Outgoing → List ℕ → ℕ → Result ℕ Refusal
message_answer l w p room =
    result_and (check_send l (kind_of w) false) (first (
    (wrong_way l.set.server w, Err TypeNotRpc) ∷
    (number_zero w, Err NumberZero) ∷
    (payload_misread w p, Err PayloadReadsAsHeader) ∷
    []
    ) (fits_of l (length (body_of w p)) room))

-- the link after the call, and the answer
unfoldable pub message_step : Link → O.Outgoing → List ℕ → ℕ → Step
message_step l w p room = step_by l (kind_of w) 0 (message_answer l w p room)

-- the buffer b after the call: "Bytes past the packet stay"
unfoldable pub message_buffer : Link → O.Outgoing → List ℕ → List ℕ → List ℕ
message_buffer l w p b = buffer_by l (kind_of w) (body_of w p) b (message_answer l w p (length b))
