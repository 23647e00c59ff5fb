-- What the inner functions of the send call answer: its order in two halves, before and in the body (document 01, "Send
-- order"). A reader of the contract needs MessageStep alone. Assumes nothing.
use Rattle.std.specs.Prelude.{ℕ, ◌+◌, false, List, [], ◌∷◌, length, ltb, Err, Result, Ok, ⊤}
use Rattle.std.specs.Result.{result_and}
use Rattle.std.proofs.lemmas.List.Edits.{sets}
use Rattle.wire.specs.Choice.{first}
use Rattle.link_state.specs.declared.Link.{Link}
use Rattle.packet_out.specs.Size.{size_of}
use Rattle.send_rules.specs.Control.{check_send}
use Rattle.message_out.specs.Outgoing.{kind_of, body_of, wrong_way, number_zero, payload_misread}
use Rattle.message_out.specs.declared.Outgoing as O
use Rattle.refusal.specs.declared.Refusal.TheVariants.{LengthOverLimit, NumberZero, PayloadReadsAsHeader, BufferTooSmall, TypeNotRpc}
use Rattle.refusal.specs.declared.Refusal.{Refusal}

-- 20, 22, 5, 19, which need no body
unfoldable pub check_early : Link → O.Outgoing → Result ⊤ Refusal
check_early l w =
    result_and (check_send l (kind_of w) false) (first ((wrong_way l.set.server w, Err TypeNotRpc) ∷ []) (Ok tt))

-- 12, 15, 2, 16 of a body alone, for which there is so much room
unfoldable pub body_answer : O.Outgoing → List ℕ → ℕ → Result ℕ Refusal
body_answer w p room =
    first (
    (number_zero w, Err NumberZero) ∷
    (payload_misread w p, Err PayloadReadsAsHeader) ∷
    (ltb 16777215 (length (body_of w p) + 16), Err LengthOverLimit) ∷
    (ltb room (length (body_of w p)), Err BufferTooSmall) ∷
    []
    ) (Ok (length (body_of w p)))

-- the same where not even an empty packet fits
abbrev pub without_room : Result ℕ Refusal → Result ℕ Refusal
without_room r = result_and r (Err BufferTooSmall)

-- the same of a body in its packet, "from byte 12 on", for which the buffer has so much room
unfoldable pub placed_answer : Link → O.Outgoing → List ℕ → ℕ → Result ℕ Refusal
placed_answer l w p room =
    first (
    (number_zero w, Err NumberZero) ∷
    (payload_misread w p, Err PayloadReadsAsHeader) ∷
    (ltb 16777199 (length (body_of w p)), Err LengthOverLimit) ∷
    (ltb room (size_of l (length (body_of w p))), Err BufferTooSmall) ∷
    []
    ) (Ok (length (body_of w p)))

-- the buffer b with the body x in its place, or as it was
abbrev pub placed_in : Result ℕ Refusal → List ℕ → List ℕ → List ℕ
placed_in (Ok k) b x = sets b 12 x
placed_in (Err k) b x = b
