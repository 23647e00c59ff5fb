-- What a receive call answered, and what a packet was, before there were padded links (document 01, "Packets" alone):
-- no words and no zeros. Assumes nothing.
use Rattle.std.specs.Prelude.{ℕ, ◌+◌, ◌-◌, not, List, [], ◌∷◌, ◌++◌, length, take, ltb, eqb, Err, Result, Ok}
use Rattle.wire.specs.Bytes.{le, part, bytes}
use Rattle.std.specs.Result.{result_and}
use Rattle.wire.specs.Choice.{pick, first}
use Rattle.link_state.specs.declared.Link.{Link}
use Rattle.link_state.specs.declared.Moment.{Moment}
use Rattle.packet.specs.Sum.{sum_of}
use Rattle.packet.specs.declared.Arrival.{Arrival}
use Rattle.packet.specs.declared.Arrival.TheVariants.{Incomplete, Packet}
use Rattle.packet_head.specs.Head.{check_length, check_head}
use Rattle.packet_in.specs.Frame.{length_at, number_at, kind_at}
use Rattle.packet_out.specs.Packet.{front_of}
use Rattle.link.specs.Look.{check_turn}
use Rattle.link.specs.Receive.{receive_by}
use Rattle.link.specs.declared.Received.{Received}
use Rattle.refusal.specs.declared.Refusal.TheVariants.{Checksum}
use Rattle.refusal.specs.declared.Refusal.{Refusal}

-- "checksum at the end"; then "one packet, with its type, the bytes used (its length), and its body"
unfoldable pub whole_before : Link → List ℕ → ℕ → ℕ → Result Arrival Refusal
whole_before l s kind size =
    first (
    (not (eqb (le (part s (size - 4) 4)) (sum_of l (take (size - 4) s))), Err Checksum) ∷
    []
    ) (Ok (Packet kind size 12 (size - 16)))

-- "With n bytes, k is 4-n if n < 4, else 12-n if n < 12, else length-n. Length is checked once 4 bytes are there,
-- number then type at 12"
unfoldable pub frame_before : Link → List ℕ → Result Arrival Refusal
frame_before l s =
    pick (ltb (length s) 4) (Ok (Incomplete (4 - length s)))
    (result_and (check_length l (length_at s))
    (pick (ltb (length s) 12) (Ok (Incomplete (12 - length s)))
    (result_and (check_head l (number_at s) (kind_at s))
    (pick (ltb (length s) (length_at s)) (Ok (Incomplete (length_at s - length s)))
    (whole_before l s (kind_at s) (length_at s))))))

-- 20, 22, then these; and the bodies as ever
unfoldable pub receive_before : Link → List ℕ → Moment → Received
receive_before l s m = receive_by l s m (result_and (check_turn l) (frame_before l s))

-- "Length is body plus 16"
unfoldable pub size_before : ℕ → ℕ
size_before len = len + 16

-- "then the body, then a 4-byte checksum over all before it"
unfoldable pub packet_before : Link → ℕ → List ℕ → List ℕ
packet_before l kind body = front_of l kind body ++ bytes 4 (sum_of l (front_of l kind body))
