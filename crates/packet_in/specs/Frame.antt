-- A packet at the front of the bytes (document 01, "Packets": "Bytes 0-3 length, 4-7 number, 8-11 type, then the body,
-- then a 4-byte checksum over all before it"), and on a padded link the words before it and the zeros behind (document
-- 02, A7). Assumes nothing.
use Rattle.std.specs.Prelude.{ℕ, ◌+◌, ◌-◌, ◌*◌, not, List, [], ◌∷◌, length, take, drop, ltb, eqb, Result, Ok, Err}
use Rattle.std.specs.Result.{result_and}
use Rattle.wire.specs.Bytes.{le, part}
use Rattle.wire.specs.Choice.{pick, first}
use Rattle.link_state.specs.declared.Link.{Link}
use Rattle.packet.specs.declared.Arrival.{Arrival}
use Rattle.packet.specs.declared.Arrival.TheVariants.{Incomplete, Packet}
use Rattle.packet.specs.Sum.{sum_of}
use Rattle.packet_padding.specs.Padding.{tail_of}
use Rattle.packet_head.specs.Head.{check_length, check_head}
use Rattle.packet_head.specs.Words.{words_of}
use Rattle.refusal.specs.declared.Refusal.{Refusal}
use Rattle.refusal.specs.declared.Refusal.TheVariants.{Checksum, PaddingNotZero, FourthWord}

-- "Bytes 0-3 length", of a packet at the front of s
abbrev pub length_at : List ℕ → ℕ
length_at s = le (part s 0 4)

-- "4-7 number"
abbrev pub number_at : List ℕ → ℕ
number_at s = le (part s 4 4)

-- "8-11 type"
abbrev pub kind_at : List ℕ → ℕ
kind_at s = le (part s 8 4)

-- a packet with its zeros: "used counts include .. zeros"
abbrev pub whole_size : Link → List ℕ → ℕ
whole_size l s = length_at s + tail_of l (length_at s)

-- "judges checksum and zeros when both are there", of a packet whose checksum should be sum: 6, then "25 for a padding
-- byte other than 0", which is padding that spells another number than 0; then "one packet, with its type, the bytes
-- used, and its body", where the zeros and the bytes before it are used too
abbrev pub judged_of : ℕ → List ℕ → ℕ → ℕ → ℕ → ℕ → Result Arrival Refusal
judged_of sum s kind size zeros before =
    first (
    (not (eqb (le (part s (size - 4) 4)) sum), Err Checksum) ∷
    (not (eqb (le (part s size zeros)) 0), Err PaddingNotZero) ∷
    []
    ) (Ok (Packet kind (before + (size + zeros)) (before + 12) (size - 16)))

-- "a 4-byte checksum over all before it"
unfoldable pub whole_of : Link → List ℕ → ℕ → ℕ → ℕ → ℕ → Result Arrival Refusal
whole_of l s kind size zeros before = judged_of (sum_of l (take (size - 4) s)) s kind size zeros before

-- "With n bytes, k is 4-n if n < 4, else 12-n if n < 12, else length-n. Length is checked once 4 bytes are there,
-- number then type at 12", and "wait .. counts include .. zeros": of the bytes s behind the words, which take so many
-- bytes before them
unfoldable pub rows_of : Link → List ℕ → ℕ → Result Arrival Refusal
rows_of l s before =
    pick (ltb (length s) 4) (Ok (Incomplete (4 - length s)))
    (result_and (check_length l (length_at s))
    (pick (ltb (length s) 12) (Ok (Incomplete (12 - length s)))
    (result_and (check_head l (number_at s) (kind_at s))
    (pick (ltb (length s) (whole_size l s)) (Ok (Incomplete (whole_size l s - length s)))
    (whole_of l s (kind_at s) (length_at s) (tail_of l (length_at s)) before)))))

-- "26 for a fourth word of 4, before 1"; else "The reader skips the words"
unfoldable pub frame_of : Link → List ℕ → Result Arrival Refusal
frame_of l s = first ((eqb (words_of l s) 4, Err FourthWord) ∷ []) (rows_of l (drop (words_of l s * 4) s) (words_of l s * 4))
