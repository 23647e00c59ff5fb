-- The size of a packet, and whether it may be written (document 01, "Packets" and the send order "2, 16"). Assumes
-- nothing.
use Rattle.std.specs.Prelude.{ℕ, ◌+◌, ◌-◌, ◌%◌, [], ◌∷◌, ltb, Result, Ok, Err}
use Rattle.wire.specs.Choice.{pick, first}
use Rattle.link_state.specs.declared.Link.{Link}
use Rattle.packet_padding.specs.Padding.{pads_of, tail_of}
use Rattle.refusal.specs.declared.Refusal.{Refusal}
use Rattle.refusal.specs.declared.Refusal.TheVariants.{LengthOverLimit, BufferTooSmall}

-- "Length is body plus 16", and "the writer's size and 16 the zeros" (document 02, A7): all that a packet with a body
-- of so many bytes takes
unfoldable pub size_of : Link → ℕ → ℕ
size_of l len = len + 16 + tail_of l (len + 16)

-- a length over 16,777,215, which is a body over 16,777,199; then "buffer too small"
unfoldable pub fits_of : Link → ℕ → ℕ → Result ℕ Refusal
fits_of l len room =
    first (
    (ltb 16777199 len, Err LengthOverLimit) ∷
    (ltb room (size_of l len), Err BufferTooSmall) ∷
    []
    ) (Ok (size_of l len))

-- what of so much room a packet without its zeros may take, so that they have room too: whole words where they follow
unfoldable pub usable_of : Link → ℕ → ℕ
usable_of l room = pick (pads_of l) (room - room % 4) room
