-- The padded profile, as either direction has it (document 02, A7 and A9). Assumes nothing.
use Rattle.std.specs.Prelude.{ℕ, zero, suc, ◌+◌, ◌-◌, ◌/◌, ◌%◌, Bool, ◌&&◌, ◌||◌, List, [], ◌++◌, leb}
use Rattle.wire.specs.Bytes.{bytes}
use Rattle.wire.specs.Choice.{pick}
use Rattle.link_state.specs.declared.Link.{Link}

-- "A profile, set by hand" (A7); "On ciphered links A7's profile holds" (A9)
unfoldable pub padded_of : Link → Bool
padded_of l = l.set.padded || l.ciphered

-- "From the Handshake on": the third packet of the opening is the first that is padded, and so is all that follows it
unfoldable pub pads_of : Link → Bool
pads_of l = leb 2 l.stage && padded_of l

-- "zeros follow the checksum up to a multiple of 4": how many, behind a packet of this length
unfoldable pub tail_of : Link → ℕ → ℕ
tail_of l len = pick (pads_of l) ((4 - len % 4) % 4) 0

-- "before each packet after it there may be up to three 32-bit words of value 4": how many, before the next packet
unfoldable pub words_allowed : Link → ℕ
words_allowed l = pick (leb 4 l.stage && padded_of l) 3 0

-- so many "32-bit words of value 4"
unfoldable pub fours_of : ℕ → List ℕ
fours_of zero = []
fours_of (suc n) = bytes 4 4 ++ fours_of n

-- "the bytes since the first byte of our Handshake", after n more of them: on a padded link all that we write is whole
-- words, and a link keeps their number modulo 4
unfoldable pub phase_after : Link → ℕ → ℕ
phase_after l n = pick (pads_of l) ((l.phase + n / 4) % 4) l.phase
