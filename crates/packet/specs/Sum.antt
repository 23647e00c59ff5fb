-- The checksum of a packet (document 01, "Packets" and "Opening"). Assumes nothing.
use Rattle.std.specs.Prelude.{ℕ, Bool, ◌&&◌, List, leb}
use Rattle.wire.specs.Choice.{pick}
use Rattle.crc.specs.Crc.{reflected, crc}
use Rattle.crc.specs.declared.Polynomial.TheVariants.{Ieee, Castagnoli}
use Rattle.link_state.specs.declared.Link.{Link}

-- "both ends use CRC-32C from the packet after the Handshake": where it is agreed, and the opening is over
unfoldable pub castagnoli_of : Link → Bool
castagnoli_of l = l.crc32c && leb 4 l.stage

-- the checksum of a packet's bytes before it, by either kind
abbrev pub sum_as : Bool → List ℕ → ℕ
sum_as castagnoli s = pick castagnoli (crc (reflected Castagnoli) s) (crc (reflected Ieee) s)

-- by the kind in use
unfoldable pub sum_of : Link → List ℕ → ℕ
sum_of l s = sum_as (castagnoli_of l) s
