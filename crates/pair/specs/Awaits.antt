-- A link that waits for the next packet of another. Assumes nothing.
use Rattle.std.specs.Prelude.{◌≡◌, Ok}
use Rattle.link_state.specs.declared.Link.{Link}
use Rattle.packet.specs.Sum.{castagnoli_of}
use Rattle.packet_padding.specs.Padding.{pads_of}
use Rattle.link.specs.Look.{check_turn}

-- k waits for the next packet of l: it awaits its number, under the same checksum, at the same stage and with the same
-- profile in force now, is not closed, and it is l's turn
pub record Awaits (k l : Link) : Type 0 where
  pub number : k.gets ≡ l.sends
  pub checksum : castagnoli_of k ≡ castagnoli_of l
  pub stage : k.stage ≡ l.stage
  pub profile : pads_of k ≡ pads_of l
  pub turn : check_turn k ≡ Ok tt
