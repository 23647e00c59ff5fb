-- Where a packet's body is in the lent bytes (document 01, "Packets": "a second call takes the bytes and the answer and
-- hands it back, empty if there was no packet or it doesn't fit the bytes"). Assumes nothing.
use Rattle.std.specs.Prelude.{ℕ, ◌+◌, ◌&&◌, eqb, leb}
use Rattle.wire.specs.Choice.{pick}
use Rattle.receive_c.specs.declared.RelayArrival.{RelayArrival}
use Rattle.link_c.specs.declared.RelayPart.{RelayPart}

-- no bytes
abbrev pub nowhere : RelayPart
nowhere = record { at = 0; len = 0 }

-- in n bytes: where there was a packet and its body fits them
unfoldable pub body_place : ℕ → RelayArrival → RelayPart
body_place n a =
    pick (eqb a.tag 2 && leb (a.at + a.len) n) (record { at = a.at; len = a.len }) nowhere
