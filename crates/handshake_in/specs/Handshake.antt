-- Which Handshake is refused (document 01, "Opening": "Handshake body: flags 4, sender and peer NetPID .. At least 28
-- bytes, the rest ignored"). Assumes nothing.
use Rattle.std.specs.Prelude.{ℕ, ◌/◌, ◌%◌, Bool, not, ◌&&◌, List, [], ◌∷◌, length, ltb, eqb, Result, Ok, Err, ⊤}
use Rattle.wire.specs.Bytes.{le, part}
use Rattle.wire.specs.Choice.{first}
use Rattle.link_state.specs.declared.Settings.{Settings}
use Rattle.refusal.specs.declared.Refusal.{Refusal}
use Rattle.refusal.specs.declared.Refusal.TheVariants.{OpeningShort, BeyondOffer}

-- "Flag 0x800 offers CRC-32C .. Other flag bits are ignored"
unfoldable pub flag_of : List ℕ → Bool
flag_of b = eqb (le (part b 0 4) / 0x800 % 2) 1

-- "The flag set by a server though the client hadn't offered it is 10", after 7; a client offers it if its setting allows
unfoldable pub check_handshake : Settings → List ℕ → Result ⊤ Refusal
check_handshake set b =
    first (
    (ltb (length b) 28, Err OpeningShort) ∷
    (not set.server && (not set.allows && flag_of b), Err BeyondOffer) ∷
    []
    ) (Ok tt)
