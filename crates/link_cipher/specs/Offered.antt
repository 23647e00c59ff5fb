-- The encryption and the KeyID that we write (document 02, A9: "clear only, cipher only or either"). A link is clear
-- only without the setting `cipher`, cipher only with `cipher` and `only`, and set to either with `cipher` alone.
-- Assumes nothing.
use Rattle.std.specs.Prelude.{ℕ, Bool, not, List, [], ◌∷◌, replicate}
use Rattle.wire.specs.Choice.{pick, first}
use Rattle.link_state.specs.declared.Link.{Link}
use Rattle.link_state.specs.declared.Settings.{Settings}

-- "clear only, cipher only or either, as client offering 0, 1 or 2"
unfoldable pub offer_of : Settings → ℕ
offer_of set =
    first (
    (not set.cipher, 0) ∷
    (set.only, 1) ∷
    []
    ) 2

-- a client's offer; a server's answer, 1 where the cipher is chosen (Chosen.antt) and else 0
unfoldable pub encryption_of : Link → ℕ
encryption_of l = pick l.set.server (pick l.ciphered 1 0) (offer_of l.set)

-- "A side that offers or takes the cipher"
unfoldable pub offers_or_takes : Link → Bool
offers_or_takes l = pick l.set.server l.ciphered l.set.cipher

-- "writes the key's first four bytes as KeyID"; any other writes 0 (document 01, "Opening")
unfoldable pub sent_key_id : Link → ℕ
sent_key_id l = pick (offers_or_takes l) l.keyid 0

-- "and the card's 32-byte point as DH point"; any other writes zeros
unfoldable pub sent_point : Link → List ℕ → List ℕ
sent_point l point = pick (offers_or_takes l) point (replicate 32 0)
