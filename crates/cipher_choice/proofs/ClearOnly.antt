-- A link that is clear only takes, refuses and writes what document 01 says, whatever its KeyID. Assumes nothing.
use mathlib.Core.Path.{◌≡◌, refl}
use mathlib.Core.Bool.{Bool, true, false, not}
use mathlib.Core.List.{List}
use Prim.Native.Nat.{ℕ}
use lib.Dec.{eqb}
use lib.ListN.{replicate}
use Rattle.wire.specs.Choice.{pick}
use Rattle.link_state.specs.declared.Link.{Link}
use Rattle.link_cipher.specs.Chosen.{encryption_at, server_refuses, client_refuses}
use Rattle.link_cipher.specs.Chosen.{encryption_refused, chosen_of, cipher_refused}
use Rattle.link_cipher.specs.Offered.{offer_of, encryption_of, offers_or_takes, sent_key_id, sent_point}

-- AS BEFORE: "As server, we refuse encryption 1 and accept every other value; as client, we accept only 0"
pub clear-refuses : (l : Link) (b : List ℕ) → l.set.cipher ≡ false
    → cipher_refused l b ≡ pick l.set.server (eqb (encryption_at b) 1) (not (eqb (encryption_at b) 0))
unfolding cipher_refused encryption_refused server_refuses client_refuses chosen_of
clear-refuses l b h = rw h (go (pick l.set.server (eqb (encryption_at b) 1) (not (eqb (encryption_at b) 0))))
  where
    go : (a : Bool) → pick a true false ≡ a
    go true = refl
    go false = refl

-- "We write 60 bytes with KeyID, flags and DH point zero, encryption 0"
pub clear-writes : (l : Link) (point : List ℕ) → l.set.cipher ≡ false → l.ciphered ≡ false
    → (encryption_of l ≡ 0) × ((sent_key_id l ≡ 0) × (sent_point l point ≡ replicate 32 0))
unfolding encryption_of offer_of sent_key_id sent_point offers_or_takes
clear-writes l point h c = rw (h, c) (go l.set.server)
  where
    go : (v : Bool) → (◌≡◌ {A = ℕ} (pick v 0 0) 0)
        × ((pick (pick v false false) l.keyid 0 ≡ 0)
        × (pick (pick v false false) point (replicate 32 0) ≡ replicate 32 0))
    go true = (refl, (refl, refl))
    go false = (refl, (refl, refl))
