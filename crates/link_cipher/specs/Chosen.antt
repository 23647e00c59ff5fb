-- Which encryption in the other side's Nonce is refused, and whether the cipher is chosen (document 02, A9). Assumes
-- nothing.
use Rattle.std.specs.Prelude.{ℕ, Bool, true, false, not, ◌&&◌, List, [], ◌∷◌, ltb, eqb}
use Rattle.wire.specs.Bytes.{le, part}
use Rattle.wire.specs.Choice.{pick, first}
use Rattle.link_state.specs.declared.Link.{Link}
use Rattle.link_state.specs.declared.Settings.{Settings}

-- KeyID and encryption in a Nonce's body, "KeyID 4, encryption 1" (document 01, "Opening")
abbrev pub key_id_at : List ℕ → ℕ
key_id_at b = le (part b 0 4)

abbrev pub encryption_at : List ℕ → ℕ
encryption_at b = le (part b 4 1)

-- clear only: "we refuse encryption 1 and accept every other value" (document 01); "cipher only refuses 0" (A9); a
-- server set to either refuses none
unfoldable pub server_refuses : Settings → ℕ → Bool
server_refuses set e =
    first (
    (not set.cipher, eqb e 1) ∷
    (set.only, eqb e 0) ∷
    []
    ) false

-- "A client that offered 2 takes 0 or 1, any other just its offer": 0 of a clear-only link, 1 of a cipher-only one
unfoldable pub client_refuses : Settings → ℕ → Bool
client_refuses set e =
    first (
    (not set.cipher, not (eqb e 0)) ∷
    (set.only, not (eqb e 1)) ∷
    []
    ) (ltb 1 e)

-- an encryption that is refused "by these settings"
unfoldable pub encryption_refused : Settings → ℕ → Bool
encryption_refused set e = pick set.server (server_refuses set e) (client_refuses set e)

-- the cipher is chosen: a server that takes it "answers encryption 0 to a client's 0 and 1 to all else"; a client that
-- offered it has the answer 1
unfoldable pub chosen_of : Settings → ℕ → Bool
chosen_of set e =
    first (
    (not set.cipher, false) ∷
    (set.server, not (eqb e 0)) ∷
    []
    ) (eqb e 1)

-- "9 by these settings, or for another KeyID where the cipher is chosen"
unfoldable pub cipher_refused : Link → List ℕ → Bool
cipher_refused l b =
    first (
    (encryption_refused l.set (encryption_at b), true) ∷
    []
    ) (chosen_of l.set (encryption_at b) && not (eqb (key_id_at b) l.keyid))
