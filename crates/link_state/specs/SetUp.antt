-- A link before its opening (document 01, "Packets" and "Opening"). Assumes nothing.
use Rattle.std.specs.Prelude.{ℕ, Bool, true, false, List, [], ◌∷◌, length, ltb, eqb, Option, None, Some, Result, Ok, Err}
use Rattle.wire.specs.Bytes.{le, part}
use Rattle.wire.specs.Choice.{first}
use Rattle.link_state.specs.declared.Link.{Link}
use Rattle.link_state.specs.declared.Settings.{Settings}
use Rattle.refusal.specs.declared.Refusal.{Refusal}
use Rattle.refusal.specs.declared.Refusal.TheVariants.{OutOfRange, UnsuitableKey}

-- nothing went over it yet, and KeyID is this: "Each direction's first packet has number 4,294,967,294"
unfoldable pub fresh_of : Settings → ℕ → Link
fresh_of set keyid =
    record {
      set = set;
      closed = false;
      crc32c = false;
      version = 0;
      stage = 0;
      phase = 0;
      awaits = false;
      owes = false;
      ciphered = false;
      keyid = keyid;
      sends = 4294967294;
      gets = 4294967294;
      awaited = 0;
      owed = 0;
    }

-- KeyID, the key's first four bytes as a number (protocol document, "KeyID"); 0 without a key
unfoldable pub key_id_of : Option (List ℕ) → ℕ
key_id_of None = 0
key_id_of (Some key) = le (part key 0 4)

-- "a key over 4,096 bytes, and on links under 32 or with four zero bytes in front" (document 02, A8)
unfoldable pub key_unsuitable : List ℕ → Bool
key_unsuitable key =
    first (
    (ltb 4096 (length key), true) ∷
    (ltb (length key) 32, true) ∷
    []
    ) (eqb (le (part key 0 4)) 0)

-- "cipher only or either, as client offering .. 1 or 2, the last two with a key" (A9): without one such a link is
-- refused as with an unsuitable one, and so is a server that takes the cipher
unfoldable pub key_refused : Settings → Option (List ℕ) → Bool
key_refused set None = set.cipher
key_refused set (Some key) = key_unsuitable key

-- what set-up answers: 36 "first of all when a link is set up with one" (A8), then "30 for a lowest version above 2
-- when a link is set up" (A11)
unfoldable pub set_up_of : Settings → Option (List ℕ) → Result Link Refusal
set_up_of set key =
    first (
    (key_refused set key, Err UnsuitableKey) ∷
    (ltb 2 set.lowest, Err OutOfRange) ∷
    []
    ) (Ok (fresh_of set (key_id_of key)))
