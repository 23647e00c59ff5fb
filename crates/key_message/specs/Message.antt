-- The init message (document 02, A8: "for versions 0, 1 and 2, as the protocol document lists them"; in the order of
-- that document's table). Assumes nothing.
use Rattle.std.specs.Prelude.{ℕ, ◌+◌, Bool, List, [], ◌∷◌, ◌++◌, length, ltb, eqb, Result, Ok, Err}
use Rattle.std.proofs.lemmas.List.Edits.{sets}
use Rattle.wire.specs.Choice.{pick, first}
use Rattle.key_front.specs.declared.Ends.{Ends}
use Rattle.key_front.specs.Front.{front_of, randoms_of}
use Rattle.refusal.specs.declared.Refusal.{Refusal}
use Rattle.refusal.specs.declared.Refusal.TheVariants.{BufferTooSmall, OutOfRange, UnsuitableKey}

-- "version 2 appends the 32 shared bytes"
unfoldable pub shared_of : ℕ → List ℕ → List ℕ
shared_of version shared = pick (eqb version 2) shared []

-- the whole: the key follows, both Nonces' random bytes a second time, and in version 2 the shared bytes
unfoldable pub message : ℕ → Bool → Ends → List ℕ → List ℕ → List ℕ
message version server s key shared = front_of version server s ++ (key ++ (randoms_of s ++ shared_of version shared))

-- its length, with a key of so many bytes (`length-message`)
unfoldable pub size_of : ℕ → ℕ → ℕ
size_of version key = pick (eqb version 2) (118 + key) (86 + key)

-- "36, then 30 for a version above 2, then 16 for the message"
unfoldable pub size_or_refusal : ℕ → ℕ → ℕ → Result ℕ Refusal
size_or_refusal version key room =
    first
    ((ltb 4096 key, Err UnsuitableKey)
    ∷ (ltb 2 version, Err OutOfRange)
    ∷ (ltb room (size_of version key), Err BufferTooSmall)
    ∷ [])
    (Ok (size_of version key))

-- the buffer after it: the message at its front, or as it was
unfoldable pub stored : Result ℕ Refusal → List ℕ → List ℕ → List ℕ
stored (Ok n) m b = sets b 0 m
stored (Err k) m b = b

unfoldable pub message_buffer : ℕ → Bool → Ends → List ℕ → List ℕ → List ℕ → List ℕ
message_buffer version server s key shared b =
    stored (size_or_refusal version (length key) (length b)) (message version server s key shared) b
