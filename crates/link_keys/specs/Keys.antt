-- The keys of a link, for one direction (document 02, A8). Assumes nothing.
use Rattle.std.specs.Prelude.{ℕ, Bool, List, ◌++◌, length, take, drop, Result, Ok, Err}
use Rattle.md5_hash.specs.Md5.{md5}
use Rattle.sha1_hash.specs.Sha1.{sha1}
use Rattle.refusal.specs.declared.Refusal.{Refusal}
use Rattle.key_front.specs.declared.Ends.{Ends}
use Rattle.key_message.specs.Message.{message, size_or_refusal}
use Rattle.link_keys.specs.declared.Derived.{Derived}

-- "the first 12 bytes of MD5 over the message without its first byte, then all 20 of SHA-1 over the whole"
unfoldable pub key_of : List ℕ → List ℕ
key_of m = take 12 (md5 (drop 1 m)) ++ sha1 m

-- "MD5 over the message without its first two bytes"
unfoldable pub vector_of : List ℕ → List ℕ
vector_of m = md5 (drop 2 m)

-- a size with its key and vector, or the refusal
unfoldable pub with_keys : Result ℕ Refusal → List ℕ → Result Derived Refusal
with_keys (Ok n) m = Ok (record { size = n; key = key_of m; vector = vector_of m })
with_keys (Err k) m = Err k

-- the derivation, into a buffer b
unfoldable pub derived : ℕ → Bool → Ends → List ℕ → List ℕ → List ℕ → Result Derived Refusal
derived version server s key shared b = with_keys (size_or_refusal version (length key) (length b))
    (message version server s key shared)
