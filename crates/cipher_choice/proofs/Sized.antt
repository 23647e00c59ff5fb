-- What a derivation gives are a key and a vector for the cipher: 32 bytes, and 16; and it is the same in every buffer
-- with room for the message. Assumes nothing.
use native.Mathlib.Omega.{arith}
use borrow.Author.Tests.{le-ltb}
use mathlib.Core.Path.{◌≡◌, refl}
use mathlib.Core.Bool.{Bool}
use mathlib.Core.List.{List}
use Prim.Native.Nat.{ℕ, zero, suc, ◌+◌, ◌/◌, ◌%◌, ◌≤◌, ◌<◌}
use lib.Dec.{lit<}
use lib.ListN.{length, replicate}
use Rattle.wire.specs.Bytes.{bytes}
use Rattle.md5_hash.specs.Md5 as md
use Rattle.sha1_hash.specs.Sha1 as sh
use Rattle.key_message.specs.Message.{size_of, size_or_refusal, message}
use Rattle.link_keys.specs.Keys.{key_of, vector_of, with_keys, derived}
use Rattle.cipher_laws.specs.Sizes.{Bytes, Sized}
use Rattle.cipher_choice.specs.Derives.{Known, derived_by, kept_of}
use Rattle.std.specs.Prelude.{Err, Result, Ok}
use Rattle.refusal.specs.declared.Refusal.{Refusal}

low : (x : ℕ) → x % 256 < 256
low x = omega arith

-- four bytes of a word, the lowest first or the highest, and what follows
upward : (x : ℕ) {P : Type 0} → P
    → (x % 256 < 256)
    × ((x / 256 % 256 < 256) × ((x / 256 / 256 % 256 < 256) × ((x / 256 / 256 / 256 % 256 < 256) × P)))
upward x p = (low _, (low _, (low _, (low _, p))))

downward : (x : ℕ) {P : Type 0} → P
    → (x / 256 / 256 / 256 % 256 < 256)
    × ((x / 256 / 256 % 256 < 256) × ((x / 256 % 256 < 256) × ((x % 256 < 256) × P)))
downward x p = (low _, (low _, (low _, (low _, p))))

-- FIT FOR THE CIPHER: whatever message they are of
pub vector-sized : (m : List ℕ) → Sized 16 (vector_of m)
unfolding vector_of md.md5 md.digest bytes
vector-sized m = record { long = refl; low = upward _ (upward _ (upward _ (upward _ tt))) }

pub key-sized : (m : List ℕ) → Sized 32 (key_of m)
unfolding key_of md.md5 md.digest sh.sha1 sh.digest bytes
key-sized m =
    record {
      long = refl;
      low = upward _ (upward _ (upward _ (downward _ (downward _ (downward _ (downward _ (downward _ tt)))))));
    }

module _ (k : Known) (from_server : Bool) (key b : List ℕ) where
  -- of a derivation that is refused they are zeros
  pub derived-sized : Sized 32 (kept_of (derived_by k from_server key b)).key × Sized 16 (kept_of (derived_by k from_server key b)).vector
  unfolding derived with_keys
  derived-sized = go (size_or_refusal k.version (length key) (length b))
    where
      m : List ℕ
      m = message k.version from_server k.ends key k.shared

      zero-bytes : (n : ℕ) → Bytes (replicate n 0)
      zero-bytes zero = tt
      zero-bytes (suc n) = (lit< tt, zero-bytes n)

      go : (a : Result ℕ Refusal) → Sized 32 (kept_of (with_keys a m)).key × Sized 16 (kept_of (with_keys a m)).vector
      go (Ok n) = (key-sized m, vector-sized m)
      go (Err r) = (record { long = refl; low = zero-bytes 32 }, record { long = refl; low = zero-bytes 16 })

  -- NOT REFUSED: with a key of up to 4,096 bytes and room for the message of version 2
  pub with-room : k.version ≡ 2 → length key ≤ 4096 → 118 + length key ≤ length b
      → derived_by k from_server key b
      ≡ with_keys (Ok (118 + length key)) (message 2 from_server k.ends key k.shared)
  unfolding derived size_or_refusal size_of
  with-room two short room =
      rw (two, le-ltb 4096 (length key) short, le-ltb (length b) (118 + length key) room)
