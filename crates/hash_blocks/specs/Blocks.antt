-- How MD5 and SHA-1 fill a message up to whole blocks and go through them (RFC 1321, 3.1 and 3.2; FIPS 180-4, 5.1.1).
-- Assumes nothing.
use Rattle.std.specs.Prelude.{ℕ, zero, suc, ◌*◌, ◌-◌, ◌/◌, ◌%◌, Bool, List, ◌∷◌, ◌++◌, reverse, length, drop, replicate}
use Rattle.wire.specs.Bytes.{part, bytes}
use Rattle.wire.specs.Choice.{pick}

-- the length in bits as eight bytes, so modulo 2^64: the highest byte first or the lowest
unfoldable pub length_bytes : Bool → ℕ → List ℕ
length_bytes high x = pick high (reverse (bytes 8 x)) (bytes 8 x)

-- so many zeros that with the byte 128 before them 56 bytes of the last block are full
unfoldable pub zeros_for : ℕ → ℕ
zeros_for n = (119 - n % 64) % 64

-- what follows a message of n bytes
unfoldable pub fill_of : Bool → ℕ → List ℕ
fill_of high n = 128 ∷ (replicate (zeros_for n) 0 ++ length_bytes high (8 * n))

-- the message filled up
unfoldable pub filled : Bool → List ℕ → List ℕ
filled high s = s ++ fill_of high (length s)

-- its last block or two: all that does not stand in the message as a whole block
unfoldable pub end_of : Bool → List ℕ → List ℕ
end_of high s = drop (length s / 64 * 64) s ++ fill_of high (length s)

module _ {A : Type 0} where
  -- the state a after the first n blocks of l, each of which f takes in
  unfoldable pub chained : (A → List ℕ → A) → A → List ℕ → ℕ → A
  chained f a l zero = a
  chained f a l (suc n) = f (chained f a l n) (part l (n * 64) 64)

  -- the state after the whole message
  unfoldable pub hashed : (A → List ℕ → A) → A → Bool → List ℕ → A
  hashed f a high s = chained f a (filled high s) (length (filled high s) / 64)
