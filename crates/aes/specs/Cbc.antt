-- The CBC mode (NIST SP 800-38A, 6.2) and the calls (document 02, A9: "over a lent buffer of whole blocks, with the
-- vector carried from call to call"). Assumes nothing.
use Rattle.std.specs.Prelude.{ℕ, zero, suc, ◌*◌, ◌/◌, ◌%◌, List, [], ◌++◌, length, take, drop, eqb, Result, Ok, Err}
use Rattle.refusal.specs.declared.Refusal.{Refusal}
use Rattle.refusal.specs.declared.Refusal.TheVariants.{NotWholeBlocks}
use Rattle.wire.specs.Choice.{pick}
use Rattle.aes.specs.Aes.{add, cipher}

-- block i of s, the first being block 0
unfoldable pub block_at : ℕ → List ℕ → List ℕ
block_at i s = take 16 (drop (i * 16) s)

-- ---- enciphering: each block is added to the ciphered block before it, the first to the vector, and ciphered

-- what block i is added to, under the round keys w, from the vector v, over the clear blocks of s
unfoldable pub vector : List ℕ → List ℕ → List ℕ → ℕ → List ℕ
vector w v s zero = v
vector w v s (suc i) = cipher w (add (vector w v s i) (block_at i s))

-- the first n blocks of s, enciphered
unfoldable pub encipher : List ℕ → List ℕ → List ℕ → ℕ → List ℕ
encipher w v s zero = []
encipher w v s (suc n) = encipher w v s n ++ vector w v s (suc n)

-- ---- deciphering: each block is taken back, and added to the ciphered block before it, the first to the vector

-- what block i is added to, over the ciphered blocks of s
unfoldable pub before : List ℕ → List ℕ → ℕ → List ℕ
before v s zero = v
before v s (suc i) = block_at i s

-- the first n blocks of s, deciphered; f takes a block back
unfoldable pub decipher_all : (List ℕ → List ℕ) → List ℕ → List ℕ → ℕ → List ℕ
decipher_all f v s zero = []
decipher_all f v s (suc n) = decipher_all f v s n ++ add (f (block_at n s)) (before v s n)

-- ---- the calls: what is answered, the vector for the next call or a refusal, and what the buffer s is afterwards. "37
-- for a length that isn't a multiple of 16": then buffer and vector stay

unfoldable pub encipher_answer : List ℕ → List ℕ → List ℕ → Result (List ℕ) Refusal
encipher_answer w v s = pick (eqb (length s % 16) 0) (Ok (vector w v s (length s / 16))) (Err NotWholeBlocks)

unfoldable pub encipher_buffer : List ℕ → List ℕ → List ℕ → List ℕ
encipher_buffer w v s = pick (eqb (length s % 16) 0) (encipher w v s (length s / 16)) s

unfoldable pub decipher_answer : List ℕ → List ℕ → Result (List ℕ) Refusal
decipher_answer v s = pick (eqb (length s % 16) 0) (Ok (before v s (length s / 16))) (Err NotWholeBlocks)

unfoldable pub decipher_buffer : (List ℕ → List ℕ) → List ℕ → List ℕ → List ℕ
decipher_buffer f v s = pick (eqb (length s % 16) 0) (decipher_all f v s (length s / 16)) s

-- what the next call goes on from: the vector that was answered, and after a refusal the vector v that was given
unfoldable pub next_vector : List ℕ → Result (List ℕ) Refusal → List ℕ
next_vector v (Ok n) = n
next_vector v (Err r) = v

abbrev pub encipher_vector : List ℕ → List ℕ → List ℕ → List ℕ
encipher_vector w v s = next_vector v (encipher_answer w v s)

abbrev pub decipher_vector : List ℕ → List ℕ → List ℕ
decipher_vector v s = next_vector v (decipher_answer v s)
