-- A stream that goes through the cipher piece by piece, each call from the vector that the call before it handed back.
-- Assumes nothing.
use Rattle.std.specs.Prelude.{◌≡◌, ℕ, List, [], ◌∷◌, ◌++◌, Result, Err}
use Rattle.refusal.specs.declared.Refusal.{Refusal}
use Rattle.refusal.specs.declared.Refusal.TheVariants.{NotWholeBlocks}
use Rattle.aes.specs.Back.{back_cipher}
use Rattle.aes.specs.Cbc.{encipher_answer, encipher_buffer, decipher_answer, decipher_buffer, next_vector}
use Rattle.cipher_laws.specs.Sizes.{Bytes, Whole}

-- one direction of the cipher: what a call leaves in the buffer and what it answers, by the vector and the buffer
pub record Way : Type 0 where
  pub buffer : List ℕ → List ℕ → List ℕ
  pub answer : List ℕ → List ℕ → Result (List ℕ) Refusal

-- `aes_encipher::encipher` under the round keys w
abbrev pub forth : List ℕ → Way
forth w = record { buffer = encipher_buffer w; answer = encipher_answer w }

-- `aes_decipher::decipher` under the round keys d
abbrev pub back : List ℕ → Way
back d = record { buffer = decipher_buffer (back_cipher d); answer = decipher_answer }

-- the vector for the next call, after one on s from the vector v
abbrev pub next : Way → List ℕ → List ℕ → List ℕ
next k v s = next_vector v (k.answer v s)

-- what the pieces are after their calls, the first from the vector v
unfoldable pub passed : Way → List ℕ → List (List ℕ) → List (List ℕ)
passed k v [] = []
passed k v (p ∷ ps) = k.buffer v p ∷ passed k (next k v p) ps

-- the vector after them, for the next call
unfoldable pub carried : Way → List ℕ → List (List ℕ) → List ℕ
carried k v [] = v
carried k v (p ∷ ps) = carried k (next k v p) ps

-- pieces of whole blocks, and of bytes
abbrev pub AllWhole : List (List ℕ) → Type 0
AllWhole [] = Unit
AllWhole (p ∷ ps) = Whole p × AllWhole ps

abbrev pub AllBytes : List (List ℕ) → Type 0
AllBytes [] = Unit
AllBytes (p ∷ ps) = Bytes p × AllBytes ps

-- two calls in a row are one: on s, and then on t from the vector that was handed back; or on both joined
pub record Joined (k : Way) (v s t : List ℕ) : Type 0 where
  pub buffers : k.buffer v (s ++ t) ≡ k.buffer v s ++ k.buffer (next k v s) t
  pub answers : k.answer v (s ++ t) ≡ k.answer (next k v s) t
  pub vectors : next k v (s ++ t) ≡ next k (next k v s) t

-- a call that is refused: buffer and vector stay
pub record Stays (k : Way) (v s : List ℕ) : Type 0 where
  pub buffers : k.buffer v s ≡ s
  pub answers : k.answer v s ≡ Err NotWholeBlocks
  pub vectors : next k v s ≡ v
