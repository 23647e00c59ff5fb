-- Lists of bytes. Assumes nothing.
use Rattle.std.specs.Prelude.{◌≡◌, ℕ, ◌%◌, ◌<◌, List, [], ◌∷◌, length}

-- each below 256
abbrev pub Bytes : List ℕ → Type 0
Bytes [] = Unit
Bytes (b ∷ s) = (b < 256) × Bytes s

-- n bytes: a key is `Sized 32`, round keys are `Sized 240`, a vector or a block is `Sized 16`
pub record Sized (n : ℕ) (s : List ℕ) : Type 0 where
  pub long : length s ≡ n
  pub low : Bytes s

-- a buffer of whole blocks
abbrev pub Whole : List ℕ → Type 0
Whole s = length s % 16 ≡ 0
