-- A word of four bytes twice in a number of 64 bits: turned by any number of bytes it is a part of it. Assumes
-- nothing.
use Rattle.std.specs.Prelude.{◌≡◌, List, ℕ, ◌/◌, ◌%◌}
use Rattle.aes.specs.Words.{bytes4}

-- both halves of r are the word of these bytes, the first lowest
pub record Twice (l : List ℕ) (r : ℕ) : Type 0 where
  pub word : bytes4 (r % 4294967296) ≡ l
  pub again : r / 4294967296 ≡ r % 4294967296
