-- What the loop over a buffer's blocks computes, whatever its direction: f ciphers a block. Assumes nothing.
use Rattle.std.specs.Prelude.{ℕ, zero, suc, List, [], ◌++◌}
use Rattle.aes.specs.Cbc.{block_at}

module _ (f : List ℕ → List ℕ) (enters leaves carries : List ℕ → List ℕ → List ℕ) where
  -- what is stored in place of the block x, from the vector v
  abbrev pub stored : List ℕ → List ℕ → List ℕ
  stored v x = leaves v (f (enters v x))

  -- block i's vector, from the vector v, over the blocks of s
  unfoldable pub vector_of : List ℕ → List ℕ → ℕ → List ℕ
  vector_of v s zero = v
  vector_of v s (suc i) = carries (block_at i s) (stored (vector_of v s i) (block_at i s))

  -- what stands in place of the first n blocks of s
  unfoldable pub blocks_of : List ℕ → List ℕ → ℕ → List ℕ
  blocks_of v s zero = []
  blocks_of v s (suc n) = blocks_of v s n ++ stored (vector_of v s n) (block_at n s)
