-- `hash_blocks::end::length_bytes` meets its contract. Assumes nothing.
use Rattle.std.proofs.Common.{◌≡◌, ℕ, ◌*◌, ◌%◌, reverse, ap, ◌∙◌, arith}
use Rattle.wire.specs.Bytes.{bytes}
use Rattle.wire.proofs.ByteLaws.{bytes_low}
use Rattle.hash_blocks.specs.Blocks.{length_bytes}
use Rattle.hash_blocks.proofs.Orders.{low-first, high-first}
use Rattle.hash_blocks.proofs.end.length_bytes.Goals as goal

-- eight bytes do not show what weighs 2^64 and more
wrapped : (n : ℕ) → bytes 8 (n * 8 % 18446744073709551616) ≡ bytes 8 (8 * n)
wrapped n = bytes_low 8 (n * 8) ∙ ap (bytes 8) (omega arith)

pub returns-then-high : goal.returns-then-high
unfolding length_bytes
returns-then-high c = rw c.if-high.true (c.to_be_bytes.ensures ∙ high-first 8 _ ∙ ap reverse (wrapped c.args.n))

pub returns-else-high : goal.returns-else-high
unfolding length_bytes
returns-else-high c = rw c.if-high.false (c.to_le_bytes.ensures ∙ low-first 8 _ ∙ wrapped c.args.n)
