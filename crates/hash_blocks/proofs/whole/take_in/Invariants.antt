use Rattle.std.proofs.Common.{◌≡◌}
use Rattle.hash_blocks.specs.Blocks.{chained}
use Rattle.hash_blocks.proofs.whole.take_in.Given as goal

abbrev pub invariant-loop-block : goal.invariant-loop-block
invariant-loop-block g l = l.now ≡ chained g.H.BlockHash.after l.fn.state l.s l.block-index
