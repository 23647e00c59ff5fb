-- `aes_loops::chain::blocks` meets its contract. Assumes nothing.
use Rattle.std.proofs.Common.{◌≡◌, ◌*◌, ◌++◌, length, drop}
use Rattle.aes.specs.Words.{bytes_of}
use Rattle.aes_loops.specs.Chain.{vector_of, blocks_of}
use Rattle.aes_loops.proofs.chain.blocks.Given as goal

abbrev pub invariant-loop-i : goal.invariant-loop-i
invariant-loop-i g l =
    let d = g.D.TotalDirection in
    let f = d.block_makes l.k in
    let v = bytes_of l.initial.v in
    let s = l.initial.buf in record {
      vector : bytes_of l.v ≡ vector_of f d.enters d.leaves d.carries v s l.i;
      long : length (blocks_of f d.enters d.leaves d.carries v s l.i) ≡ l.i * 16;
      held : l.buf ≡ blocks_of f d.enters d.leaves d.carries v s l.i ++ drop (l.i * 16) s;
    }
