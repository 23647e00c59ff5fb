-- `aes_loops::block::block` meets its contract. Assumes nothing.
use Rattle.std.proofs.Common.{◌≡◌}
use Rattle.aes.specs.Words.{bytes_of}
use Rattle.aes_loops.specs.Rounds.{rounds_of}
use Rattle.aes_loops.proofs.block.block.Given as goal

abbrev pub invariant-loop-n : goal.invariant-loop-n
invariant-loop-n g l =
    let d = g.D.TotalDirection in
    bytes_of l.x ≡ rounds_of d.round_makes d.place_of l.n l.k (bytes_of l.initial.x)
