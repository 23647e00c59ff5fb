-- `aes_loops::block::round` meets its contract. Assumes nothing.
use Rattle.std.proofs.Common.{◌≡◌}
use Rattle.aes_loops.specs.Rounds.{Done, column_at, spun}
use Rattle.aes_loops.proofs.block.round.Given as goal

abbrev pub invariant-loop-j : goal.invariant-loop-j
invariant-loop-j g l =
    let n = g.D.TotalDirection.next_rows in
    (l.q ≡ spun n l.j l.initial.q) × Done (column_at g.L.TotalLook.makes n l.k l.at l.initial.q) l.j l.o
