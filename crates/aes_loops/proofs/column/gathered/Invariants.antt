-- `aes_loops::column::gathered` meets its contract. Assumes nothing.
use Rattle.std.proofs.Common.{◌≡◌}
use Rattle.aes.specs.Words.{bytes4, slant}
use Rattle.aes_loops.specs.Rows.{sums}
use Rattle.aes_loops.proofs.Turns.{Ahead}
use Rattle.aes_loops.proofs.column.gathered.Given as goal

abbrev pub invariant-loop-r : goal.invariant-loop-r
invariant-loop-r g l =
    let q = l.initial.q in
    let row = slant q.a q.b q.c q.d in
    (Ahead row l.r l.q) × (bytes4 l.x ≡ sums g.L.TotalLook.adds row (bytes4 l.k) l.r)
