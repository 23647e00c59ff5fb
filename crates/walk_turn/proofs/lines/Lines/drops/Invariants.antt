-- The lines of dropped requests: after i turns those of the first i. Assumes nothing.
use Rattle.std.proofs.Common.{◌+◌, ◌*◌, ◌≤◌}
use Rattle.walk_turn.specs.Lines.{drop_lines}
use Rattle.walk_turn.specs.Wrote.{Wrote}
use Rattle.walk_turn.proofs.lines.Lines.drops.Given as goal

abbrev pub invariant-loop-i : goal.invariant-loop-i
invariant-loop-i l =
    record {
      wrote : Wrote l.initial.self l.self (drop_lines l.i l.ends);
      short : l.self.size ≤ l.initial.self.size + 90 * l.i;
    }
