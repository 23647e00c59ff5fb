-- A run-out: its table, and its answer's lines. Assumes nothing.
use Rattle.std.proofs.Common.{ap, refl, arith}
use Rattle.walk_turn.specs.Lines.{count_of, call_lines, out_word}
use Rattle.walk_turn.specs.Turn.{lent_slice, lines_of, after_event}
use Rattle.walk_turn.proofs.TurnLaws.{run-out-count, dropped_same}
use Rattle.walk_turn.proofs.WroteLaws.{wrote_is}
use Rattle.walk_turn.proofs.turns.run_out_turn.Goals as goal

pub dropped-requires : goal.dropped-requires
dropped-requires c =
    let a = c.args in
    let n = ap count_of c.run_out-answer.ensures.0 in
    (c.requires, omega arith, omega (arith, n, run-out-count a.table.now a.time lent_slice))

pub returns : goal.returns
unfolding lines_of after_event call_lines
returns c =
    let g = c.run_out-answer.ensures in
    record { table = g.1; lines = wrote_is (dropped_same {w = out_word} refl g.0 g.2) c.dropped.ensures }
