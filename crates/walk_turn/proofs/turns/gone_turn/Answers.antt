-- A gone peer: its table, and its answer's lines. Assumes nothing.
use Rattle.std.proofs.Common.{ap, arith}
use Rattle.walk_turn.specs.Lines.{count_of, call_lines}
use Rattle.walk_turn.specs.Turn.{lent_slice, lines_of, after_event}
use Rattle.walk_turn.proofs.TurnLaws.{gone-count, word-short, dropped_same}
use Rattle.walk_turn.proofs.WroteLaws.{wrote_is}
use Rattle.walk_turn.proofs.turns.gone_turn.Goals as goal

pub dropped-requires : goal.dropped-requires
dropped-requires c =
    let a = c.args in
    let n = ap count_of c.gone-answer.ensures.0 in (
      c.requires,
      rw c.gone_word.ensures (word-short a.peer),
      omega (arith, n, gone-count a.table.now a.peer lent_slice),
    )

pub returns : goal.returns
unfolding lines_of after_event call_lines
returns c =
    let g = c.gone-answer.ensures in
    record { table = g.1; lines = wrote_is (dropped_same c.gone_word.ensures g.0 g.2) c.dropped.ensures }
