-- A reply: its table, and its answer's line. Assumes nothing.
use Rattle.std.proofs.Common.{ap, ◌∙◌, arith}
use mir.Syntax.{w64}
use Rattle.wire.proofs.SignLaws.{back}
use Rattle.walk_turn.specs.Lines.{reply_word, reply_line, call_lines}
use Rattle.walk_turn.specs.Turn.{lines_of, after_event}
use Rattle.walk_turn.proofs.WroteLaws.{wrote_is, pair_is}
use Rattle.walk_turn.proofs.turns.reply_turn.Goals as goal

pub returns-in-Ok : goal.returns-in-Ok
unfolding lines_of after_event call_lines reply_line
returns-in-Ok c =
    let end = c.in-Ok.end in
    let place = back w64 c.from.result (omega (arith, c.from.ensures)) ∙ c.from.ensures in
    let number = back w64 end.number.0 (omega arith) in
    record {
      table = c.reply.ensures.1;
      lines = wrote_is (pair_is reply_word place number ∙ ap reply_line c.in-Ok.ensures.0) c.pair.ensures.wrote;
    }

pub returns-in-Err : goal.returns-in-Err
unfolding lines_of after_event call_lines reply_line
returns-in-Err c = record { table = c.reply.ensures.1; lines = wrote_is (ap reply_line c.in-Err.ensures.0) c.refused.ensures }
