-- An ask: its table, and its answer's line. Assumes nothing.
use Rattle.std.proofs.Common.{ap, ◌∙◌, arith}
use mir.Syntax.{w64}
use Rattle.wire.proofs.SignLaws.{back}
use Rattle.walk_turn.specs.Lines.{line, ask_word, ask_line, call_lines}
use Rattle.walk_turn.specs.Turn.{lines_of, after_event}
use Rattle.walk_turn.proofs.WroteLaws.{wrote_is}
use Rattle.walk_turn.proofs.turns.ask_turn.Goals as goal

pub returns-in-Ok : goal.returns-in-Ok
unfolding lines_of after_event call_lines ask_line
returns-in-Ok c =
    let n = back w64 c.in-Ok.given.0 (omega arith) in
    record { table = c.ask.ensures.1; lines = wrote_is (ap (line ask_word) n ∙ ap ask_line c.in-Ok.ensures.0) c.line.ensures.wrote }

pub returns-in-Err : goal.returns-in-Err
unfolding lines_of after_event call_lines ask_line
returns-in-Err c = record { table = c.ask.ensures.1; lines = wrote_is (ap ask_line c.in-Err.ensures.0) c.refused.ensures }
