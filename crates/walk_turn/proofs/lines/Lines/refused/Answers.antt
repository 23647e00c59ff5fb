-- The line of a refusal. Assumes nothing.
use Rattle.std.proofs.Common.{ap, ◌∙◌, arith, pos}
use mir.Syntax.{w64}
use Rattle.wire.proofs.SignLaws.{back}
use Rattle.walk_turn.specs.Lines.{line, no_word, refused_line}
use Rattle.walk_turn.proofs.WroteLaws.{wrote_is}
use Rattle.walk_turn.proofs.lines.Lines.refused.Goals as goal

pub returns : goal.returns
unfolding refused_line
returns c =
    let n = back w64 c.from-2.result (omega (arith, c.from-2.ensures)) ∙ c.from-2.ensures ∙ ap pos c.from.ensures in
    wrote_is (ap (line no_word) n) c.line.ensures.wrote
