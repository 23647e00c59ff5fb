-- A word, a number and a line end, one after another. Assumes nothing.
use Rattle.std.proofs.Common.{ap}
use mir.Syntax.{w64}
use Rattle.wire.proofs.SignLaws.{back}
use Rattle.walk_turn.specs.Lines.{signed, line}
use Rattle.walk_turn.proofs.WroteLaws.{then, wrote_is}
use Rattle.walk_turn.proofs.lines.Lines.line.Goals as goal

pub returns-clause-wrote : goal.returns-clause-wrote
unfolding line
returns-clause-wrote c =
    let n = ap signed (back w64 c.args.n c.ranges.n.sfits) in
    then c.put.ensures (then (wrote_is n c.number.ensures.wrote) c.put-2.ensures)
