-- A word, a number, a space, a number and a line end, one after another. Assumes nothing.
use Rattle.std.proofs.Common.{ap}
use mir.Syntax.{w64}
use Rattle.wire.proofs.SignLaws.{back}
use Rattle.walk_turn.specs.Lines.{signed, pair_line}
use Rattle.walk_turn.proofs.WroteLaws.{then, wrote_is}
use Rattle.walk_turn.proofs.lines.Lines.pair.Goals as goal

pub returns-clause-wrote : goal.returns-clause-wrote
unfolding pair_line
returns-clause-wrote c =
    let a = ap signed (back w64 c.args.a c.ranges.a.sfits) in
    let b = ap signed (back w64 c.args.b c.ranges.b.sfits) in
    then c.put.ensures
    (then (wrote_is a c.number.ensures.wrote)
    (then c.put-2.ensures (then (wrote_is b c.number-2.ensures.wrote) c.put-3.ensures)))
