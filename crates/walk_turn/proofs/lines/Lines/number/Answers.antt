-- The digits that the library writes are ours. Assumes nothing.
use Rattle.std.proofs.Common.{ap, ◌∙◌}
use mir.Syntax.{w64}
use Rattle.wire.proofs.SignLaws.{back}
use Rattle.std.specs.Fmt.{signed_decimal}
use Rattle.walk_turn.proofs.WroteLaws.{wrote_is, signed_is}
use Rattle.walk_turn.proofs.lines.Lines.number.Goals as goal

pub returns-clause-wrote : goal.returns-clause-wrote
returns-clause-wrote c =
    let n = c.args.n in
    let digits = ap signed_decimal (back w64 n c.ranges.n.sfits) ∙ signed_is n c.ranges.n in
    wrote_is (c.as_bytes.ensures.value ∙ c.format.ensures.text ∙ digits) c.put.ensures
