-- `cancel_out::write_cancel` meets its contract. Assumes nothing.
use mathlib.Core.Path.{refl, sym, ◌∙◌}
use mir.Syntax.{w64}
use mir.Val.{of_z}
use Rattle.refusal.proofs.Passing.{passed}
use Rattle.wire.proofs.ByteLaws.{length-bytes}
use Rattle.wire.proofs.SignLaws.{back}
use Rattle.cancel_out.specs.WriteShort.{cancel_bytes, cancel_answer}
use Rattle.cancel_out.proofs.write_cancel.Goals as goal

-- What was asked before the first store is the definition's answer.
pub returns-in_err-size : goal.returns-in_err-size
unfolding cancel_answer cancel_bytes
returns-in_err-size c =
    let b = back w64 c.args.number c.ranges.number.sfits in
    let l = length-bytes 8 (of_z w64 c.args.number) in
    let p = passed c.from_residual.result _ c.from_residual.ensures.1 in
    (p ∙ sym c.in_err-size.was ∙ rw l (rw b at c.size_or_refusal.ensures), rw p refl)

pub returns : goal.returns
unfolding cancel_answer cancel_bytes
returns c =
    let b = back w64 c.args.number c.ranges.number.sfits in
    let l = length-bytes 8 (of_z w64 c.args.number) in
    (sym c.in_ok-size.was ∙ rw l (rw b at c.size_or_refusal.ensures), rw b at c.put_i64.ensures)
