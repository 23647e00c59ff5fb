-- `result_out::write_payload` meets its contract: number, then payload. Assumes nothing.
use mathlib.Core.Path.{refl, sym, ◌∙◌}
use mir.Syntax.{w64}
use mir.Val.{of_z}
use Rattle.refusal.proofs.Passing.{passed}
use Rattle.wire.specs.Bytes.{bytes}
use Rattle.wire.proofs.ByteLaws.{length-bytes}
use Rattle.wire.proofs.SignLaws.{back}
use Rattle.wire.proofs.StoreLaws.{runs-2}
use Rattle.result_out.specs.WriteResult.{payload_bytes, payload_answer}
use Rattle.result_out.proofs.WriteLaws.{payload-length}
use Rattle.result_out.proofs.payload.write_payload.Goals as goal

-- What was asked before the first store is the definition's answer.
pub returns-in_err-size : goal.returns-in_err-size
unfolding payload_answer
returns-in_err-size c =
    let a = c.args in
    let b = back w64 a.number c.ranges.number.sfits in
    let l = payload-length a.number a.payload.now in
    let p = passed c.from_residual.result _ c.from_residual.ensures.1 in (
      p
          ∙ sym c.in_err-size.was
          ∙ rw (l, ← c.payload_size-size.ensures, ← c.reads_as_header-refused.ensures) (rw b at c.size_or_refusal.ensures),
      rw p refl,
    )

pub returns : goal.returns
unfolding payload_answer payload_bytes
returns c =
    let a = c.args in
    let b = back w64 a.number c.ranges.number.sfits in
    let l = payload-length a.number a.payload.now in (
      sym c.in_ok-size.was
          ∙ rw (l, ← c.payload_size-size.ensures, ← c.reads_as_header-refused.ensures) (rw b at c.size_or_refusal.ensures),
      runs-2 a.d.now 0 8 (bytes 8 (of_z w64 a.number)) a.payload.now (rw b at c.put_i64.ensures) c.copy.ensures (rw length-bytes refl),
    )
