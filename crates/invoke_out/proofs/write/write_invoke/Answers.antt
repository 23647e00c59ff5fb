-- `invoke_out::write_invoke` meets its contract: number, headers, marker, payload, one after another. Assumes nothing.
use mathlib.Core.Path.{refl, sym, ap, ◌∙◌}
use Prim.Native.Nat.{ℕ, ◌+◌}
use mir.Syntax.{w64}
use mir.Val.{of_z}
use Rattle.refusal.proofs.Passing.{passed}
use Rattle.wire.specs.Bytes.{bytes}
use Rattle.wire.proofs.ByteLaws.{length-bytes}
use Rattle.wire.proofs.SignLaws.{back}
use Rattle.wire.proofs.StoreLaws.{runs-4}
use Rattle.invoke_out.specs.WriteInvoke.{header_bytes, marker_bytes, invoke_bytes, invoke_answer}
use Rattle.invoke_out.proofs.WriteLaws.{body-length}
use Rattle.invoke_out.proofs.write.write_invoke.Goals as goal

-- What was asked before the first store is the definition's answer.
pub returns-in_err-size : goal.returns-in_err-size
unfolding invoke_answer
returns-in_err-size c =
    let a = c.args in
    let b = back w64 a.number c.ranges.number.sfits in
    let l = body-length a.number a.actor a.timeout a.tl2 a.payload.now in
    let p = passed c.from_residual.result _ c.from_residual.ensures.1 in
    (p ∙ sym c.in_err-size.was ∙ rw (l, ← c.invoke_size-size.ensures, ← c.payload_refused-refused.ensures) (rw b at c.size_or_refusal.ensures), rw p refl)

pub returns : goal.returns
unfolding invoke_answer invoke_bytes
returns c =
    let a = c.args in
    let b = back w64 a.number c.ranges.number.sfits in
    let l = body-length a.number a.actor a.timeout a.tl2 a.payload.now in (
      sym c.in_ok-size.was ∙ rw (l, ← c.invoke_size-size.ensures, ← c.payload_refused-refused.ensures) (rw b at c.size_or_refusal.ensures),
      runs-4 a.d.now 0 8 (8 + c.header_size-marker.result) (8 + c.header_size-marker.result + c.marker_size.result)
          (bytes 8 (of_z w64 a.number)) (header_bytes a.actor a.timeout) (marker_bytes a.tl2) a.payload.now
          (rw b at c.put_i64.ensures) c.put_header.ensures c.put_marker.ensures c.copy.ensures
          (rw length-bytes refl)
          (ap (λ (k : ℕ). 8 + k) c.header_size-marker.ensures.0)
          (ap (λ (k : ℕ). 8 + c.header_size-marker.result + k) c.marker_size.ensures.0),
    )
