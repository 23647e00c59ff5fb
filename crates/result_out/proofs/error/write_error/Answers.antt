-- `result_out::write_error` meets its contract: number, reqError, code, text; the text fits, since the answer was a
-- size. Assumes nothing.
use mathlib.Core.Path.{◌≡◌, refl, sym, ◌∙◌}
use mathlib.Core.Bool.{false}
use native.Mathlib.Omega.{arith}
use lib.ListN.{length}
use mir.Syntax.{w32, w64}
use mir.Val.{of_z}
use Rattle.refusal.proofs.Passing.{passed}
use Rattle.wire.specs.Bytes.{bytes}
use Rattle.wire.proofs.ByteLaws.{length-bytes}
use Rattle.wire.proofs.SignLaws.{back}
use Rattle.wire.proofs.StoreLaws.{runs-4}
use Rattle.text.specs.TextForm.{text_bytes}
use Rattle.text.proofs.TextLaws.{put-fits, size-over}
use Rattle.body.proofs.WrittenLaws.{told}
use Rattle.result_out.specs.WriteResult.{error_bytes, error_size, error_answer}
use Rattle.result_out.proofs.WriteLaws.{error-length}
use Rattle.result_out.proofs.error.write_error.Goals as goal

-- What was asked before the first store is the definition's answer.
pub returns-in_err-size : goal.returns-in_err-size
unfolding error_answer
returns-in_err-size c =
    let a = c.args in
    let b = back w64 a.number c.ranges.number.sfits in
    let l = error-length a.number a.code a.text.now in
    let p = passed c.from_residual.result _ c.from_residual.ensures.1 in
    (p ∙ sym c.in_err-size.was ∙ rw (l, ← c.error_size-size.ensures) (rw b at c.size_or_refusal.ensures), rw p refl)

pub returns : goal.returns
unfolding error_answer error_bytes error_size
returns c =
    let a = c.args in
    let t = a.text.now in
    let b = back w64 a.number c.ranges.number.sfits in
    let k = back w32 a.code c.ranges.code.sfits in
    let l = error-length a.number a.code t in
    let answered : c.size_or_refusal.result ≡ error_answer a.number a.code t (length a.d.now)
    = rw (l, ← c.error_size-size.ensures) (rw b at c.size_or_refusal.ensures) in
    let g = told a.number false (length (error_bytes a.number a.code t)) (length a.d.now) (sym answered ∙ c.in_ok-size.was) in (
      sym c.in_ok-size.was ∙ answered,
      runs-4 a.d.now 0 8 12 16 (bytes 8 (of_z w64 a.number)) (bytes 4 0xb527877d) (bytes 4 (of_z w32 a.code)) (text_bytes t)
          (rw b at c.put_i64.ensures)
          c.put_u32.ensures
          (rw k at c.put_i32.ensures)
          (c.put_text.ensures
          ∙ put-fits c.put_i32.new.d 16 t (omega (arith, g.3, l, size-over (length t)))
          (omega (arith, g.4, l, c.put_i32.auto.d, c.put_u32.auto.d, c.put_i64.auto.d)))
          (rw length-bytes refl) (rw length-bytes refl) (rw length-bytes refl),
    )
