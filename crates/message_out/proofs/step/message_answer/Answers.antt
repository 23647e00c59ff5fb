-- `message_out::step::message_answer` meets its contract. Assumes nothing.
use native.Mathlib.Omega.{arith}
use mathlib.Core.Path.{sym, ◌∙◌}
use Rattle.refusal.proofs.Passing.{passed}
use Rattle.packet_padding.proofs.PaddingLaws.{tail-bound}
use Rattle.message_out.proofs.PlaceLaws.{told, size_is}
use Rattle.message_out.proofs.MessageLaws.{refused-early, refused-body, sealed}
use Rattle.message_out.proofs.step.message_answer.Goals as goal

pub returns-in_err-check_early : goal.returns-in_err-check_early
returns-in_err-check_early c =
    let p = passed c.from_residual.result _ c.from_residual.ensures.1 in
    refused-early _ _ _ _ p (sym c.check_early.ensures ∙ c.in_err-check_early.was)

pub returns-in_err-len : goal.returns-in_err-len
returns-in_err-len c =
    let p = passed c.from_residual-in_err-len.result _ c.from_residual-in_err-len.ensures.1 in
    refused-body _ _ _ _ p (sym c.check_early.ensures ∙ c.in_ok-check_early.was) c.place_body.ensures.0 c.place_body.ensures.1 c.in_err-len.was

pub overflow_add-length : goal.overflow_add-length
overflow_add-length c =
    omega (arith, told _ _ _ _ c.place_body.ensures.0 c.in_ok-len.was)

pub overflow_add-size : goal.overflow_add-size
overflow_add-size c =
    omega (arith, tail-bound _ _ c.tail.ensures, told _ _ _ _ c.place_body.ensures.0 c.in_ok-len.was)

pub returns : goal.returns
returns c =
    sealed _ _ _ _ (sym c.check_early.ensures ∙ c.in_ok-check_early.was) c.place_body.ensures.0 c.place_body.ensures.1 c.in_ok-len.was
    c.kind_of.ensures (size_is _ _ c.tail.ensures) c.seal.ensures
