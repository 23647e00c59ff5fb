-- `send_rules::control::control_body_step` meets its contract. Assumes nothing.
use mathlib.Core.Path.{sym}
use Rattle.send_rules.proofs.ControlLaws.{refused-step, written_step}
use Rattle.send_rules.proofs.control.control_body_step.Goals as goal

pub returns-in-Ok : goal.returns-in-Ok
returns-in-Ok g c =
    let a = c.args in
    written_step a.link a.kind a.busy _ _ a.id a.buf.now (sym c.size-len.ensures) c.control_answer.ensures c.in-Ok.is
    c.put.ensures c.seal.ensures c.sent.ensures

pub returns-in-Err : goal.returns-in-Err
returns-in-Err g c =
    let a = c.args in
    refused-step a.link a.kind a.busy _ _ a.id a.buf.now (sym c.size-len.ensures) c.control_answer.ensures c.in-Err.is
