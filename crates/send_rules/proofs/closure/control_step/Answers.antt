-- `send_rules::closure::control_step` meets its contract. Assumes nothing.
use mathlib.Core.Path.{refl, sym, ◌∙◌}
use Rattle.send_rules.proofs.ControlLaws.{refused-step, written_step}
use Rattle.send_rules.proofs.closure.control_step.Goals as goal

pub returns-in-Ok-clause-of_body : goal.returns-in-Ok-clause-of_body
returns-in-Ok-clause-of_body g c =
    let a = c.args in
    λ body is stores.
    written_step a.link a.kind a.busy a.len body a.id a.buf.now is c.control_answer.ensures c.in-Ok.is
    (stores _ _ (record { shown = _; shows = refl; left = _; met = c.write.ensures; leaves = refl }))
    c.seal.ensures c.sent.ensures

pub returns-in-Err-clause-of_body : goal.returns-in-Err-clause-of_body
returns-in-Err-clause-of_body g c =
    let a = c.args in
    λ body is stores.
    refused-step a.link a.kind a.busy a.len body a.id a.buf.now is c.control_answer.ensures c.in-Err.is

pub returns-in-Ok-clause-buffer : goal.returns-in-Ok-clause-buffer
returns-in-Ok-clause-buffer g c =
    rw (sym c.control_answer.ensures ∙ c.in-Ok.is)
    (_, record { shown = _; shows = refl; left = _; met = c.write.ensures; leaves = refl }, c.seal.ensures)
