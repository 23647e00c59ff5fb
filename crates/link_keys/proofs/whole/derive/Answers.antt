-- `link_keys::whole::derive` meets its contract. Assumes nothing.
use Rattle.std.proofs.Common.{sym, ◌∙◌}
use Rattle.refusal.proofs.Passing.{passed}
use Rattle.link_keys.proofs.Laws.{refused-keys, keys-told}
use Rattle.link_keys.proofs.whole.derive.Goals as goal

pub returns-in_err-size-clause-answer : goal.returns-in_err-size-clause-answer
returns-in_err-size-clause-answer c =
    let e = sym c.write_message.ensures.answer ∙ c.in_err-size.was in
    passed c.from_residual.result _ c.from_residual.ensures.1 ∙ refused-keys _ _ _ _ _ _ e

pub returns-clause-answer : goal.returns-clause-answer
returns-clause-answer c =
    let w = c.write_message.ensures in
    let t = c.in_ok-size.ensures.size in
    keys-told _ _ _ _ _ _ (sym w.answer ∙ c.in_ok-size.was) w.buffer t.0 t.1 c.aes_key.ensures c.start_vector.ensures
