-- `key_message::whole::write_message` meets its contract. Assumes nothing.
use Rattle.std.proofs.Common.{sym, ◌∙◌}
use Rattle.refusal.proofs.Passing.{passed}
use Rattle.key_message.proofs.Laid.{buffer-kept, buffer-written}
use Rattle.key_message.proofs.whole.write_message.Goals as goal

pub returns-in_err-size : goal.returns-in_err-size
returns-in_err-size c =
    let p = passed c.from_residual.result _ c.from_residual.ensures.1 in
    let e = sym c.size_or_refusal.ensures.answer ∙ c.in_err-size.was in record {
      answer = p ∙ sym e;
      buffer = buffer-kept _ _ _ _ _ _ e;
      size = rw p tt;
    }

pub returns : goal.returns
returns c =
    let e = sym c.size_or_refusal.ensures.answer ∙ c.in_ok-size.was in
    let t = c.in_ok-size.ensures.told in record {
      answer = sym e;
      buffer = buffer-written _ _ _ _ _ _ e c.put_message.ensures.stored;
      size = (t.1.0, c.put_message.ensures.size ∙ sym t.1.1);
    }
