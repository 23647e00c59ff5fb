-- `key_message::whole::put_message` meets its contract. Assumes nothing.
use Rattle.std.proofs.Common.{◌≡◌, length, refl, sym, ap, ◌∙◌, arith, rules}
use borrow.Author.Tests.{eq-eqb, ne_eqb}
use Rattle.key_front.specs.Front.{randoms_of}
use Rattle.key_message.proofs.Laid.{message-with, message-without, length-message}
use Rattle.key_message.proofs.whole.put_message.Goals as goal

pub returns-then-what-eq2 : goal.returns-then-what-eq2
returns-then-what-eq2 c =
    let w = c.args.what.now in
    let r : length (randoms_of w.ends) ≡ 32 = ap length (sym c.randoms.ensures) ∙ search rules in record {
      stored =
          message-with w.ends r w.version w.server c.args.key.now w.shared refl c.randoms.ensures c.args.buf.now
          (eq-eqb _ _ c.if-what-eq2.true)
          c.put_front.ensures
          c.copy.ensures
          c.copy-2.ensures
          c.copy-then-what-eq2.ensures;
      size = length-message w.ends r w.version w.server c.args.key.now w.shared (omega arith);
    }

pub returns-else-what-eq2 : goal.returns-else-what-eq2
returns-else-what-eq2 c =
    let w = c.args.what.now in
    let r : length (randoms_of w.ends) ≡ 32 = ap length (sym c.randoms.ensures) ∙ search rules in record {
      stored =
          message-without w.ends r w.version w.server c.args.key.now w.shared refl c.randoms.ensures c.args.buf.now
          (ne_eqb _ _ c.if-what-eq2.false)
          c.put_front.ensures
          c.copy.ensures
          c.copy-2.ensures;
      size = length-message w.ends r w.version w.server c.args.key.now w.shared (omega arith);
    }
