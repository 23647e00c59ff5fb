-- Number by number: as long as one is in flight, the next is tried.
-- Assumes nothing.
use Rattle.inflight_rules.proofs.FreeLaws.{free-yes, free-no, free-zero}
use mathlib.Core.Path.{sym, ◌∙◌}
use native.Mathlib.Omega.{arith}
use Rattle.inflight_rules.proofs.numbering.free_number.Goals as goal

pub returns-then-find_number-eq64 : goal.returns-then-find_number-eq64
returns-then-find_number-eq64 c = sym (free-yes c.args.mask c.args.numbers.now c.loop-left.x c.loop-left.left (omega arith) (sym c.find_number.ensures ∙ c.if-find_number-eq64.true)) ∙ c.loop-left.invariant.1

pub loop-left-preserved : goal.loop-left-preserved
loop-left-preserved c = (omega arith, rw c.step-x.ensures (sym (free-no c.args.mask c.args.numbers.now c.loop-left.x c.loop-left.left (omega arith) (λ q. c.if-find_number-eq64.false (c.find_number.ensures ∙ q)))) ∙ c.loop-left.invariant.1)

pub returns : goal.returns
returns c = sym (free-zero c.args.mask c.loop-left.left c.args.numbers.now c.loop-left.x (omega arith)) ∙ c.loop-left.invariant.1
