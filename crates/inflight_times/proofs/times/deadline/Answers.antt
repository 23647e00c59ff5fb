-- A deadline: the latest time seen plus the timeout, and none for the timeout 0.
-- Assumes nothing.
use borrow.Author.Tests.{eq-eqb, ne_eqb}
use Rattle.inflight_times.proofs.times.deadline.Goals as goal

pub returns-then-timeout-eq0 : goal.returns-then-timeout-eq0
returns-then-timeout-eq0 c = rw (eq-eqb _ _ c.if-timeout-eq0.true)

pub returns : goal.returns
returns c = rw (ne_eqb _ _ c.if-timeout-eq0.false)
