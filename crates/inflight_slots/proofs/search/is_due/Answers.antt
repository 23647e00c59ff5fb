-- Whether a deadline is there, and at or before a time.
-- Assumes nothing.
use native.Mathlib.Omega.{arith}
use borrow.Author.Tests.{lt-ltb, le-ltb}
use Rattle.inflight_slots.proofs.search.is_due.Goals as goal

pub returns-then-deadline-eq0 : goal.returns-then-deadline-eq0
returns-then-deadline-eq0 c = rw (le-ltb 0 c.args.deadline (omega (arith, c.if-deadline-eq0.true)))

pub returns : goal.returns
returns c = rw (lt-ltb 0 c.args.deadline (omega (arith, c.if-deadline-eq0.false)))
