-- One place: behind the free one, or not.
-- Assumes nothing.
use borrow.Author.Tests.{lt-ltb, le-ltb}
use Rattle.inflight_free.proofs.freeing.closed_up.Goals as goal

pub returns-then-a-x : goal.returns-then-a-x
returns-then-a-x c = rw (lt-ltb _ _ c.if-a-x.true)

pub returns-else-a-x : goal.returns-else-a-x
returns-else-a-x c = rw (le-ltb _ _ c.if-a-x.false)
