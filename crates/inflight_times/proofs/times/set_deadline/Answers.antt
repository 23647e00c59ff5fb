-- A deadline set, and its time seen.
-- Assumes nothing.
use Rattle.inflight.specs.Tables.{timed_of}
use Rattle.inflight_times.proofs.times.set_deadline.Goals as goal

pub returns : goal.returns
unfolding timed_of
returns c = rw (← c.latest-seen.ensures.0, c.deadline.ensures)
