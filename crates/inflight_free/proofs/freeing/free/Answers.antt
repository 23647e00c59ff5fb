-- The order, then the masks.
-- Assumes nothing.
use Rattle.inflight.specs.Tables.{freed}
use Rattle.inflight_free.proofs.freeing.free.Goals as goal

pub returns : goal.returns
unfolding freed
returns c = rw (c.cut_all.ensures, c.bit.ensures, c.close_up.ensures)
