-- The nine masks, one by one.
-- Assumes nothing.
use native.Mathlib.Omega.{arith}
use Rattle.inflight.specs.Masks.{cut}
use Rattle.inflight.proofs.OrderLaws.{map-turn}
use Rattle.inflight_free.proofs.freeing.cut_all.Goals as goal

pub loop-m-preserved : goal.loop-m-preserved
loop-m-preserved c = map-turn (cut c.args.mask) c.args.masks.now c.loop-m.masks c.loop-m.m-index (omega arith) c.loop-m.invariant
