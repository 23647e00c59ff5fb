-- The count of ones is at most 64.
-- Assumes nothing.
use mathlib.Core.Path.{refl}
use native.Mathlib.Omega.{arith}
use lib.Count.{ones-le}
use Rattle.inflight_slots.proofs.bits.count.Goals as goal

pub overflow_cast-result : goal.overflow_cast-result
overflow_cast-result c = let h = ones-le 64 c.args.m c.ranges.m.fits in omega arith

pub returns : goal.returns
returns c = (refl, ones-le 64 c.args.m c.ranges.m.fits)
