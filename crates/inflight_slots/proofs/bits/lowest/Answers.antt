-- Trailing zeros are at most 64.
-- Assumes nothing.
use mathlib.Core.Path.{refl}
use native.Mathlib.Omega.{arith}
use lib.Count.{trailing_le}
use Rattle.inflight_slots.proofs.bits.lowest.Goals as goal

pub overflow_cast-result : goal.overflow_cast-result
overflow_cast-result c = let h = trailing_le 64 c.args.m in omega arith

pub returns : goal.returns
returns c = (refl, trailing_le 64 c.args.m)
