-- The lowest slot of the inverted mask; where there is one, the mask has fewer than 64.
-- Assumes nothing.
use Prim.Native.Nat.{ℕ}
use native.Mathlib.Omega.{arith}
use Rattle.inflight.specs.Masks.{lowest_free}
use Rattle.inflight.proofs.MaskLaws.{room-left}
use Rattle.inflight_slots.proofs.bits.lowest_free.Goals as goal

pub returns : goal.returns
unfolding lowest_free
returns c = (c.lowest.ensures.0, c.lowest.ensures.1, λ h. let m : ℕ = c.args.m in room-left m c.ranges.m.fits (omega (arith, c.lowest.ensures.0)))
