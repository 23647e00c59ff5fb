use mathlib.Core.Path.{◌≡◌}
use Prim.Native.Nat.{◌≤◌}
use lib.ListN.{length, take}
use Rattle.inflight.specs.Masks.{within}
use Rattle.inflight_drop.proofs.ends.count_leaving.Given as goal

-- Byte by byte: those before it that name slots of the mask.
-- Assumes nothing.

abbrev pub invariant-loop-x : goal.invariant-loop-x
invariant-loop-x l = (l.sum ≤ l.x-index) × (l.sum ≡ length (within l.mask (take l.x-index l.line)))
