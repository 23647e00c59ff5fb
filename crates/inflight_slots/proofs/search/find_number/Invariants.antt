use mathlib.Core.Path.{◌≡◌}
use Prim.Native.Nat.{◌≤◌}
use Rattle.inflight.specs.Masks.{slots, seek}
use Rattle.inflight.specs.Tables.{is_number}
use Rattle.inflight_slots.proofs.search.find_number.Given as goal

-- A search over the slots of a mask: the lowest is looked at, and the rest is left.
-- Assumes nothing.

abbrev pub invariant-loop-m : goal.invariant-loop-m
invariant-loop-m l = (l.m ≤ l.mask) × (seek (is_number l.numbers l.n) (slots l.m) ≡ seek (is_number l.numbers l.n) (slots l.mask))

abbrev pub decreases-loop-m : goal.decreases-loop-m
decreases-loop-m l = l.m
