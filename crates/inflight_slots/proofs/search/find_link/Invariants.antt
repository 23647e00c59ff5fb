use mathlib.Core.Path.{◌≡◌}
use Prim.Native.Nat.{◌≤◌}
use Rattle.inflight.specs.Masks.{slots, gather}
use Rattle.inflight.specs.Tables.{is_link}
use Rattle.inflight_slots.proofs.search.find_link.Given as goal

-- A search over the slots of a mask: the lowest is looked at, and the rest is left.
-- Assumes nothing.

abbrev pub invariant-loop-m : goal.invariant-loop-m
invariant-loop-m l = (l.m ≤ l.mask) × (gather (is_link l.places l.link) (slots l.m) l.found ≡ gather (is_link l.places l.link) (slots l.mask) 0)

abbrev pub decreases-loop-m : goal.decreases-loop-m
decreases-loop-m l = l.m
