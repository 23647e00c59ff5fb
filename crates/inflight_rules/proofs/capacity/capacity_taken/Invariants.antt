use Rattle.inflight.specs.Matching.{sum_below}
use Prim.Native.Nat.{max}
use mathlib.Core.Path.{◌≡◌}
use Prim.Native.Nat.{◌+◌, ◌*◌, ◌≤◌}
use lib.ListN.{get_or}
use lib.Count.{ones}
use Rattle.inflight_rules.proofs.capacity.capacity_taken.Given as goal

-- Publisher by publisher: the sum of the loads so far, each at least 4.
-- Assumes nothing.

abbrev pub invariant-loop-m : goal.invariant-loop-m
invariant-loop-m l = (l.sum ≤ 64 * l.m-index) × (l.sum ≡ sum_below l.m-index (λ q. max 4 (ones (get_or l.masks (1 + q) 0))))
