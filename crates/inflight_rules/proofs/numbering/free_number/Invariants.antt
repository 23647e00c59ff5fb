use mathlib.Core.Path.{◌≡◌}
use Prim.Native.Nat.{◌≤◌}
use Rattle.inflight.specs.Tables.{free_of}
use Rattle.inflight_rules.proofs.numbering.free_number.Given as goal

-- Number by number: as long as one is in flight, the next is tried.
-- Assumes nothing.

abbrev pub invariant-loop-left : goal.invariant-loop-left
invariant-loop-left l = (l.left ≤ l.tries) × (free_of l.left l.mask l.numbers l.x ≡ free_of l.tries l.mask l.numbers l.initial.x)

abbrev pub decreases-loop-left : goal.decreases-loop-left
decreases-loop-left l = l.left
