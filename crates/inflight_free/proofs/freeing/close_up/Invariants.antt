use mathlib.Core.Path.{◌≡◌}
use mathlib.Core.List.{◌++◌, map}
use lib.ListN.{take, drop}
use Rattle.inflight.specs.Masks.{closed_up}
use Rattle.inflight_free.proofs.freeing.close_up.Given as goal

-- The 64 places, one by one.
-- Assumes nothing.

abbrev pub invariant-loop-x : goal.invariant-loop-x
invariant-loop-x l = l.order ≡ map (closed_up l.a) (take l.x-index l.initial.order) ++ drop l.x-index l.initial.order
