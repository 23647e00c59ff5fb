use mathlib.Core.Path.{◌≡◌}
use Prim.Native.Nat.{◌≤◌}
use lib.ListN.{length, take}
use Rattle.inflight.specs.Masks.{outside, placed_anew}
use Rattle.inflight_free.proofs.freeing.place_anew.Given as goal

-- A pass over the line: after some of its slots those that stay among them have the places below k.
-- Assumes nothing.

abbrev pub invariant-loop-x : goal.invariant-loop-x
invariant-loop-x l = record {
  below : l.k ≤ l.x-index;
  kept : l.k ≡ length (outside l.mask (take l.x-index l.line));
  order : l.order ≡ placed_anew (outside l.mask (take l.x-index l.line)) 0 l.initial.order;
}
