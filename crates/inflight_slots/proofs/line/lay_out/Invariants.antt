use mathlib.Core.Path.{◌≡◌}
use Prim.Native.Nat.{◌≤◌}
use Rattle.inflight.specs.Masks.{slots, laid_out}
use Rattle.inflight_slots.proofs.line.lay_out.Given as goal

-- A pass over the slots of a mask: the lowest is laid out, and the rest is left.
-- Assumes nothing.

abbrev pub invariant-loop-m : goal.invariant-loop-m
invariant-loop-m l = (l.m ≤ l.mask) × (laid_out l.order (slots l.m) l.line ≡ laid_out l.order (slots l.mask) l.initial.line)

abbrev pub decreases-loop-m : goal.decreases-loop-m
decreases-loop-m l = l.m
