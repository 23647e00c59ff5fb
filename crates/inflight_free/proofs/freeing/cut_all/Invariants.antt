use mathlib.Core.Path.{◌≡◌}
use mathlib.Core.List.{◌++◌, map}
use lib.ListN.{take, drop}
use Rattle.inflight.specs.Masks.{cut}
use Rattle.inflight_free.proofs.freeing.cut_all.Given as goal

-- The nine masks, one by one.
-- Assumes nothing.

abbrev pub invariant-loop-m : goal.invariant-loop-m
invariant-loop-m l = l.masks ≡ map (cut l.mask) (take l.m-index l.initial.masks) ++ drop l.m-index l.initial.masks
