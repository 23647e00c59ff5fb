use mathlib.Core.Path.{◌≡◌}
use Prim.Native.Nat.{◌%◌}
use Rattle.inflight.specs.Masks.{slots, seek}
use Rattle.inflight.specs.Tables.{is_front}
use Rattle.inflight.proofs.MaskLaws.{Onward}
use Rattle.inflight_fronts.proofs.search.find_front.Given as goal

-- A search from four slots to the next four, the mask shortened as it goes.
-- Assumes nothing.

abbrev pub invariant-loop-m : goal.invariant-loop-m
invariant-loop-m l =
    Onward (is_front l.numbers l.places l.link l.n) l.m l.i (seek (is_front l.numbers l.places l.link l.n) (slots l.mask)) × (l.i % 4 ≡ 0)

abbrev pub decreases-loop-m : goal.decreases-loop-m
decreases-loop-m l = l.m
