use mathlib.Core.Path.{◌≡◌}
use Prim.Native.Nat.{◌*◌}
use lib.ListN.{length, take}
use Rattle.inflight.specs.Masks.{within}
use Rattle.inflight.specs.Matching.{over_front}
use Rattle.inflight.specs.Tables.{ends_of}
use Rattle.inflight_drop.proofs.ends.write_ends.Given as goal

-- The other ends, two numbers a request: after some bytes of the line the slice holds those of the leaving ones among
-- them. Assumes nothing.

abbrev pub invariant-loop-x : goal.invariant-loop-x
invariant-loop-x l = record {
  at : l.at ≡ 2 * length (within l.mask (take l.x-index l.line));
  out : l.out ≡ over_front (ends_of l.numbers l.places l.base (within l.mask (take l.x-index l.line))) l.initial.out;
}
