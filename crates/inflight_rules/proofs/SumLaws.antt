-- A sum with one more.
-- Assumes nothing.
use mathlib.Core.Path.{◌≡◌}
use Prim.Native.Nat.{ℕ, ◌+◌}
use native.Mathlib.Numerals.{add-one}
use Rattle.inflight.specs.Matching.{sum_below}

pub sum_more : (p : ℕ) (f : ℕ → ℕ) → sum_below (p + 1) f ≡ sum_below p f + f p
unfolding sum_below
sum_more p f = rw (add-one p)
