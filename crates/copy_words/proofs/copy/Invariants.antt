use mathlib.Core.Path.{◌≡◌}
use Prim.Native.Nat.{◌*◌}
use lib.ListN.{length, take}
use Rattle.copy_words.proofs.copy.Given as goal

-- The words before the turn's two are copied.
-- Assumes nothing.

abbrev pub invariant-loop-k : goal.invariant-loop-k
invariant-loop-k g l = record {
  lengths : length l.to ≡ length l.from;
  copied : take (2 * l.k) l.to ≡ take (2 * l.k) l.from;
}
