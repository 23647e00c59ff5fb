-- A part that a message names, where the body has it. Assumes nothing.
use mathlib.Core.Path.{◌≡◌}
use Prim.Native.Nat.{ℕ, ◌+◌, ◌≤◌}
use mathlib.Core.List.{List}
use lib.ListN.{length}
use borrow.Author.Tests.{le-leb}
use Rattle.wire.specs.Bytes.{part, within}

pub within-is : (s : List ℕ) (at k : ℕ) (p : List ℕ) → at + k ≤ length s → part s at k ≡ p → within s at k ≡ p
within-is s at k p h e = simp (le-leb (at + k) (length s) h) e
