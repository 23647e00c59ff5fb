use mathlib.Core.Path.{◌≡◌}
use Prim.Native.Nat.{ℕ, ◌<◌}
use lib.ListN.{length}
use Rattle.invoke_headers.specs.Headers.{headers_from, start}
use Rattle.invoke_in.proofs.InvokeLaws.{weight}
use Rattle.invoke_in.proofs.read.read_invoke.Given as goal

-- `invoke_in::read_invoke` meets its contract: each header that is read leaves fewer to come. Assumes nothing.

abbrev pub invariant-loop-n : goal.invariant-loop-n
invariant-loop-n l = (k : ℕ) × (weight l.h < k) × (headers_from (length l.s) l.s start ≡ headers_from k l.s l.h)

abbrev pub decreases-loop-n : goal.decreases-loop-n
decreases-loop-n l = weight l.h
