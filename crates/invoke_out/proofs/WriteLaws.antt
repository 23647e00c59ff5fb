-- How long an invoke's body is. Assumes nothing.
use mathlib.Core.Path.{◌≡◌}
use Prim.Native.Nat.{ℕ}
use native.Mathlib.Omega.{arith}
use mathlib.Core.List.{List}
use mathlib.Core.Bool.{Bool}
use lib.ListN.{length, length-append}
use lib.IntN.{ℤ}
use Rattle.wire.proofs.ByteLaws.{length-bytes}
use Rattle.invoke_out.specs.WriteInvoke.{invoke_bytes, invoke_size}
use Rattle.std.specs.Prelude.{Option}

pub body-length : (n : ℤ) (a : Option ℤ) (t : Option ℕ) (m : Bool) (p : List ℕ) → length (invoke_bytes n a t m p) ≡ invoke_size a t m p
unfolding invoke_bytes invoke_size
body-length n a t m p = simp (length-append, length-bytes) (omega arith)
