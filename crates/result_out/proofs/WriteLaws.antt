-- How long a result's body is. Assumes nothing.
use mathlib.Core.Path.{◌≡◌}
use Prim.Native.Nat.{ℕ}
use native.Mathlib.Omega.{arith}
use mathlib.Core.List.{List}
use lib.ListN.{length, length-append}
use lib.IntN.{ℤ}
use Rattle.wire.proofs.ByteLaws.{length-bytes}
use Rattle.text.proofs.TextLaws.{text-length}
use Rattle.result_out.specs.WriteResult.{payload_bytes, payload_size, error_bytes, error_size}

pub payload-length : (n : ℤ) (p : List ℕ) → length (payload_bytes n p) ≡ payload_size p
unfolding payload_bytes payload_size
payload-length n p = simp (length-append, length-bytes)

pub error-length : (n code : ℤ) (t : List ℕ) → length (error_bytes n code t) ≡ error_size t
unfolding error_bytes error_size
error-length n code t = simp (length-append, length-bytes, text-length) (omega arith)
