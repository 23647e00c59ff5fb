-- The body of a Handshake, as the stores leave it, and its length. Assumes nothing.
use native.Mathlib.Omega.{arith}
use mathlib.Core.Path.{◌≡◌, refl, ap, ◌∙◌}
use mathlib.Core.List.{List}
use Prim.Native.Nat.{ℕ, ◌+◌}
use lib.ListN.{length, length-append}
use lib.Seq.{sets}
use Rattle.wire.specs.Bytes.{bytes}
use Rattle.wire.proofs.ByteLaws.{length-bytes}
use Rattle.wire.proofs.StoreLaws.{runs-3, runs-4}
use Rattle.handshake_out.specs.Handshake.{pid_bytes, handshake_body}
use Rattle.handshake_in.specs.declared.NetPid.{NetPid}

pub length-pid : (p : NetPid) → length (pid_bytes p) ≡ 12
unfolding pid_bytes
length-pid p = simp (length-append, length-bytes)

pub pid-stored : {b1 b2 b3 b4 : List ℕ} (b : List ℕ) (at : ℕ) (p : NetPid) → b1 ≡ sets b at (bytes 4 p.ip) → b2 ≡ sets b1 (at + 4) (bytes 2 p.port)
    → b3 ≡ sets b2 (at + 6) (bytes 2 p.pid) → b4 ≡ sets b3 (at + 8) (bytes 4 p.start) → b4 ≡ sets b at (pid_bytes p)
unfolding pid_bytes
pid-stored b at p e1 e2 e3 e4 =
    runs-4 b at (at + 4) (at + 6) (at + 8) (bytes 4 p.ip) (bytes 2 p.port) (bytes 2 p.pid) (bytes 4 p.start) e1 e2 e3 e4
    (rw length-bytes refl) (rw length-bytes (omega arith)) (rw length-bytes (omega arith))

pub handshake-stored : {b1 b2 b3 : List ℕ} (b : List ℕ) (f : ℕ) (s p : NetPid) → b1 ≡ sets b 12 (bytes 4 f) → b2 ≡ sets b1 16 (pid_bytes s)
    → b3 ≡ sets b2 28 (pid_bytes p) → b3 ≡ sets b 12 (handshake_body f s p)
unfolding handshake_body
handshake-stored b f s p e1 e2 e3 = runs-3 b 12 16 28 (bytes 4 f) (pid_bytes s) (pid_bytes p) e1 e2 e3 (rw length-bytes refl) (rw length-pid refl)

pub length-handshake : (f : ℕ) (s p : NetPid) → length (handshake_body f s p) ≡ 28
unfolding handshake_body
length-handshake f s p = simp (length-append, length-bytes, length-pid)

-- the flags that are written
pub with-flags : {b1 : List ℕ} {f f' : ℕ} (b : List ℕ) (s p : NetPid) → f ≡ f' → b1 ≡ sets b 12 (handshake_body f s p) → b1 ≡ sets b 12 (handshake_body f' s p)
with-flags b s p e h = h ∙ ap (λ (n : ℕ). sets b 12 (handshake_body n s p)) e
