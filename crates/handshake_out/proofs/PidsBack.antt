-- The NetPIDs of a Handshake that was written read back, whatever stands behind it. Assumes nothing.
use mathlib.Core.Path.{◌≡◌, refl, ap, ◌∙◌}
use mathlib.Core.List.{List, ◌++◌, append_assoc}
use Prim.Native.Nat.{ℕ, ◌+◌, ◌<◌, ◌^◌}
use lib.ListN.{length, length-append}
use Rattle.wire.specs.Bytes.{le, part, bytes}
use Rattle.wire.proofs.ByteLaws.{length-bytes, le_bytes, part-mid}
use Rattle.handshake_in.specs.declared.NetPid.{NetPid}
use Rattle.handshake_in.specs.Pids.{PidFits, pid_at, pids_of}
use Rattle.handshake_out.specs.Handshake.{pid_bytes, handshake_body}
use Rattle.handshake_out.proofs.BodyLaws.{length-pid}

-- the k bytes of a number, behind some others, are read as the number
number-back : (xs ys : List ℕ) (k n at : ℕ) → length xs ≡ at → n < 256 ^ k
    → le (part (xs ++ (bytes k n ++ ys)) at k) ≡ n
number-back xs ys k n at h fits = ap le (part-mid xs (bytes k n) ys at k h (length-bytes k n)) ∙ le_bytes k n fits

-- a NetPID behind some bytes, as the peer reads it
pid-back : (xs ys : List ℕ) (p : NetPid) (at : ℕ) → length xs ≡ at → PidFits p
    → pid_at (xs ++ (pid_bytes p ++ ys)) at ≡ p
unfolding pid_at pid_bytes
pid-back xs ys p at h f =
    let A : List ℕ = bytes 4 p.ip in
    let B : List ℕ = bytes 2 p.port in
    let C : List ℕ = bytes 2 p.pid in
    let D : List ℕ = bytes 4 p.start in
    let s : List ℕ = xs ++ (A ++ (B ++ (C ++ (D ++ ys)))) in
    let e : xs ++ ((A ++ (B ++ (C ++ D))) ++ ys) ≡ s = simp append_assoc in
    let ip : le (part s at 4) ≡ p.ip = number-back xs (B ++ (C ++ (D ++ ys))) 4 p.ip at h f.ip_fits in
    let n4 : length (xs ++ A) ≡ at + 4 = simp (length-append, length-bytes, h) in
    let port : le (part s (at + 4) 2) ≡ p.port =
    simp append_assoc at (number-back (xs ++ A) (C ++ (D ++ ys)) 2 p.port (at + 4) n4 f.port_fits) in
    let n6 : length (xs ++ (A ++ B)) ≡ at + 6 = simp (length-append, length-bytes, h) in
    let pid : le (part s (at + 6) 2) ≡ p.pid =
    simp append_assoc at (number-back (xs ++ (A ++ B)) (D ++ ys) 2 p.pid (at + 6) n6 f.pid_fits) in
    let n8 : length (xs ++ (A ++ (B ++ C))) ≡ at + 8 = simp (length-append, length-bytes, h) in
    let start : le (part s (at + 8) 4) ≡ p.start =
    simp append_assoc at (number-back (xs ++ (A ++ (B ++ C))) ys 4 p.start (at + 8) n8 f.start_fits) in
    rw (e, ip, port, pid, start) refl

module _ (flags : ℕ) (sender peer : NetPid) (fs : PidFits sender) (fp : PidFits peer) where
  -- what we write reads back, and what stands behind it does not matter: "At least 28 bytes, the rest ignored"
  pub pids-back-rest : (rest : List ℕ)
      → pids_of (handshake_body flags sender peer ++ rest) ≡ record { sender = sender; peer = peer }
  unfolding pids_of handshake_body
  pids-back-rest rest =
      let F : List ℕ = bytes 4 flags in
      let S : List ℕ = pid_bytes sender in
      let P : List ℕ = pid_bytes peer in
      let e : (F ++ (S ++ P)) ++ rest ≡ F ++ (S ++ (P ++ rest)) = simp append_assoc in
      let s : pid_at (F ++ (S ++ (P ++ rest))) 4 ≡ sender = pid-back F (P ++ rest) sender 4 (length-bytes 4 flags) fs in
      let p : pid_at (F ++ (S ++ (P ++ rest))) 16 ≡ peer =
      simp append_assoc at (pid-back (F ++ S) rest peer 16 (simp (length-append, length-bytes, length-pid)) fp) in
      rw (e, s, p) refl
