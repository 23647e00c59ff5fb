-- Header and checksum around a body that is there: what the stores come to. Assumes nothing.
use native.Mathlib.Omega.{arith}
use borrow.Author.Tests.{le-ltb}
use mathlib.Core.Path.{◌≡◌, refl, ap, sym, ◌∙◌}
use mathlib.Core.List.{List, ◌++◌, append_assoc}
use Prim.Native.Nat.{ℕ, ◌+◌, ◌-◌, ◌≤◌}
use lib.ListN.{length, take, drop, replicate, length-take, length-drop, length-replicate}
use lib.Seq.{sets, sets-eq, drop-drop, length-sets}
use borrow.Rule.Slice.PartMut.{put_mid}
use Rattle.wire.specs.Bytes.{part, bytes}
use Rattle.wire.proofs.ByteLaws.{length-bytes, part-sets}
use Rattle.wire.proofs.StoreLaws.{runs-3, front-stored}
use Rattle.link_state.specs.declared.Link.{Link}
use Rattle.packet.specs.Sum.{sum_of}
use Rattle.packet_padding.specs.Padding.{tail_of}
use Rattle.packet_out.specs.Size.{size_of}
use Rattle.packet_out.specs.Packet.{head_of, front_of, packet_of, sealed_of}
use Rattle.packet_out.proofs.PacketLaws.{length-head, length_front, length-packet, take-front, drop-sets, store-again}

-- the room that a size asks
pub room : (l : Link) (len : ℕ) (n : ℕ) {size : ℕ} → size ≡ size_of l len → size ≤ n → len + 16 ≤ n
unfolding size_of
room l len n e h = omega arith

-- what it counts behind the checksum
pub behind : (l : Link) (len : ℕ) {size : ℕ} → size ≡ size_of l len → size - (len + 16) ≡ tail_of l (len + 16)
unfolding size_of
behind l len e = omega arith

-- a part that is filled is a run of stores
pub filled : (d : List ℕ) (at n m x : ℕ) {part : List ℕ} → m ≡ n → part ≡ replicate (length (take m (drop at d))) x → at + n ≤ length d
    → put_mid at m d part ≡ sets d at (replicate n x)
filled d at n m x em ep h =
    let t : List ℕ = replicate n x in
    let l : length t ≡ n = length-replicate n x in
    let k : length (take m (drop at d)) ≡ n = simp (length-take, length-drop) (omega arith) in
    rw (ep, k, em) (ap (λ (k : List ℕ). take at d ++ (t ++ k)) (drop-drop n at d)
    ∙ sym (rw l at (sets-eq t d at (rw l h)) ∙ append_assoc (take at d) t (drop (at + n) d)))

module _ (l : Link) (kind len : ℕ) (b : List ℕ) (fits : len + 16 ≤ length b) where
  abbrev body : List ℕ
  body = part b 12 len

  length-body : length body ≡ len
  length-body = simp (length-take, length-drop) (omega arith)

  -- the header alone brings the front about
  front-there : (b1 : List ℕ) → b1 ≡ sets b 0 (head_of (len + 16) l.sends kind) → b1 ≡ sets b 0 (front_of l kind body)
  unfolding front_of
  front-there b1 e =
      let h : length (head_of (len + 16) l.sends kind) ≡ 12 = length-head (len + 16) l.sends kind in
      e
      ∙ (sym (store-again b (head_of (len + 16) l.sends kind) len (omega arith))
      ∙ (ap (λ (k : ℕ). sets b 0 (head_of (len + 16) l.sends kind ++ part b k len)) h
      ∙ ap (λ (n : ℕ). sets b 0 (head_of (n + 16) l.sends kind ++ body)) (sym length-body)))

  -- header, then checksum, then zeros
  pub sealed : (b1 b2 b3 : List ℕ) (sum zeros : ℕ) → b1 ≡ sets b 0 (head_of (len + 16) l.sends kind) → sum ≡ sum_of l (take (len + 12) b1)
      → b2 ≡ sets b1 (len + 12) (bytes 4 sum) → zeros ≡ tail_of l (len + 16) → b3 ≡ sets b2 (len + 16) (replicate zeros 0) → b3 ≡ sets b 0 (packet_of l kind body)
  unfolding packet_of
  sealed b1 b2 b3 sum zeros e1 es e2 ez e3 =
      let F : List ℕ = front_of l kind body in
      let f1 : b1 ≡ sets b 0 F = front-there b1 e1 in
      let n : length F ≡ len + 12 = length_front l kind body ∙ ap (λ (k : ℕ). k + 12) length-body in
      let t : take (len + 12) b1 ≡ F = ap (take (len + 12)) f1 ∙ take-front b F (len + 12) n (omega arith) in
      let s : length (bytes 4 sum) ≡ 4 = length-bytes 4 sum in
      runs-3 b 0 (len + 12) (len + 16) F (bytes 4 sum) (replicate zeros 0) f1 e2 e3 (omega arith) (omega arith)
      ∙ (ap (λ (k : ℕ). sets b 0 (F ++ (bytes 4 k ++ replicate zeros 0))) (es ∙ ap (sum_of l) t)
      ∙ ap (λ (k : ℕ). sets b 0 (F ++ (bytes 4 (sum_of l F) ++ replicate k 0))) (ez ∙ ap (λ (k : ℕ). tail_of l (k + 16)) (sym length-body)))

-- a body stored from byte 12 on, and then sealed, is the packet at the front
pub sealed-over : (l : Link) (kind len : ℕ) (b body : List ℕ) {b1 b2 : List ℕ} → length body ≡ len → len ≤ 16777199 → size_of l len ≤ length b
    → b1 ≡ sets b 12 body → b2 ≡ sealed_of l kind len b1 → b2 ≡ sets b 0 (packet_of l kind body)
unfolding sealed_of
sealed-over l kind len b body {b1} {b2} is small fits e1 e2 =
    let P : List ℕ = packet_of l kind body in
    let r : len + 16 ≤ length b = room l len (length b) refl fits in
    let n1 : length b1 ≡ length b = ap length e1 ∙ length-sets b 12 body in
    let there : part b1 12 len ≡ body = ap (λ (s : List ℕ). part s 12 len) e1 ∙ part-sets b 12 len body is (omega arith) in
    let s2 : b2 ≡ sets b1 0 (packet_of l kind (part b1 12 len)) = simp (le-ltb 16777199 len small, le-ltb (length b1) (size_of l len) (omega arith)) at e2 in
    let p : length P ≡ size_of l len = length-packet l kind body ∙ ap (size_of l) is in
    let q : len + 16 ≤ length P = room l len (length P) refl (omega arith) in
    s2
    ∙ (ap (λ (x : List ℕ). sets b1 0 (packet_of l kind x)) there
    ∙ (front-stored b1 P (omega arith)
    ∙ (ap (λ (s : List ℕ). P ++ drop (length P) s) e1
    ∙ (ap (λ (r : List ℕ). P ++ r) (drop-sets (length P) b 12 body (omega arith))
    ∙ sym (front-stored b P (omega arith))))))
