-- What a link writes, the link that waits for it receives as the same packet, whatever bytes follow; on a padded link behind
-- up to three words too. Assumes nothing.
use borrow.Author.Tests.{le-ltb, le-leb, eq-eqb, ne_eqb}
use native.Mathlib.Omega.{arith}
use mathlib.Core.Path.{◌≡◌, refl, ap, sym, ◌∙◌}
use mathlib.Core.Bool.{Bool, true, false}
use mathlib.Core.List.{List, [], ◌++◌, append_assoc}
use Prim.Native.Nat.{ℕ, ◌+◌, ◌-◌, ◌*◌, ◌≤◌, ◌<◌, ◌^◌}
use lib.ListN.{length, take, replicate, length-append, length-replicate}
use lib.Seq.{take_at}
use lib.Dec.{ltb, eqb}
use Rattle.wire.specs.Bytes.{le, part, within, bytes}
use Rattle.wire.specs.Choice.{pick}
use Rattle.wire.proofs.ByteLaws.{Small, length-bytes, le_bytes, le-zeros, part-mid}
use Rattle.crc.specs.Crc.{reflected, crc}
use Rattle.crc.specs.declared.Polynomial.TheVariants.{Ieee, Castagnoli}
use Rattle.link_state.specs.declared.Link.{Link}
use Rattle.link_state.specs.declared.Moment.{Moment}
use Rattle.packet.specs.Sum.{castagnoli_of, sum_of}
use Rattle.packet.specs.Allowed.{allowed_of}
use Rattle.packet_padding.specs.Padding.{pads_of, tail_of, words_allowed, fours_of}
use Rattle.packet_head.specs.Head.{check_length, check_head}
use Rattle.packet_in.specs.Frame.{whole_of, rows_of}
use Rattle.packet.specs.declared.Arrival.TheVariants.{Packet}
use Rattle.packet_out.specs.Size.{size_of}
use Rattle.packet_out.specs.Packet.{head_of, front_of, packet_of}
use Rattle.packet_out.proofs.PacketLaws.{length_front, length-packet}
use Rattle.link.specs.Look.{look_of}
use Rattle.link_next.specs.Next.{after_of}
use Rattle.link.specs.Receive.{check_body, gives, refuse, receive_of}
use Rattle.pair.specs.Awaits.{Awaits}
use Rattle.pair.proofs.SumLaws.{small-front, sum_lt}
use Rattle.pair.proofs.Words.{length-fours, skipped}
use Rattle.std.specs.Prelude.{Ok, Err}
use Rattle.refusal.specs.declared.Refusal.{Refusal}

-- four bytes of a number below 2 ^ 32, behind some others, are read as the number
pub field : (xs ys : List ℕ) (x at : ℕ) → length xs ≡ at → x < 2 ^ 32 → le (part (xs ++ (bytes 4 x ++ ys)) at 4) ≡ x
field xs ys x at h small = ap le (part-mid xs (bytes 4 x) ys at 4 h (length-bytes 4 x)) ∙ le_bytes 4 x small

-- two links under the same checksum
same_sum : (k l : Link) (s : List ℕ) → castagnoli_of k ≡ castagnoli_of l → sum_of k s ≡ sum_of l s
unfolding sum_of
same_sum k l s e = ap (λ (c : Bool). pick c (crc (reflected Castagnoli) s) (crc (reflected Ieee) s)) e

-- and with the same profile
same-tail : (k l : Link) (n : ℕ) → pads_of k ≡ pads_of l → tail_of k n ≡ tail_of l n
unfolding tail_of
same-tail k l n e = rw e

-- a whole packet at the front of p, behind so many bytes, passes every row
rows_whole : (k : Link) (p : List ℕ) (size zeros number kind before : ℕ) → le (part p 0 4) ≡ size → check_length k size ≡ Ok tt → 12 ≤ length p → le (part p 4 4) ≡ number
    → le (part p 8 4) ≡ kind → check_head k number kind ≡ Ok tt → tail_of k size ≡ zeros → size + zeros ≤ length p → le (part p (size - 4) 4) ≡ sum_of k (take (size - 4) p)
    → le (part p size zeros) ≡ 0 → rows_of k p before ≡ Ok (Packet kind (before + (size + zeros)) (before + 12) (size - 16))
unfolding rows_of whole_of
rows_whole k p size zeros number kind before el e1 h12 en ek e2 et hs es ez =
    let h4 : ltb (length p) 4 ≡ false = le-ltb (length p) 4 (omega arith) in
    simp (
      el,
      en,
      ek,
      et,
      es,
      ez,
      e1,
      e2,
      h4,
      le-ltb (length p) 12 h12,
      le-ltb (length p) (size + zeros) hs,
      eq-eqb _ _ (refl {a = sum_of k (take (size - 4) p)}),
    )

-- ---- the packet of a link, as a reader finds it

module _ (l : Link) (kind : ℕ) (body rest : List ℕ) where
  abbrev size : ℕ
  size = length body + 16

  abbrev zeros : ℕ
  zeros = tail_of l (length body + 16)

  abbrev F : List ℕ
  F = front_of l kind body

  abbrev p : List ℕ
  p = packet_of l kind body ++ rest

  -- what follows the body
  abbrev after-body : List ℕ
  after-body = bytes 4 (sum_of l F) ++ (replicate zeros 0 ++ rest)

  -- the whole, from the front
  shape : p ≡ bytes 4 size ++ (bytes 4 l.sends ++ (bytes 4 kind ++ (body ++ after-body)))
  unfolding packet_of front_of head_of
  shape = simp append_assoc

  pub reads-length : size < 2 ^ 32 → le (part p 0 4) ≡ size
  reads-length h = ap (λ (t : List ℕ). le (part t 0 4)) shape ∙ field [] _ size 0 refl h

  pub reads-number : l.sends < 2 ^ 32 → le (part p 4 4) ≡ l.sends
  reads-number h = ap (λ (t : List ℕ). le (part t 4 4)) shape ∙ field (bytes 4 size) _ l.sends 4 (length-bytes 4 size) h

  pub reads-kind : kind < 2 ^ 32 → le (part p 8 4) ≡ kind
  reads-kind h =
      let e : length (bytes 4 size ++ bytes 4 l.sends) ≡ 8 = simp (length-append, length-bytes) in
      ap (λ (t : List ℕ). le (part t 8 4)) (shape ∙ sym (append_assoc (bytes 4 size) (bytes 4 l.sends) _))
      ∙ field (bytes 4 size ++ bytes 4 l.sends) _ kind 8 e h

  -- front, checksum, zeros, rest
  split : p ≡ F ++ after-body
  unfolding packet_of
  split = simp append_assoc

  front_long : length F ≡ size - 4
  front_long = length_front l kind body ∙ (let e : length body + 12 ≡ length body + 16 - 4 = omega arith in e)

  reads-front : take (size - 4) p ≡ F
  reads-front = ap (take (size - 4)) split ∙ take_at F _ (size - 4) front_long

  reads-sum : Small body → le (part p (size - 4) 4) ≡ sum_of l F
  reads-sum g = ap (λ (t : List ℕ). le (part t (size - 4) 4)) split ∙ field F _ (sum_of l F) (size - 4) front_long (sum_lt l F (small-front l kind body g))

  reads-zeros : le (part p size zeros) ≡ 0
  reads-zeros =
      let n : length (F ++ bytes 4 (sum_of l F)) ≡ size = simp (length-append, length-bytes) (omega (arith, front_long)) in
      ap (λ (t : List ℕ). le (part t size zeros)) (split ∙ sym (append_assoc F (bytes 4 (sum_of l F)) (replicate zeros 0 ++ rest)))
      ∙ (ap le (part-mid (F ++ bytes 4 (sum_of l F)) (replicate zeros 0) rest size zeros n (length-replicate zeros 0)) ∙ le-zeros zeros)

  pub long : size + zeros ≤ length p
  unfolding size_of
  long = simp length-append (omega (arith, length-packet l kind body))

  -- behind w words too
  pub reads-behind : (w : ℕ) → within (fours_of w ++ p) (w * 4 + 12) (length body) ≡ body
  reads-behind w =
      let H : List ℕ = bytes 4 size ++ (bytes 4 l.sends ++ bytes 4 kind) in
      let q : fours_of w ++ p ≡ (fours_of w ++ H) ++ (body ++ after-body) = ap (λ (t : List ℕ). fours_of w ++ t) shape ∙ simp append_assoc in
      let n : length (fours_of w ++ H) ≡ w * 4 + 12 = simp (length-append, length-bytes, length-fours) in
      let k : length (fours_of w ++ p) ≡ w * 4 + length p = simp (length-append, length-fours) in
      let m : w * 4 + 12 + length body ≤ length (fours_of w ++ p) = omega (arith, long, k) in
      rw (le-leb (w * 4 + 12 + length body) (length (fours_of w ++ p)) m)
      (ap (λ (t : List ℕ). part t (w * 4 + 12) (length body)) q ∙ part-mid (fours_of w ++ H) body _ (w * 4 + 12) (length body) n refl)

  pub reads-body : within p 12 (length body) ≡ body
  unfolding fours_of
  reads-body = reads-behind 0

-- ---- the round trip

module _ (l : Link) (kind : ℕ) (body rest : List ℕ) (k : Link) (a : Awaits k l) (len : check_length k (length body + 16) ≡ Ok tt)
    (may : allowed_of k kind ≡ true) (number : l.sends < 2 ^ 32) (small : length body + 16 < 2 ^ 32) (kind_fits : kind < 2 ^ 32) (g : Small body) where
  head : check_head k l.sends kind ≡ Ok tt
  unfolding check_head
  head = simp (a.number, eq-eqb l.sends l.sends refl, may)

  -- so many bytes before it
  framed : (before : ℕ) → rows_of k (packet_of l kind body ++ rest) before ≡ Ok (Packet kind (before + size_of l (length body)) (before + 12) (length body))
  unfolding size_of
  framed before =
      let P : List ℕ = packet_of l kind body ++ rest in
      let z : ℕ = tail_of l (length body + 16) in
      let sum : le (part P (length body + 16 - 4) 4) ≡ sum_of k (take (length body + 16 - 4) P) =
      reads-sum l kind body rest g
      ∙ (sym (same_sum k l (front_of l kind body) a.checksum)
      ∙ ap (sum_of k) (sym (reads-front l kind body rest))) in
      let e : length body + 16 - 16 ≡ length body = omega arith in
      rows_whole k P (length body + 16) z l.sends kind before (reads-length l kind body rest small) len (omega (arith, long l kind body rest))
      (reads-number l kind body rest number) (reads-kind l kind body rest kind_fits) head (same-tail k l (length body + 16) a.profile) (long l kind body rest) sum
      (reads-zeros l kind body rest)
      ∙ ap (λ (n : ℕ). Ok (Packet kind (before + (length body + 16 + z)) (before + 12) n)) e

  -- behind w words
  looked : (w : ℕ) → w ≤ words_allowed k
      → look_of k (fours_of w ++ (packet_of l kind body ++ rest)) ≡ Ok (Packet kind (w * 4 + size_of l (length body)) (w * 4 + 12) (length body))
  unfolding look_of
  looked w h =
      let P : List ℕ = packet_of l kind body ++ rest in
      let r : le (part P 0 4) ≡ length body + 16 = reads-length l kind body rest small in
      let x : eqb (le (part P 0 4)) 4 ≡ false = ne_eqb (le (part P 0 4)) 4 (λ e. omega arith) in
      simp (a.turn, skipped k w P h (omega (arith, long l kind body rest)) x, framed (w * 4))

  -- THE ROUND TRIP: with as many words before it as the link allows, the answer is the packet that was sent, its body is
  -- the one that was written, and the link steps by it
  pub received-behind : (w : ℕ) → w ≤ words_allowed k → (m : Moment) → check_body k kind body m ≡ Ok tt
      → receive_of k (fours_of w ++ (packet_of l kind body ++ rest)) m
      ≡ gives (after_of k kind body m) (Ok (Packet kind (w * 4 + size_of l (length body)) (w * 4 + 12) (length body)))
  unfolding receive_of
  received-behind w h m ok = rw (looked w h, reads-behind l kind body rest w, ok)

  looked-first : look_of k (packet_of l kind body ++ rest) ≡ Ok (Packet kind (size_of l (length body)) 12 (length body))
  unfolding fours_of
  looked-first =
      let e : 0 * 4 + size_of l (length body) ≡ size_of l (length body) = omega arith in
      looked 0 (omega arith) ∙ ap (λ (n : ℕ). Ok (Packet kind n 12 (length body))) e

  -- with none
  pub received : (m : Moment) → check_body k kind body m ≡ Ok tt
      → receive_of k (packet_of l kind body ++ rest) m ≡ gives (after_of k kind body m) (Ok (Packet kind (size_of l (length body)) 12 (length body)))
  unfolding receive_of
  received m ok = rw (looked-first, reads-body l kind body rest, ok)

  -- a body that the link refuses
  pub body_refused : (m : Moment) (r : Refusal) → check_body k kind body m ≡ Err r → receive_of k (packet_of l kind body ++ rest) m ≡ refuse k r
  unfolding receive_of
  body_refused m r bad = rw (looked-first, reads-body l kind body rest, bad)
