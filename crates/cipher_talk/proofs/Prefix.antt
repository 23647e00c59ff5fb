-- Bytes that are not yet a whole packet: the link that waits for it waits on. Assumes nothing.
use native.Mathlib.Omega.{arith}
use borrow.Author.Tests.{ltb-true, ltb-false, lt-ltb, le-ltb, ne_eqb, eq-eqb}
use mathlib.Core.Path.{◌≡◌, refl, ap, sym, ◌∙◌}
use mathlib.Core.Bool.{Bool, true, false}
use mathlib.Core.List.{List, [], ◌++◌, append_assoc}
use Prim.Native.Nat.{ℕ, zero, suc, ◌+◌, ◌-◌, ◌*◌, ◌≤◌, ◌<◌}
use lib.ListN.{length, take, length-take}
use lib.Seq.{take-append-add, length-take-le}
use lib.Dec.{ltb, eqb, lit<}
use Rattle.wire.specs.Bytes.{le, part, bytes}
use Rattle.wire.proofs.ByteLaws.{length-bytes, part-part}
use Rattle.link_state.specs.declared.Link.{Link}
use Rattle.link_state.specs.declared.Moment.{Moment}
use Rattle.packet_padding.specs.Padding.{tail_of, words_allowed, fours_of}
use Rattle.packet.specs.declared.Arrival.TheVariants.{Incomplete}
use Rattle.packet_head.specs.Head.{check_length, check_head}
use Rattle.packet_in.specs.Frame.{rows_of, frame_of}
use Rattle.packet_out.specs.Size.{size_of}
use Rattle.packet_out.specs.Packet.{packet_of}
use Rattle.link.specs.Look.{check_turn, look_of}
use Rattle.link.specs.Receive.{gives, receive_of}
use Rattle.pair.proofs.Words.{length-fours, words-wait, skipped}
use Rattle.pair.proofs.RoundTrip.{reads-length, reads-number, reads-kind, long}
use Rattle.cipher_talk.specs.Comes.{Fine}
use Rattle.std.specs.Prelude.{Ok}

-- s is not whole: a receive call of k answers Incomplete
pub record Waits (k : Link) (s : List ℕ) : Type 0 where
  pub lacks : ℕ
  pub is : frame_of k s ≡ Ok (Incomplete lacks)

-- and k stays, at any clock
pub waiting : (k : Link) (s : List ℕ) (m : Moment) → check_turn k ≡ Ok tt → (h : Waits k s)
    → receive_of k s m ≡ gives k (Ok (Incomplete h.lacks))
unfolding receive_of look_of
waiting k s m turn h = simp (turn, h.is)

-- ---- words

-- what stands behind xs, from byte n of both on
pub take_behind : (xs ys : List ℕ) (n i : ℕ) → n ≡ length xs + i → take n (xs ++ ys) ≡ xs ++ take i ys
take_behind xs ys n i e = ap (λ (j : ℕ). take j (xs ++ ys)) e ∙ take-append-add xs ys i

-- whole words, and less than one more
record Cut (w : ℕ) (s : List ℕ) : Type 0 where
  count : ℕ
  few : count ≤ w
  rest : List ℕ
  short : length rest < 4
  is : s ≡ fours_of count ++ rest

cut-words : (w n : ℕ) (t : List ℕ) → n ≤ w * 4 → Cut w (take n (fours_of w ++ t))
unfolding fours_of
cut-words zero n t h =
    let z : n ≡ 0 = omega arith in
    record { count = 0; few = omega arith; rest = []; short = lit< tt; is = ap (λ (j : ℕ). take j t) z }
cut-words (suc w) n t h = go (ltb n 4) refl (cut-words w (n - 4) t)
  where
    go : (b : Bool) → ltb n 4 ≡ b → (n - 4 ≤ w * 4 → Cut w (take (n - 4) (fours_of w ++ t)))
        → Cut (suc w) (take n ((bytes 4 4 ++ fours_of w) ++ t))
    go true e more =
        let g = ltb-true n 4 e in
        let r : List ℕ = take n ((bytes 4 4 ++ fours_of w) ++ t) in
        let l : length r ≤ n = simp length-take (omega arith) in
        record { count = 0; few = omega arith; rest = r; short = omega arith; is = refl }
    go false e more =
        let g = ltb-false n 4 e in
        let c = more (omega arith) in
        let b : length (bytes 4 4) ≡ 4 = length-bytes 4 4 in
        record {
          count = suc c.count;
          few = omega (arith, c.few);
          rest = c.rest;
          short = c.short;
          is = ap (take n) (append_assoc (bytes 4 4) (fours_of w) t)
              ∙ (take_behind (bytes 4 4) (fours_of w ++ t) n (n - 4) (omega arith)
              ∙ (ap (λ (x : List ℕ). bytes 4 4 ++ x) c.is
              ∙ sym (append_assoc (bytes 4 4) (fours_of c.count) c.rest)));
        }

-- words that are cut off, or some of them
pub waits-words : (k : Link) (w n : ℕ) (t : List ℕ) → w ≤ words_allowed k → n ≤ w * 4
    → Waits k (take n (fours_of w ++ t))
waits-words k w n t h g =
    let c = cut-words w n t g in
    record {
      lacks = 4 - length c.rest;
      is = ap (frame_of k) c.is ∙ words-wait k c.count c.rest (omega (arith, c.few)) c.short;
    }

-- ---- a packet

-- its length is there, its number and type are not
rows-12 : (k : Link) (p : List ℕ) (size before : ℕ) → le (part p 0 4) ≡ size → check_length k size ≡ Ok tt
    → 4 ≤ length p → length p < 12 → rows_of k p before ≡ Ok (Incomplete (12 - length p))
unfolding rows_of
rows-12 k p size before el e1 h g = simp (el, e1, le-ltb (length p) 4 h, lt-ltb (length p) 12 g)

-- they are, and all of it is not
rows-rest : (k : Link) (p : List ℕ) (size number kind before : ℕ) → le (part p 0 4) ≡ size → check_length k size ≡ Ok tt
    → le (part p 4 4) ≡ number → le (part p 8 4) ≡ kind → check_head k number kind ≡ Ok tt
    → 12 ≤ length p → length p < size + tail_of k size
    → rows_of k p before ≡ Ok (Incomplete (size + tail_of k size - length p))
unfolding rows_of
rows-rest k p size number kind before el e1 en ek e2 h g =
    let h4 : ltb (length p) 4 ≡ false = le-ltb (length p) 4 (omega arith) in
    simp (el, e1, en, ek, e2, h4, le-ltb (length p) 12 h, lt-ltb (length p) (size + tail_of k size) g)

module _ {k l : Link} {kind : ℕ} {body : List ℕ} (f : Fine k l kind body) (rest : List ℕ) where
  abbrev P : List ℕ
  P = packet_of l kind body ++ rest

  -- a field of a part
  cut_field : (j at : ℕ) → at + 4 ≤ j → le (part (take j P) at 4) ≡ le (part P at 4)
  cut_field j at h =
      let e : 0 + at ≡ at = omega arith in
      ap le (part-part P 0 j at 4 h ∙ ap (λ (i : ℕ). part P i 4) e)

  long-enough : size_of l (length body) ≤ length P
  unfolding size_of
  long-enough = long l kind body rest

  head : check_head k l.sends kind ≡ Ok tt
  unfolding check_head
  head = simp (f.awaited.number, eq-eqb l.sends l.sends refl, f.allowed)

  same-tail : (n : ℕ) → tail_of k n ≡ tail_of l n
  unfolding tail_of
  same-tail n = rw f.awaited.profile

  -- the first j bytes of it, behind w words
  module _ (w j : ℕ) (h : w ≤ words_allowed k) (g : j < size_of l (length body)) where
    long-j : length (take j P) ≡ j
    long-j = length-take-le j P (omega (arith, long-enough))

    size-j : 4 ≤ j → le (part (take j P) 0 4) ≡ length body + 16
    size-j u = cut_field j 0 (omega arith) ∙ reads-length l kind body rest f.short

    rows : 4 ≤ j → Waits k (fours_of w ++ take j P)
    unfolding size_of
    rows u = go (ltb j 12) refl
      where
        x : eqb (le (part (take j P) 0 4)) 4 ≡ false
        x = ne_eqb (le (part (take j P) 0 4)) 4 (λ e. omega (arith, size-j u))

        to-rows : frame_of k (fours_of w ++ take j P) ≡ rows_of k (take j P) (w * 4)
        to-rows = skipped k w (take j P) h (omega (arith, long-j)) x

        go : (b : Bool) → ltb j 12 ≡ b → Waits k (fours_of w ++ take j P)
        go true e =
            let i = ltb-true j 12 e in
            record {
              lacks = 12 - length (take j P);
              is = to-rows ∙ rows-12 k (take j P) (length body + 16) (w * 4) (size-j u) f.long
                  (omega (arith, long-j)) (omega (arith, long-j));
            }
        go false e =
            let i = ltb-false j 12 e in
            record {
              lacks = length body + 16 + tail_of k (length body + 16) - length (take j P);
              is = to-rows
                  ∙ rows-rest k (take j P) (length body + 16) l.sends kind (w * 4) (size-j u) f.long
                  (cut_field j 4 (omega arith) ∙ reads-number l kind body rest f.number)
                  (cut_field j 8 (omega arith) ∙ reads-kind l kind body rest f.kind_fits) head
                  (omega (arith, long-j)) (omega (arith, long-j, same-tail (length body + 16)));
            }

    pub waits-within : Waits k (fours_of w ++ take j P)
    waits-within = go (ltb j 4) refl
      where
        go : (b : Bool) → ltb j 4 ≡ b → Waits k (fours_of w ++ take j P)
        go true e =
            let i = ltb-true j 4 e in
            record {
              lacks = 4 - length (take j P);
              is = words-wait k w (take j P) h (omega (arith, long-j));
            }
        go false e = rows (ltb-false j 4 e)

  -- NOT YET WHOLE: the words before a packet and the packet, as far as they came
  pub waits-prefix : (w n : ℕ) → w ≤ words_allowed k → n < w * 4 + size_of l (length body)
      → Waits k (take n (fours_of w ++ P))
  waits-prefix w n h g = go (ltb n (w * 4)) refl
    where
      go : (b : Bool) → ltb n (w * 4) ≡ b → Waits k (take n (fours_of w ++ P))
      go true e = waits-words k w n P h (omega (arith, ltb-true n (w * 4) e))
      go false e =
          let i = ltb-false n (w * 4) e in
          rw (take_behind (fours_of w) P n (n - w * 4) (omega (arith, length-fours w)))
          (waits-within w (n - w * 4) h (omega arith))
