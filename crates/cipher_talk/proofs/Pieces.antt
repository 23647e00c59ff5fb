-- ANY PIECES: packets that come in pieces cut anywhere are taken as if all had come at once. Assumes nothing.
use native.Mathlib.Omega.{arith}
use borrow.Author.Tests.{ltb-true, ltb-false}
use mathlib.Core.Path.{◌≡◌, refl, ap, sym, ◌∙◌}
use mathlib.Core.Bool.{Bool, true, false, not}
use mathlib.Core.List.{List, [], ◌∷◌, ◌++◌, append_assoc, append-nil}
use Prim.Native.Nat.{ℕ, zero, suc, ◌+◌, ◌*◌, ◌≤◌, ◌<◌}
use lib.ListN.{length, take, drop, length-append, take-append-drop}
use lib.Seq.{take-append-le, drop-append-le, take_at, drop_at}
use lib.Dec.{ltb}
use Rattle.wire.specs.Choice.{pick}
use Rattle.link_state.specs.declared.Link.{Link}
use Rattle.link_state.specs.declared.Moment.{Moment}
use Rattle.packet.specs.Body.{body_of}
use Rattle.packet_padding.specs.Padding.{words_allowed, fours_of}
use Rattle.packet.specs.declared.Arrival.TheVariants.{Packet}
use Rattle.packet_out.specs.Size.{size_of}
use Rattle.packet_out.specs.Packet.{packet_of}
use Rattle.packet_out.proofs.PacketLaws.{length-packet}
use Rattle.link.specs.Look.{check_turn}
use Rattle.link_next.specs.Next.{after_of}
use Rattle.link.specs.Receive.{gives, receive_of}
use Rattle.pair.proofs.Words.{length-fours}
use Rattle.pair.proofs.RoundTrip.{reads-behind, received-behind}
use Rattle.pair_messages.specs.Hear.{side_of}
use Rattle.cipher_talk.specs.Drain.{Got, got_of, Drained, ahead, drain_by, theirs}
use Rattle.cipher_talk.specs.Drain.{drained, all_of, Piece, joined, fed}
use Rattle.cipher_talk.specs.Comes.{Fine, Comes, words, ours, takes}
use Rattle.cipher_talk.proofs.Prefix.{Waits, waiting, waits-words, waits-prefix}
use Rattle.std.specs.Prelude.{Ok, Result, Err, ⊤}
use Rattle.refusal.specs.declared.Refusal.TheVariants.{LinkClosed, NotOurTurn}
use Rattle.refusal.specs.declared.Refusal.{Refusal}

-- ---- one call

-- where a receive call is not out of turn, the other side may send
their-turn : (k : Link) → check_turn k ≡ Ok tt → theirs k ≡ true
unfolding check_turn
their-turn k e = go k.closed (theirs k) e
  where
    go : (c b : Bool) → ◌≡◌ {A = Result ⊤ Refusal} (pick c (Err LinkClosed) (pick (not b) (Err NotOurTurn) (Ok tt))) (Ok tt) → b ≡ true
    go c true h = refl
    go true false h = cc
    go false false h = cc

-- nothing is taken, and s is left
abbrev nothing : Link → List ℕ → Drained
nothing k s = record { link = k; got = []; left = s }

still : (k : Link) (s : List ℕ) (m : Moment) → check_turn k ≡ Ok tt → Waits k s → (n : ℕ) → drained n k s m ≡ nothing k s
unfolding drained
still k s m turn h zero = refl
still k s m turn h (suc n) = rw (their-turn k turn, waiting k s m turn h)

-- at k's own turn
out-of-turn : (k : Link) (s : List ℕ) (m : Moment) → theirs k ≡ false → (n : ℕ) → drained n k s m ≡ nothing k s
unfolding drained
out-of-turn k s m e zero = refl
out-of-turn k s m e (suc n) = rw e

-- what the clock is does not show in the link
any-clock : (k : Link) (kind : ℕ) (body : List ℕ) (m m2 : Moment) → after_of k kind body m ≡ after_of k kind body m2
unfolding after_of
any-clock k kind body m m2 = refl

module _ {k l : Link} {kind : ℕ} {body : List ℕ} (f : Fine k l kind body) (w : ℕ) (h : w ≤ words_allowed k) where
  -- the words and the packet
  abbrev chunk : List ℕ
  chunk = fours_of w ++ packet_of l kind body

  long-chunk : length chunk ≡ w * 4 + size_of l (length body)
  long-chunk = length-append (fours_of w) (packet_of l kind body)
      ∙ omega (arith, length-fours w, length-packet l kind body)

  some : 1 ≤ length chunk
  unfolding size_of
  some = omega (arith, long-chunk)

  -- a packet that is whole is taken, whatever follows
  one : (rest : List ℕ) (m m2 : Moment) (n : ℕ)
      → drained (suc n) k (chunk ++ rest) m
      ≡ ahead (got_of (side_of k.set.server) kind body) (drained n (after_of k kind body m2) rest m)
  unfolding drained body_of
  one rest m m2 n =
      let s : List ℕ = fours_of w ++ (packet_of l kind body ++ rest) in
      let next : Link → List ℕ → Drained = λ k2 t. drained n k2 t m in
      let side = side_of k.set.server in
      let k2 = after_of k kind body m in
      let used : ℕ = w * 4 + size_of l (length body) in
      let assoc : chunk ++ rest ≡ s = append_assoc (fours_of w) (packet_of l kind body) rest in
      let r : receive_of k s m ≡ gives k2 (Ok (Packet kind used (w * 4 + 12) (length body))) =
      received-behind l kind body rest k f.awaited f.long f.allowed f.number f.short f.kind_fits
      f.bytes w h m (f.taken m) in
      let d : drop used s ≡ rest = ap (drop used) (sym assoc) ∙ drop_at chunk rest used long-chunk in
      ap (λ (t : List ℕ). drained (suc n) k t m) assoc
      ∙ (ap (λ (b : Bool). pick b (drain_by next k s (receive_of k s m)) (nothing k s)) (their-turn k f.awaited.turn)
      ∙ (ap (drain_by next k s) r
      ∙ (ap (λ (t : List ℕ). ahead (got_of side kind t) (next k2 (drop used s))) (reads-behind l kind body rest w)
      ∙ (ap (λ (t : List ℕ). ahead (got_of side kind body) (next k2 t)) d
      ∙ ap (λ (k3 : Link). ahead (got_of side kind body) (next k3 rest)) (any-clock k kind body m m2)))))

  one_of : (x rest : List ℕ) → x ≡ chunk ++ rest → (m m2 : Moment) (n : ℕ)
      → drained (suc n) k x m
      ≡ ahead (got_of (side_of k.set.server) kind body) (drained n (after_of k kind body m2) rest m)
  one_of x rest e m m2 n = rw e (one rest m m2 n)

-- ---- the bytes that came, x, and those that are to come, y

-- x ends before the seam
before-seam : (x y s : List ℕ) → x ++ y ≡ s → x ≡ take (length x) s
before-seam x y s e = sym (take_at x y (length x) refl) ∙ ap (take (length x)) e

-- or behind it
module _ (x y c s : List ℕ) (e : x ++ y ≡ c ++ s) (h : length c ≤ length x) where
  abbrev tail : List ℕ
  tail = drop (length c) x

  is_front : x ≡ c ++ tail
  is_front =
      let a : take (length c) x ≡ c =
      sym (take-append-le (length c) x y h) ∙ (ap (take (length c)) e ∙ take_at c s (length c) refl) in
      sym (take-append-drop (length c) x) ∙ ap (λ (t : List ℕ). t ++ tail) a

  is-back : tail ++ y ≡ s
  is-back = sym (drop-append-le (length c) x y h) ∙ (ap (drop (length c)) e ∙ drop_at c s (length c) refl)

-- after so many calls as d made, with y to come, all goes on as it should
record Goes (gs : List Got) (k2 : Link) (t y : List ℕ) (d : Drained) : Type 0 where
  more : List Got
  split : gs ≡ d.got ++ more
  comes : Comes d.link (d.left ++ y) more k2 t

-- nothing was taken yet
stopped : {k k2 : Link} {s t : List ℕ} {gs : List Got} (c : Comes k s gs k2 t) (x y : List ℕ) → x ++ y ≡ s
    → (d : Drained) → d ≡ nothing k x → Goes gs k2 t y d
stopped {gs = gs} c x y e d i = rw i (record { more = gs; split = refl; comes = rw e c })

-- one packet was taken, and then those of d
one_more : (g : Got) {gs : List Got} {k2 : Link} {t y : List ℕ} {d : Drained} → Goes gs k2 t y d
    → Goes (g ∷ gs) k2 t y (ahead g d)
one_more g i = record { more = i.more; split = ap (λ (z : List Got). g ∷ z) i.split; comes = i.comes }

module _ {k l k2 : Link} {kind : ℕ} {body s t : List ℕ} {gs : List Got} (w : ℕ) (m2 : Moment) (h : w ≤ words_allowed k)
    (f : Fine k l kind body) (c : Comes (after_of k kind body m2) s gs k2 t)
    (ih : (n : ℕ) (x y : List ℕ) → x ++ y ≡ s → (m : Moment)
    → Goes gs k2 t y (drained n (after_of k kind body m2) x m)) where
  abbrev now : Got
  now = got_of (side_of k.set.server) kind body

  by-packet : (n : ℕ) (x y : List ℕ) → x ++ y ≡ fours_of w ++ (packet_of l kind body ++ s) → (m : Moment)
      → Goes (now ∷ gs) k2 t y (drained n k x m)
  unfolding drained
  by-packet zero x y e m = stopped (takes w m2 h f c) x y e _ refl
  by-packet (suc n) x y e m = go (ltb (length x) (length (chunk f w h))) refl
    where
      go : (b : Bool) → ltb (length x) (length (chunk f w h)) ≡ b → Goes (now ∷ gs) k2 t y (drained (suc n) k x m)
      go true q =
          let i : length x < w * 4 + size_of l (length body) =
          omega (arith, ltb-true (length x) (length (chunk f w h)) q, long-chunk f w h) in
          let p : Waits k x = rw (before-seam x y _ e) (waits-prefix f s w (length x) h i) in
          stopped (takes w m2 h f c) x y e _ (still k x m f.awaited.turn p (suc n))
      go false q =
          let i = ltb-false (length x) (length (chunk f w h)) q in
          let e2 = e ∙ sym (append_assoc (fours_of w) (packet_of l kind body) s) in
          let r = tail x y (chunk f w h) s e2 i in
          let o = one_of f w h x r (is_front x y (chunk f w h) s e2 i) m m2 n in
          rw o (one_more now (ih n r y (is-back x y (chunk f w h) s e2 i) m))

-- so many calls on what came so far: with what is to come all goes on
advance : {k k2 : Link} {s t : List ℕ} {gs : List Got} → Comes k s gs k2 t → (n : ℕ) (x y : List ℕ) → x ++ y ≡ s
    → (m : Moment) → Goes gs k2 t y (drained n k x m)
advance (words {k = k} w h turn) n x y e m =
    let l = ap length e ∙ length-fours w in
    let p : Waits k x = rw (before-seam x y (fours_of w) e ∙ ap (take (length x)) (sym (append-nil (fours_of w))))
    (waits-words k w (length x) [] h (omega (arith, l, length-append x y))) in
    stopped (words w h turn) x y e _ (still k x m turn p n)
advance (ours {k = k} s out) n x y e m = stopped (ours s out) x y e _ (out-of-turn k x m out n)
advance (takes w m2 h f c) n x y e m = by-packet w m2 h f c (λ i u v q o. advance c i u v q o) n x y e m

-- and enough calls on all that comes take all of it
module _ {k l k2 : Link} {kind : ℕ} {body t : List ℕ} {gs : List Got} (s : List ℕ) (w : ℕ) (m2 : Moment)
    (h : w ≤ words_allowed k) (f : Fine k l kind body)
    (ih : (n : ℕ) → length s ≤ n → (m : Moment)
    → drained n (after_of k kind body m2) s m ≡ record { link = k2; got = gs; left = t }) where
  all-of-packet : (n : ℕ) → length (fours_of w ++ (packet_of l kind body ++ s)) ≤ n → (m : Moment)
      → drained n k (fours_of w ++ (packet_of l kind body ++ s)) m
      ≡ record { link = k2; got = got_of (side_of k.set.server) kind body ∷ gs; left = t }
  all-of-packet n g m = go n (omega (arith, g, ap length assoc, length-append (chunk f w h) s))
    where
      assoc : chunk f w h ++ s ≡ fours_of w ++ (packet_of l kind body ++ s)
      assoc = append_assoc (fours_of w) (packet_of l kind body) s

      go : (n : ℕ) → length (chunk f w h) + length s ≤ n → drained n k (fours_of w ++ (packet_of l kind body ++ s)) m
          ≡ record { link = k2; got = got_of (side_of k.set.server) kind body ∷ gs; left = t }
      go zero i = absurd (omega (arith, some f w h))
      go (suc n) i =
          ap (λ (z : List ℕ). drained (suc n) k z m) (sym assoc)
          ∙ (one f w h s m m2 n
          ∙ ap (ahead (got_of (side_of k.set.server) kind body)) (ih n (omega (arith, some f w h)) m))

finish : {k k2 : Link} {s t : List ℕ} {gs : List Got} → Comes k s gs k2 t → (n : ℕ) → length s ≤ n → (m : Moment)
    → drained n k s m ≡ record { link = k2; got = gs; left = t }
finish (words {k = k} w h turn) n g m =
    let e : take (w * 4) (fours_of w ++ []) ≡ fours_of w = take_at (fours_of w) [] (w * 4) (length-fours w) in
    let p : Waits k (fours_of w) = rw e at (waits-words k w (w * 4) [] h (omega arith)) in
    still k (fours_of w) m turn p n
finish (ours {k = k} s out) n g m = out-of-turn k s m out n
finish (takes {s = s} w m2 h f c) n g m = all-of-packet s w m2 h f (λ i q o. finish c i q o) n g m

-- ---- THE THEOREM: the pieces that follow h, cut anywhere, at any clocks: each packet is taken once, in order,
-- nothing is refused, and what is left is what stands behind the last packet
pub any-pieces : {k k2 : Link} {s t : List ℕ} {gs : List Got} → Comes k s gs k2 t → (h : List ℕ) (p : Piece)
    (ps : List Piece) → h ++ joined (p ∷ ps) ≡ s → fed k h (p ∷ ps) ≡ record { link = k2; got = gs; left = t }
unfolding joined fed
any-pieces {k} {k2} {s} {t} {gs} c h p [] e =
    let i : h ++ p.bytes ≡ s = ap (λ (z : List ℕ). h ++ z) (sym (append-nil p.bytes)) ∙ e in
    ap (λ (d : Drained). record { link = d.link; got = d.got ++ []; left = d.left })
    (ap (λ (z : List ℕ). all_of k z p.clock) i ∙ finish c (length s) (omega arith) p.clock)
    ∙ ap (λ (z : List Got). record { link = k2; got = z; left = t }) (append-nil gs)
any-pieces {k} {k2} {s} {t} {gs} c h p (q ∷ qs) e =
    let d : Drained = all_of k (h ++ p.bytes) p.clock in
    let g = advance c (length (h ++ p.bytes)) (h ++ p.bytes) (joined (q ∷ qs))
    (append_assoc h p.bytes (joined (q ∷ qs)) ∙ e) p.clock in
    ap (λ (r : Drained). record { link = r.link; got = d.got ++ r.got; left = r.left })
    (any-pieces {k = d.link} g.comes d.left q qs refl)
    ∙ ap (λ (z : List Got). record { link = k2; got = z; left = t }) (sym g.split)
