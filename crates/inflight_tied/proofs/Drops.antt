-- On a tied table a gone peer is answered, its slice written and the table left as the model does.
-- Assumes nothing.
use mathlib.Core.Path.{◌≡◌, refl, sym, ap, ◌∙◌}
use Prim.Native.Nat.{ℕ, zero, suc, ◌+◌, ◌*◌, ◌/◌, ◌%◌, ◌^◌, ◌≤◌, ◌<◌, max}
use native.Mathlib.Omega.{arith}
use mathlib.Core.Bool.{Bool, true, false}
use mathlib.Core.List.{List, [], ◌∷◌, map}
use lib.Bits.{bit_or, or_lt}
use lib.Dec.{eqb, ltb}
use lib.IntN.{ℤ}
use lib.ListN.{length}
use borrow.Author.Tests.{eqb-true, eqb-false, leb-false}
use Rattle.wire.specs.Choice.{pick}
use Rattle.inflight.specs.Masks.{bit_at, slots_from, slots, gather, has, within}
use Rattle.inflight.specs.Matching.{matches, matching, other_ends, over_front}
use Rattle.inflight.specs.Requests.{Request, Key, key_of}
use Rattle.inflight.specs.declared.Peer.{Peer}
use Rattle.inflight.specs.declared.Peer.TheVariants as P
use Rattle.inflight.specs.Model.{check_drop, drop_answer, drop_slice, dropped, no_peer}
use Rattle.inflight.specs.Tables.{line, used, is_link, slots_of, leaving, other_at, ends_of, struck, Dropped, drop_of}
use Rattle.inflight.specs.declared.Table.{Table}
use Rattle.inflight.specs.Tables.{gone_of}
use Rattle.inflight_tied.proofs.Tied.{occ, Below, Tied, entry, in_flight, model_of}
use Rattle.inflight_tied.proofs.Ties.{bit-or, bit-most}
use Rattle.inflight_tied.proofs.Loads.{length-of-map}
use Rattle.inflight_tied.proofs.Placed.{bit-self, bit-other, bit-of-zero, power-fits}
use Rattle.inflight_tied.proofs.Struck.{struck-standing, leaving-matching}
use Rattle.std.specs.Prelude.{Err}
use Rattle.refusal.specs.declared.Refusal.TheVariants.{OutOfRange}

-- ---- the bits of a gathered mask

-- slots below i are not gathered from those from i on
gather-below : (f : ℕ → Bool) (k i m a j : ℕ) → j < i → bit_at j (gather f (slots_from k i m) a) ≡ bit_at j a
unfolding gather slots_from
gather-below f zero i m a j h = refl
gather-below f (suc k) i m a j h = go (eqb (m % 2) 1) (f i) (λ b. gather-below f k (suc i) (m / 2) b j (omega arith))
  where
    go : (t s : Bool) → ((b : ℕ) → bit_at j (gather f (slots_from k (suc i) (m / 2)) b) ≡ bit_at j b)
        → bit_at j (gather f (pick t (i ∷ slots_from k (suc i) (m / 2)) (slots_from k (suc i) (m / 2))) a) ≡ bit_at j a
    go true s r = r (pick (f i) (bit_or a (2 ^ i)) a) ∙ side (f i)
      where
        side : (u : Bool) → bit_at j (pick u (bit_or a (2 ^ i)) a) ≡ bit_at j a
        side true = let x = bit-or j a (2 ^ i) in let y = bit-other j i (λ e. omega arith) in omega arith
        side false = refl
    go false s r = r a

gather-bit : (f : ℕ → Bool) (k i m a d : ℕ) → d < k
    → bit_at (i + d) (gather f (slots_from k i m) a) ≡ max (bit_at (i + d) a) (pick (f (i + d)) (bit_at d m) 0)
unfolding gather slots_from bit_at
gather-bit f zero i m a d h = absurd (omega arith)
gather-bit f (suc k) i m a d h = go d h (eqb (m % 2) 1) refl (λ b e l. gather-bit f k (suc i) (m / 2) b e l)
  where
    zero-at : i + 0 ≡ i
    zero-at = omega arith

    next : (e : ℕ) → suc i + e ≡ i + suc e
    next e = omega arith

    head : (u : Bool) → f i ≡ u → m % 2 ≡ 1 → bit_at i (pick u (bit_or a (2 ^ i)) a) ≡ max (bit_at i a) (pick u (m % 2) 0)
    head true q o = let x = bit-or i a (2 ^ i) in let y = bit-self i in let z = bit-most i a in omega arith
    head false q o = omega arith

    none : (u : Bool) → (m % 2 ≡ 1 → ⊥) → bit_at i a ≡ max (bit_at i a) (pick u (m % 2) 0)
    none true o = omega (arith, o)
    none false o = omega arith

    later : (u : Bool) (e : ℕ) → bit_at (suc i + e) (pick u (bit_or a (2 ^ i)) a) ≡ bit_at (suc i + e) a
    later true e =
        let x = bit-or (suc i + e) a (2 ^ i) in let y = bit-other (suc i + e) i (λ q. omega arith) in omega arith
    later false e = refl

    shift : (e b : ℕ) → bit_at (suc i + e) b ≡ bit_at (suc i + e) a
        → max (bit_at (suc i + e) b) (pick (f (suc i + e)) (bit_at e (m / 2)) 0)
        ≡ max (bit_at (i + suc e) a) (pick (f (i + suc e)) (bit_at e (m / 2)) 0)
    shift e b q =
        ap (λ (x : ℕ). max x (pick (f (suc i + e)) (bit_at e (m / 2)) 0)) q
        ∙ ap (λ (j : ℕ). max (bit_at j a) (pick (f j) (bit_at e (m / 2)) 0)) (next e)

    go : (d : ℕ) → d < suc k → (t : Bool) → eqb (m % 2) 1 ≡ t
        → ((b e : ℕ) → e < k → bit_at (suc i + e) (gather f (slots_from k (suc i) (m / 2)) b)
        ≡ max (bit_at (suc i + e) b) (pick (f (suc i + e)) (bit_at e (m / 2)) 0))
        → bit_at (i + d) (gather f (pick t (i ∷ slots_from k (suc i) (m / 2)) (slots_from k (suc i) (m / 2))) a)
        ≡ max (bit_at (i + d) a) (pick (f (i + d)) (bit_at d m) 0)
    go zero l true q r =
        rw zero-at
        (gather-below f k (suc i) (m / 2) (pick (f i) (bit_or a (2 ^ i)) a) i (omega arith)
        ∙ head (f i) refl (eqb-true (m % 2) 1 q))
    go zero l false q r =
        rw zero-at (gather-below f k (suc i) (m / 2) a i (omega arith) ∙ none (f i) (eqb-false (m % 2) 1 q))
    go (suc e) l true q r =
        ap (λ (j : ℕ). bit_at j (gather f (slots_from k (suc i) (m / 2)) (pick (f i) (bit_or a (2 ^ i)) a))) (sym (next e))
        ∙ r (pick (f i) (bit_or a (2 ^ i)) a) e (omega arith)
        ∙ shift e (pick (f i) (bit_or a (2 ^ i)) a) (later (f i) e)
    go (suc e) l false q r =
        ap (λ (j : ℕ). bit_at j (gather f (slots_from k (suc i) (m / 2)) a)) (sym (next e))
        ∙ r a e (omega arith)
        ∙ shift e a refl

pub gather-fits : (f : ℕ → Bool) (k i m a : ℕ) → i + k ≤ 64 → a < 2 ^ 64 → gather f (slots_from k i m) a < 2 ^ 64
unfolding gather slots_from
gather-fits f zero i m a h l = l
gather-fits f (suc k) i m a h l = go (eqb (m % 2) 1) (λ b q. gather-fits f k (suc i) (m / 2) b (omega arith) q)
  where
    side : (u : Bool) → pick u (bit_or a (2 ^ i)) a < 2 ^ 64
    side true = or_lt 64 a (2 ^ i) l (power-fits i (omega arith))
    side false = l

    go : (t : Bool) → ((b : ℕ) → b < 2 ^ 64 → gather f (slots_from k (suc i) (m / 2)) b < 2 ^ 64)
        → gather f (pick t (i ∷ slots_from k (suc i) (m / 2)) (slots_from k (suc i) (m / 2))) a < 2 ^ 64
    go true r = r (pick (f i) (bit_or a (2 ^ i)) a) (side (f i))
    go false r = r a l

-- the slots of a mask that pass a test, bit by bit
pub gathered-bit : (f : ℕ → Bool) (m i : ℕ) → i < 64 → bit_at i (gather f (slots m) 0) ≡ pick (f i) (bit_at i m) 0
gathered-bit f m i h =
    let z : 0 + i ≡ i = omega arith in
    let b = gather-bit f 64 0 m 0 i h in
    let e : bit_at (0 + i) 0 ≡ 0 = bit-of-zero (0 + i) in
    ap (λ (j : ℕ). bit_at j (gather f (slots m) 0)) (sym z)
    ∙ b
    ∙ ap (λ (x : ℕ). max x (pick (f (0 + i)) (bit_at i m) 0)) e
    ∙ top (pick (f (0 + i)) (bit_at i m) 0)
    ∙ ap (λ (j : ℕ). pick (f j) (bit_at i m) 0) z
  where
    top : (x : ℕ) → max 0 x ≡ x
    top x = omega arith

-- ---- one mask of slots against a key

has-pick : (u : Bool) (x b : ℕ) → b ≡ 1 → x ≡ pick u b 0 → u ≡ eqb x 1
has-pick true x b e q = sym (ap (λ (y : ℕ). eqb y 1) (q ∙ e))
has-pick false x b e q = sym (ap (λ (y : ℕ). eqb y 1) q)

-- a mask whose bits are those of the used slots that pass a test has just those
module _ (w : Table) (t : Tied w) (k : Key) (g : ℕ)
    (bits : (i : ℕ) → i < 64 → bit_at i g ≡ pick (matches k (entry w i)) (bit_at i (used w)) 0) where
  pub hit-has : (x : ℕ) → x < 64 → 0 < occ x (line w) → matches k (entry w x) ≡ has g x
  hit-has x h o =
      let z : x % 64 ≡ x = omega arith in
      let u : bit_at x (used w) ≡ 1 = let a = t.tie x h in let b = bit-most x (used w) in omega arith in
      has-pick (matches k (entry w x)) (bit_at x g) (bit_at x (used w)) u (bits x h)
      ∙ ap (λ (j : ℕ). eqb (bit_at j g) 1) (sym z)

pub within-below : (g : ℕ) (xs : List ℕ) → Below 64 xs → Below 64 (within g xs)
unfolding within Below
within-below g [] b = b
within-below g (x ∷ xs) b = go (has g x) (within-below g xs b.1)
  where
    go : (t : Bool) → Below 64 (within g xs) → Below 64 (pick t (x ∷ within g xs) (within g xs))
    go true h = (b.0, h)
    go false h = h

-- ---- a peer's slots

-- they are among the 64
pub slots-fit : (w : Table) → Tied w → (peer : Peer) → slots_of w.masks w.places peer < 2 ^ 64
slots-fit w t (P.Front l) = gather-fits (is_link w.places l) 64 0 (used w) 0 (omega arith) (omega arith)
slots-fit w t (P.Publisher p) = t.narrow p

-- they are the used ones whose request the peer names
peer-bit : (w : Table) → Tied w → (peer : Peer) → no_peer peer ≡ false → (i : ℕ) → i < 64
    → bit_at i (slots_of w.masks w.places peer) ≡ pick (matches (key_of peer) (entry w i)) (bit_at i (used w)) 0
unfolding matches entry
peer-bit w t (P.Front l) r i h = gathered-bit (is_link w.places l) (used w) i h
peer-bit w t (P.Publisher p) r i h = t.own p (leb-false 8 p r) i h

-- and what stands at the peer's offset are the other ends
pub peer-ends : (w : Table) (peer : Peer) (xs : List ℕ) → Below 64 xs
    → ends_of w.numbers w.places (other_at peer) xs ≡ other_ends (key_of peer) (map (entry w) xs)
unfolding ends_of other_ends entry Below
peer-ends w peer [] b = refl
peer-ends w (P.Front l) (x ∷ xs) b =
    let h = b.0 in
    let z : x % 64 ≡ x = omega arith in
    rw (z, peer-ends w (P.Front l) xs b.1)
peer-ends w (P.Publisher p) (x ∷ xs) b =
    let h = b.0 in
    let z : 0 + x % 64 ≡ x = omega arith in
    rw (z, peer-ends w (P.Publisher p) xs b.1)

-- ---- the call against the model

pub record DropSame (w : Table) (r : Dropped) (range : Bool) (k : Key) (out : List ℤ) : Type 0 where
  pub answer : r.answer ≡ drop_answer (model_of w) range k out
  pub slice : r.slice ≡ drop_slice (model_of w) range k out
  pub table : model_of r.table ≡ dropped (model_of w) range k out

refused-same : (w : Table) (k : Key) (out : List ℤ)
    → DropSame w (record { table = w; answer = Err OutOfRange; slice = out }) true k out
unfolding drop_answer drop_slice dropped check_drop
refused-same w k out = record { answer = refl; slice = refl; table = refl }

drop-same : (w : Table) → Tied w → (k : Key) (g base : ℕ) (out : List ℤ) → g < 2 ^ 64
    → ((x : ℕ) → x < 64 → 0 < occ x (line w) → matches k (entry w x) ≡ has g x)
    → ends_of w.numbers w.places base (leaving w g) ≡ other_ends k (map (entry w) (leaving w g))
    → DropSame w (drop_of w g base out) false k out
unfolding drop_of drop_answer drop_slice dropped check_drop struck
drop-same w t k g base out fits hits ends = go (ltb (length out) (2 * length (leaving w g))) refl
  where
    m : matching k (in_flight w) ≡ map (entry w) (leaving w g)
    m = leaving-matching w k g t hits

    n : length (matching k (in_flight w)) ≡ length (leaving w g)
    n = ap length m ∙ length-of-map w (leaving w g)

    go : (b : Bool) → ltb (length out) (2 * length (leaving w g)) ≡ b → DropSame w (drop_of w g base out) false k out
    go true e = record { answer = rw (n, e); slice = rw (n, e); table = rw (n, e) }
    go false e =
        record {
          answer = rw (n, e);
          slice = rw (n, e) (ap (λ (z : List ℤ). over_front z out) (ends ∙ ap (other_ends k) (sym m)));
          table =
              rw (n, e)
              (ap (λ (l : List Request). record { requests = l; next = (model_of w).next; seen = (model_of w).seen })
              (struck-standing w k g t hits fits));
        }

pub gone_same : (w : Table) → Tied w → (peer : Peer) (out : List ℤ)
    → DropSame w (gone_of w peer out) (no_peer peer) (key_of peer) out
unfolding gone_of
gone_same w t peer out = go (no_peer peer) refl
  where
    g : ℕ
    g = slots_of w.masks w.places peer

    go : (b : Bool) → no_peer peer ≡ b
        → DropSame w (pick b (record { table = w; answer = Err OutOfRange; slice = out }) (drop_of w g (other_at peer) out))
        b (key_of peer) out
    go true e = refused-same w (key_of peer) out
    go false e =
        drop-same w t (key_of peer) g (other_at peer) out (slots-fit w t peer)
        (hit-has w t (key_of peer) g (peer-bit w t peer e))
        (peer-ends w peer (leaving w g) (within-below g (line w) t.low))
