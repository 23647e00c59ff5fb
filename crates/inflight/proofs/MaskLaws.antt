-- Bits of a mask: the lowest slot and the rest, the count of ones, the lowest free_of slot.
-- Assumes nothing.
use mathlib.Core.Path.{◌≡◌, refl, sym, ap, ◌∙◌, subst}
use Prim.Native.Nat.{ℕ, zero, suc, ◌+◌, ◌-◌, ◌*◌, ◌/◌, ◌%◌, ◌^◌, ◌≤◌, ◌<◌}
use mathlib.Core.Bool.{Bool, true, false, ◌&&◌}
use mathlib.Core.List.{List, [], ◌∷◌}
use native.Mathlib.Nat.{pow-succ', pow-le-pow_right, div-div-eq-div-mul}
use native.Mathlib.Omega.{arith}
use native.Mathlib.Numerals.{add-one}
use lib.Dec.{eqb, leb}
use borrow.Author.Tests.{leb-true, leb-false}
use Rattle.wire.specs.Choice.{pick}
use lib.Bits.{bit_and, bit_or, and_step, and_self, and_le_r}
use lib.Count.{ones, ones_step, ones-ones, count_trailing_zeros, under}
use Rattle.inflight.specs.Masks.{bit_at, slots_from, slots, seek, gather}

pub twice : (k : ℕ) → 2 ^ suc k ≡ 2 * 2 ^ k
twice k = pow-succ' 2 k

-- ---- the lowest slot of a mask, and the rest

step-odd : (k i n : ℕ) → n % 2 ≡ 1 → slots_from (suc k) i n ≡ i ∷ slots_from k (suc i) (n / 2)
unfolding slots_from
step-odd k i n e = rw e

step-even : (k i n : ℕ) → n % 2 ≡ 0 → slots_from (suc k) i n ≡ slots_from k (suc i) (n / 2)
unfolding slots_from
step-even k i n e = rw e

slots-of-zero : (k i : ℕ) → slots_from k i 0 ≡ []
unfolding slots_from
slots-of-zero zero i = refl
slots-of-zero (suc k) i = slots-of-zero k (suc i)

pub pop : (k i n : ℕ) → 0 < n → n < 2 ^ k → (count_trailing_zeros k n < k) × (slots_from k i n ≡ (i + count_trailing_zeros k n) ∷ slots_from k i (bit_and n (n - 1)))
unfolding count_trailing_zeros
pop zero i n h g = absurd (omega arith)
pop (suc k) i n h g = go (n % 2) refl (λ a b. pop k (suc i) (n / 2) a b)
  where
    go : (d : ℕ) → n % 2 ≡ d → (0 < n / 2 → n / 2 < 2 ^ k → (count_trailing_zeros k (n / 2) < k) × (slots_from k (suc i) (n / 2) ≡ (suc i + count_trailing_zeros k (n / 2)) ∷ slots_from k (suc i) (bit_and (n / 2) (n / 2 - 1)))) → (under d (count_trailing_zeros k (n / 2)) < suc k) × (slots_from (suc k) i n ≡ (i + under d (count_trailing_zeros k (n / 2))) ∷ slots_from (suc k) i (bit_and n (n - 1)))
    go zero e m =
        let t = twice k in
        let q : (n - 1) / 2 ≡ n / 2 - 1 = omega arith in
        let s = and_step n (n - 1) in
        let a : bit_and n (n - 1) % 2 ≡ 0 = omega arith in
        let b : bit_and n (n - 1) / 2 ≡ bit_and (n / 2) ((n - 1) / 2) = omega arith in
        let b' : bit_and n (n - 1) / 2 ≡ bit_and (n / 2) (n / 2 - 1) = b ∙ ap (bit_and (n / 2)) q in
        let r = m (omega arith) (omega arith) in
        let z : suc i + count_trailing_zeros k (n / 2) ≡ i + suc (count_trailing_zeros k (n / 2)) = omega arith in
        (omega (arith, r.0), step-even k i n e ∙ r.1 ∙ ap (λ (x : ℕ). x ∷ slots_from k (suc i) (bit_and (n / 2) (n / 2 - 1))) z ∙ ap (λ (l : List ℕ). (i + suc (count_trailing_zeros k (n / 2))) ∷ l) (sym (step-even k i (bit_and n (n - 1)) a ∙ ap (slots_from k (suc i)) b')))
    go (suc d) e m =
        let t = twice k in
        let o : n % 2 ≡ 1 = omega arith in
        let q : (n - 1) / 2 ≡ n / 2 = omega arith in
        let s = and_step n (n - 1) in
        let a : bit_and n (n - 1) % 2 ≡ 0 = omega arith in
        let b : bit_and n (n - 1) / 2 ≡ bit_and (n / 2) ((n - 1) / 2) = omega arith in
        let b' : bit_and n (n - 1) / 2 ≡ n / 2 = b ∙ ap (bit_and (n / 2)) q ∙ and_self (n / 2) in
        let z : i ≡ i + 0 = omega arith in
        (omega arith, step-odd k i n o ∙ ap (λ (x : ℕ). x ∷ slots_from k (suc i) (n / 2)) z ∙ ap (λ (l : List ℕ). (i + 0) ∷ l) (sym (step-even k i (bit_and n (n - 1)) a ∙ ap (slots_from k (suc i)) b')))

-- a turn of a loop over the slots of a mask
pub record Popped (m : ℕ) : Type 0 where
  pub low : count_trailing_zeros 64 m < 64
  pub turn : slots m ≡ count_trailing_zeros 64 m ∷ slots (bit_and m (m - 1))
  pub less : bit_and m (m - 1) < m

pub popped : (m : ℕ) → 0 < m → m < 2 ^ 64 → Popped m
popped m h g =
    let p = pop 64 0 m h g in
    let z : 0 + count_trailing_zeros 64 m ≡ count_trailing_zeros 64 m = omega arith in
    let l = and_le_r m (m - 1) in
    record { low = p.0; turn = p.1 ∙ ap (λ (x : ℕ). x ∷ slots (bit_and m (m - 1))) z; less = omega arith }

pub none : slots 0 ≡ []
none = slots-of-zero 64 0

pub seek-yes : (f : ℕ → Bool) (i : ℕ) (is : List ℕ) → f i ≡ true → seek f (i ∷ is) ≡ i
unfolding seek
seek-yes f i is e = rw e

pub seek-no : (f : ℕ → Bool) (i : ℕ) (is : List ℕ) → f i ≡ false → seek f (i ∷ is) ≡ seek f is
unfolding seek
seek-no f i is e = rw e

pub seek-none : (f : ℕ → Bool) (m : ℕ) → m ≡ 0 → seek f (slots m) ≡ 64
unfolding seek
seek-none f m e = rw (e, none)

-- ---- a search from slot to slot: m is what is left of the mask from slot i on

pub record Onward (f : ℕ → Bool) (m i r : ℕ) : Type 0 where
  pub low : i ≤ 64
  pub fits : m < 2 ^ (64 - i)
  pub same : seek f (slots_from (64 - i) i m) ≡ r

pub onward-start : (f : ℕ → Bool) (m : ℕ) → m < 2 ^ 64 → Onward f m 0 (seek f (slots m))
onward-start f m h = record { low = omega arith; fits = h; same = refl }

seek-turn : (f : ℕ → Bool) (k i m : ℕ) (t : Bool) → (eqb (m % 2) 1 && f i) ≡ t
    → seek f (slots_from (suc k) i m) ≡ pick t i (seek f (slots_from k (suc i) (m / 2)))
unfolding seek slots_from
seek-turn f k i m t e = go (eqb (m % 2) 1) e
  where
    go : (b : Bool) → (b && f i) ≡ t
        → seek f (pick b (i ∷ slots_from k (suc i) (m / 2)) (slots_from k (suc i) (m / 2))) ≡ pick t i (seek f (slots_from k (suc i) (m / 2)))
    go true q = ap (λ (x : Bool). pick x i (seek f (slots_from k (suc i) (m / 2)))) q
    go false q = ap (λ (x : Bool). pick x i (seek f (slots_from k (suc i) (m / 2)))) q

module _ (f : ℕ → Bool) (m i r : ℕ) (o : Onward f m i r) where
  pub onward-low : (m ≡ 0 → ⊥) → i < 64
  onward-low h = go (leb 64 i) refl
    where
      go : (t : Bool) → leb 64 i ≡ t → i < 64
      go false e = leb-false 64 i e
      go true e =
          let z : 64 - i ≡ 0 = let l = leb-true 64 i e in omega arith in
          let b : m < 2 ^ 0 = subst (λ (k : ℕ). m < 2 ^ k) z o.fits in
          absurd (h (omega arith))

  turned : i < 64 → (t : Bool) → (eqb (m % 2) 1 && f i) ≡ t → pick t i (seek f (slots_from (63 - i) (suc i) (m / 2))) ≡ r
  turned l t e =
      let z : 64 - i ≡ suc (63 - i) = omega arith in
      sym (seek-turn f (63 - i) i m t e) ∙ ap (λ (k : ℕ). seek f (slots_from k i m)) (sym z) ∙ o.same

  pub onward-hit : i < 64 → (eqb (m % 2) 1 && f i) ≡ true → i ≡ r
  onward-hit l e = turned l true e

  passed : i < 64 → (eqb (m % 2) 1 && f i) ≡ false → Onward f (m / 2) (i + 1) r
  passed l e =
      let z : 64 - i ≡ suc (63 - i) = omega arith in
      let y : 63 - i ≡ 64 - (i + 1) = omega arith in
      let b : m < 2 ^ suc (63 - i) = subst (λ (k : ℕ). m < 2 ^ k) z o.fits in
      let t = twice (63 - i) in
      record {
        low = omega arith;
        fits = subst (λ (k : ℕ). m / 2 < 2 ^ k) y (omega arith);
        same = ap (λ (k : ℕ). seek f (slots_from k (i + 1) (m / 2))) (sym y) ∙ rw (add-one i) (turned l false e);
      }

  pub onward-pass : (m' i' : ℕ) → m' ≡ m / 2 → i' ≡ i + 1 → i < 64 → (eqb (m % 2) 1 && f i) ≡ false → Onward f m' i' r
  onward-pass m' i' a b l e = rw (a, b) (passed l e)

  pub onward-end : m ≡ 0 → 64 ≡ r
  unfolding seek
  onward-end e = sym (rw (e, slots-of-zero (64 - i) i)) ∙ o.same

-- a slot's number is below 64
pub slot-low : (i : ℕ) → i < 64 → i % 64 ≡ i
slot-low i h = omega arith

-- ---- bit i by a division

pub bit-div : (i n : ℕ) → bit_at i n ≡ n / 2 ^ i % 2
unfolding bit_at
bit-div zero n = omega arith
bit-div (suc i) n = bit-div i (n / 2) ∙ ap (λ (x : ℕ). x % 2) (div-div-eq-div-mul n 2 (2 ^ i) ∙ ap (λ (x : ℕ). n / x) (sym (twice i)))

gather-yes : (f : ℕ → Bool) (i : ℕ) (is : List ℕ) (a : ℕ) → f i ≡ true → gather f (i ∷ is) a ≡ gather f is (bit_or a (2 ^ i))
unfolding gather
gather-yes f i is a e = rw e

gather-no : (f : ℕ → Bool) (i : ℕ) (is : List ℕ) (a : ℕ) → f i ≡ false → gather f (i ∷ is) a ≡ gather f is a
unfolding gather
gather-no f i is a e = rw e

-- a turn of a search over the slots of a mask
module _ (f : ℕ → Bool) (m i : ℕ) (p : Popped m) (q : i ≡ count_trailing_zeros 64 m) where
  pub seek_hit : f i ≡ true → i ≡ seek f (slots m)
  seek_hit e =
      let h : f (count_trailing_zeros 64 m) ≡ true = ap f (sym q) ∙ e in
      q ∙ sym (seek-yes f (count_trailing_zeros 64 m) (slots (bit_and m (m - 1))) h) ∙ ap (seek f) (sym p.turn)

  pub seek-pass : (r : ℕ) → r ≡ bit_and m (m - 1) → f i ≡ false → seek f (slots r) ≡ seek f (slots m)
  seek-pass r s e =
      let h : f (count_trailing_zeros 64 m) ≡ false = ap f (sym q) ∙ e in
      ap (λ (x : ℕ). seek f (slots x)) s ∙ sym (seek-no f (count_trailing_zeros 64 m) (slots (bit_and m (m - 1))) h) ∙ ap (seek f) (sym p.turn)

  pub gather-hit : (r a : ℕ) → r ≡ bit_and m (m - 1) → f i ≡ true → gather f (slots r) (bit_or a (2 ^ i)) ≡ gather f (slots m) a
  gather-hit r a s e =
      ap (λ (x : ℕ). gather f (slots x) (bit_or a (2 ^ i))) s ∙ sym (gather-yes f i (slots (bit_and m (m - 1))) a e) ∙ ap (λ (x : ℕ). gather f (x ∷ slots (bit_and m (m - 1))) a) q ∙ ap (λ (l : List ℕ). gather f l a) (sym p.turn)

  pub gather-pass : (r a : ℕ) → r ≡ bit_and m (m - 1) → f i ≡ false → gather f (slots r) a ≡ gather f (slots m) a
  gather-pass r a s e =
      ap (λ (x : ℕ). gather f (slots x) a) s ∙ sym (gather-no f i (slots (bit_and m (m - 1))) a e) ∙ ap (λ (x : ℕ). gather f (x ∷ slots (bit_and m (m - 1))) a) q ∙ ap (λ (l : List ℕ). gather f l a) (sym p.turn)

pub gather_none : (f : ℕ → Bool) (m a : ℕ) → m ≡ 0 → gather f (slots m) a ≡ a
unfolding gather
gather_none f m a e = rw (e, none)

-- the mask of one slot
pub one_bit : (i : ℕ) → i < 64 → 1 * 2 ^ i % 18446744073709551616 ≡ 2 ^ i
one_bit i h =
    let v : i ≤ 63 = omega arith in
    let z : 0 < 2 = omega arith in
    let w : 2 ^ i ≤ 2 ^ 63 = pow-le-pow_right z v in
    omega arith

-- ---- a mask with a free slot has fewer than k ones

most : (k n : ℕ) → n < 2 ^ k → ones n ≤ k
most zero n h = let z : n ≡ 0 = omega arith in rw z (let o = ones-ones 0 in omega arith)
most (suc k) n h = let t = twice k in let s = ones_step n in let b = most k (n / 2) (omega arith) in omega arith

free-bit : (k n : ℕ) → n < 2 ^ k → count_trailing_zeros k (2 ^ k - 1 - n) < k → ones n < k
unfolding count_trailing_zeros
free-bit zero n h g = absurd (omega arith)
free-bit (suc k) n h g = go ((2 ^ suc k - 1 - n) % 2) refl g (free-bit k (n / 2))
  where
    go : (d : ℕ) → (2 ^ suc k - 1 - n) % 2 ≡ d → under d (count_trailing_zeros k ((2 ^ suc k - 1 - n) / 2)) < suc k → (n / 2 < 2 ^ k → count_trailing_zeros k (2 ^ k - 1 - n / 2) < k → ones (n / 2) < k) → ones n < suc k
    go zero e g i =
        let t = twice k in
        let q : (2 ^ suc k - 1 - n) / 2 ≡ 2 ^ k - 1 - n / 2 = omega arith in
        let g' : count_trailing_zeros k (2 ^ k - 1 - n / 2) < k = rw (← q) (omega arith) in
        let a = i (omega arith) g' in
        let s = ones_step n in
        omega arith
    go (suc d) e g i =
        let t = twice k in
        let s = ones_step n in
        let b = most k (n / 2) (omega arith) in
        omega arith

pub room-left : (n : ℕ) → n < 18446744073709551616 → count_trailing_zeros 64 (18446744073709551615 - n) < 64 → ones n < 64
room-left n h g = free-bit 64 n h g
