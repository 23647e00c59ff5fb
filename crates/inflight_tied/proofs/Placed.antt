-- An accepted ask keeps the tie: the lowest free slot joins the line at its end.
-- Assumes nothing.
use mathlib.Core.Path.{◌≡◌, refl, sym, ap, ◌∙◌}
use Prim.Native.Nat.{ℕ, zero, suc, ◌+◌, ◌-◌, ◌/◌, ◌%◌, ◌^◌, ◌≤◌, ◌<◌}
use native.Mathlib.Omega.{arith}
use native.Mathlib.Nat.{pow-le-pow_right}
use mathlib.Core.Bool.{Bool, true, false}
use mathlib.Core.List.{List, [], ◌∷◌, ◌++◌}
use lib.Dec.{eqb}
use lib.Bits.{bit_or, or_lt}
use lib.Count.{ones, count_trailing_zeros, under}
use lib.ListN.{length, take, get_or, set, replicate, length-set}
use lib.Seq.{get_or-set_same, get_or-set_other}
use borrow.Author.Tests.{eqb-true, eqb-false}
use Rattle.wire.specs.Choice.{pick}
use Rattle.inflight.specs.declared.FrontNumber.{FrontNumber}
use Rattle.inflight.specs.declared.PublisherNumber.{PublisherNumber}
use Rattle.inflight.specs.Masks.{bit_at, slots, lowest_free, laid_out}
use Rattle.inflight.specs.Tables.{line, used, mine, placed}
use Rattle.inflight.specs.declared.Table.{Table}
use Rattle.inflight_tied.proofs.Tied.{occ, Below, Aged, Tied}
use Rattle.inflight.proofs.MaskLaws.{twice}
use Rattle.inflight_tied.proofs.Ties.{bit-or, bit-most, flip, occ-yes, occ-no, occ-nil, tied-length}
use Rattle.inflight_tied.proofs.LaidOut.{laid-line, aged-snoc}

pub bit-of-zero : (i : ℕ) → bit_at i 0 ≡ 0
unfolding bit_at
bit-of-zero zero = refl
bit-of-zero (suc i) = bit-of-zero i

pub bit-self : (s : ℕ) → bit_at s (2 ^ s) ≡ 1
unfolding bit_at
bit-self zero = refl
bit-self (suc s) = let t = twice s in let q : 2 ^ suc s / 2 ≡ 2 ^ s = omega arith in rw q (bit-self s)

pub bit-other : (i s : ℕ) → (s ≡ i → ⊥) → bit_at i (2 ^ s) ≡ 0
unfolding bit_at
bit-other zero zero h = absurd (h refl)
bit-other zero (suc s) h = let t = twice s in omega arith
bit-other (suc i) zero h = bit-of-zero i
bit-other (suc i) (suc s) h =
    let t = twice s in let q : 2 ^ suc s / 2 ≡ 2 ^ s = omega arith in rw q (bit-other i s (λ e. h (ap suc e)))

occ-snoc-yes : (i s : ℕ) (xs : List ℕ) → s ≡ i → occ i (xs ++ s ∷ []) ≡ occ i xs + 1
occ-snoc-yes i s [] e = let a = occ-yes i s [] e in let b = occ-nil i in omega arith
occ-snoc-yes i s (x ∷ xs) e = go (eqb x i) refl (occ-snoc-yes i s xs e)
  where
    go : (t : Bool) → eqb x i ≡ t → occ i (xs ++ s ∷ []) ≡ occ i xs + 1 → occ i (x ∷ xs ++ s ∷ []) ≡ occ i (x ∷ xs) + 1
    go true f m =
        let q = eqb-true x i f in let a = occ-yes i x (xs ++ s ∷ []) q in let b = occ-yes i x xs q in omega arith
    go false f m =
        let q = eqb-false x i f in let a = occ-no i x (xs ++ s ∷ []) q in let b = occ-no i x xs q in omega arith

occ-snoc-no : (i s : ℕ) (xs : List ℕ) → (s ≡ i → ⊥) → occ i (xs ++ s ∷ []) ≡ occ i xs
occ-snoc-no i s [] e = occ-no i s [] e
occ-snoc-no i s (x ∷ xs) e = go (eqb x i) refl (occ-snoc-no i s xs e)
  where
    go : (t : Bool) → eqb x i ≡ t → occ i (xs ++ s ∷ []) ≡ occ i xs → occ i (x ∷ xs ++ s ∷ []) ≡ occ i (x ∷ xs)
    go true f m = let q = eqb-true x i f in occ-yes i x (xs ++ s ∷ []) q ∙ ap suc m ∙ sym (occ-yes i x xs q)
    go false f m = let q = eqb-false x i f in occ-no i x (xs ++ s ∷ []) q ∙ m ∙ sym (occ-no i x xs q)

below-snoc : (k s : ℕ) (xs : List ℕ) → s < k → Below k xs → Below k (xs ++ s ∷ [])
unfolding Below
below-snoc k s [] h b = (h, b)
below-snoc k s (x ∷ xs) h b = (b.0, below-snoc k s xs h b.1)

-- the lowest free slot is free
first-set : (k n : ℕ) → count_trailing_zeros k n < k → bit_at (count_trailing_zeros k n) n ≡ 1
unfolding count_trailing_zeros bit_at
first-set zero n h = absurd (omega arith)
first-set (suc k) n h = go (n % 2) refl h (first-set k (n / 2))
  where
    go : (d : ℕ) → n % 2 ≡ d → under d (count_trailing_zeros k (n / 2)) < suc k
        → (count_trailing_zeros k (n / 2) < k → bit_at (count_trailing_zeros k (n / 2)) (n / 2) ≡ 1)
        → bit_at (under d (count_trailing_zeros k (n / 2))) n ≡ 1
    go zero e g i = i (omega arith)
    go (suc d) e g i = omega arith

pub free-slot : (u : ℕ) → u < 2 ^ 64 → lowest_free u < 64 → bit_at (lowest_free u) u ≡ 0
unfolding lowest_free
free-slot u f h =
    let a = first-set 64 (18446744073709551615 - u) h in
    let b = flip (count_trailing_zeros 64 (18446744073709551615 - u)) 64 u h f in
    omega arith

pub power-fits : (s : ℕ) → s < 64 → 2 ^ s < 2 ^ 64
power-fits s h =
    let v : s ≤ 63 = omega arith in
    let z : 0 < 2 = omega arith in
    let w : 2 ^ s ≤ 2 ^ 63 = pow-le-pow_right z v in
    omega arith

module _ (w : Table) (t : Tied w) (l : ℕ) (n : FrontNumber) (p s : ℕ) (g : PublisherNumber) (time timeout : ℕ) (p8 : p < 8) (s64 : s < 64)
    (fr : bit_at s (used w) ≡ 0) (lm : length w.masks ≡ 9) (lp : length w.places ≡ 128) where
  used-placed : used (placed w l n p s g time timeout) ≡ bit_or (used w) (2 ^ s)
  used-placed =
      get_or-set_other (set w.masks 0 (bit_or (used w) (2 ^ s))) (1 + p) 0 (bit_or (mine w p) (2 ^ s)) 0
      (λ e. omega arith)
      ∙ get_or-set_same w.masks 0 (bit_or (used w) (2 ^ s)) 0 (omega arith)

  new-bit-yes : (i : ℕ) → s ≡ i → bit_at i (bit_or (used w) (2 ^ s)) ≡ 1
  new-bit-yes i e =
      let a = bit-or i (used w) (2 ^ s) in
      let b : bit_at i (2 ^ s) ≡ 1 = ap (λ (j : ℕ). bit_at j (2 ^ s)) (sym e) ∙ bit-self s in
      let c = bit-most i (used w) in
      omega arith

  or-other : (i m : ℕ) → (s ≡ i → ⊥) → bit_at i (bit_or m (2 ^ s)) ≡ bit_at i m
  or-other i m e = let a = bit-or i m (2 ^ s) in let b = bit-other i s e in omega arith

  line-occ : (i : ℕ) → i < 64 → occ i (line w ++ s ∷ []) ≡ bit_at i (bit_or (used w) (2 ^ s))
  line-occ i h = go (eqb s i) refl
    where
      go : (x : Bool) → eqb s i ≡ x → occ i (line w ++ s ∷ []) ≡ bit_at i (bit_or (used w) (2 ^ s))
      go true e =
          let q = eqb-true s i e in
          let z : bit_at i (used w) ≡ 0 = ap (λ (j : ℕ). bit_at j (used w)) (sym q) ∙ fr in
          let a = occ-snoc-yes i s (line w) q in
          let b = t.tie i h in
          let c = new-bit-yes i q in
          omega arith
      go false e =
          let q = eqb-false s i e in
          occ-snoc-no i s (line w) q ∙ t.tie i h ∙ sym (or-other i (used w) q)

  or-fits : bit_or (used w) (2 ^ s) < 2 ^ 64
  or-fits = or_lt 64 (used w) (2 ^ s) t.fits (power-fits s s64)

  placed-aged : Aged (set w.order s (ones (used w))) 0 (line w ++ s ∷ [])
  placed-aged =
      let a = t.whole in
      aged-snoc w.order s (ones (used w)) 0 (line w) (omega arith) (t.tie s s64 ∙ fr)
      (let b = tied-length (used w) (line w) t.fits t.low t.tie in omega arith) t.aged

  pub placed-line : line (placed w l n p s g time timeout) ≡ line w ++ s ∷ []
  unfolding line
  placed-line =
      ap (λ (u : ℕ). take (ones u) (laid_out (set w.order s (ones (used w))) (slots u) (replicate 64 0))) used-placed
      ∙ laid-line (set w.order s (ones (used w))) (bit_or (used w) (2 ^ s)) (line w ++ s ∷ []) or-fits
      (below-snoc 64 s (line w) s64 t.low) line-occ placed-aged

  mine-same : mine (placed w l n p s g time timeout) p ≡ bit_or (mine w p) (2 ^ s)
  mine-same =
      get_or-set_same (set w.masks 0 (bit_or (used w) (2 ^ s))) (1 + p) (bit_or (mine w p) (2 ^ s)) 0
      (let a = length-set w.masks 0 (bit_or (used w) (2 ^ s)) in omega arith)

  mine-other : (q : ℕ) → (q ≡ p → ⊥) → mine (placed w l n p s g time timeout) q ≡ mine w q
  mine-other q h =
      get_or-set_other (set w.masks 0 (bit_or (used w) (2 ^ s))) (1 + p) (1 + q) (bit_or (mine w p) (2 ^ s)) 0
      (λ e. h (omega arith))
      ∙ get_or-set_other w.masks 0 (1 + q) (bit_or (used w) (2 ^ s)) 0 (λ e. omega arith)

  place_same : get_or (placed w l n p s g time timeout).places (64 + s) 0 ≡ p
  place_same = get_or-set_same (set w.places s l) (64 + s) p 0 (let a = length-set w.places s l in omega arith)

  place_other : (i : ℕ) → (s ≡ i → ⊥) → get_or (placed w l n p s g time timeout).places (64 + i) 0 ≡ get_or w.places (64 + i) 0
  place_other i h =
      get_or-set_other (set w.places s l) (64 + s) (64 + i) p 0 (λ e. h (omega arith))
      ∙ get_or-set_other w.places s (64 + i) l 0 (λ e. omega arith)

  or-self-bit : (m : ℕ) → bit_at s (bit_or m (2 ^ s)) ≡ 1
  or-self-bit m = let a = bit-or s m (2 ^ s) in let b = bit-self s in let c = bit-most s m in omega arith

  nothing : (x : Bool) → ◌≡◌ {A = ℕ} (pick x 0 0) 0
  nothing true = refl
  nothing false = refl

  own_at : (q : ℕ) → q < 8
      → bit_at s (mine (placed w l n p s g time timeout) q)
      ≡ pick (eqb (get_or (placed w l n p s g time timeout).places (64 + s) 0) q) (bit_at s (bit_or (used w) (2 ^ s))) 0
  own_at q h = go (eqb p q) refl
    where
      at : (x : Bool) → eqb p q ≡ x
          → pick (eqb (get_or (placed w l n p s g time timeout).places (64 + s) 0) q) (bit_at s (bit_or (used w) (2 ^ s))) 0
          ≡ pick x 1 0
      at x e = rw (place_same, or-self-bit (used w), e)

      go : (x : Bool) → eqb p q ≡ x
          → bit_at s (mine (placed w l n p s g time timeout) q)
          ≡ pick (eqb (get_or (placed w l n p s g time timeout).places (64 + s) 0) q) (bit_at s (bit_or (used w) (2 ^ s))) 0
      go true e =
          ap (λ (k : ℕ). bit_at s (mine (placed w l n p s g time timeout) k)) (sym (eqb-true p q e))
          ∙ ap (bit_at s) mine-same
          ∙ or-self-bit (mine w p)
          ∙ sym (at true e)
      go false e =
          ap (bit_at s) (mine-other q (λ d. eqb-false p q e (sym d)))
          ∙ t.own q h s s64
          ∙ ap (λ (b : ℕ). pick (eqb (get_or w.places (64 + s) 0) q) b 0) fr
          ∙ nothing (eqb (get_or w.places (64 + s) 0) q)
          ∙ sym (at false e)

  own-off : (q : ℕ) → q < 8 → (i : ℕ) → i < 64 → (s ≡ i → ⊥)
      → bit_at i (mine (placed w l n p s g time timeout) q)
      ≡ pick (eqb (get_or (placed w l n p s g time timeout).places (64 + i) 0) q) (bit_at i (bit_or (used w) (2 ^ s))) 0
  own-off q h i k d = old (eqb p q) refl ∙ t.own q h i k ∙ sym (rw (place_other i d, or-other i (used w) d))
    where
      old : (x : Bool) → eqb p q ≡ x → bit_at i (mine (placed w l n p s g time timeout) q) ≡ bit_at i (mine w q)
      old true e =
          let z = eqb-true p q e in
          ap (λ (k : ℕ). bit_at i (mine (placed w l n p s g time timeout) k)) (sym z)
          ∙ ap (bit_at i) mine-same
          ∙ or-other i (mine w p) d
          ∙ ap (λ (k : ℕ). bit_at i (mine w k)) z
      old false e = ap (bit_at i) (mine-other q (λ z. eqb-false p q e (sym z)))

  narrow-placed : (q : ℕ) → mine (placed w l n p s g time timeout) q < 2 ^ 64
  narrow-placed q = go (eqb p q) refl
    where
      go : (x : Bool) → eqb p q ≡ x → mine (placed w l n p s g time timeout) q < 2 ^ 64
      go true e = rw (← eqb-true p q e, mine-same) (or_lt 64 (mine w p) (2 ^ s) (t.narrow p) (power-fits s s64))
      go false e = rw (mine-other q (λ z. eqb-false p q e (sym z))) (t.narrow q)

  pub placed-tied : Tied (placed w l n p s g time timeout)
  placed-tied =
      record {
        fits = rw used-placed or-fits;
        narrow = narrow-placed;
        low = rw placed-line (below-snoc 64 s (line w) s64 t.low);
        tie = λ i k. ap (occ i) placed-line ∙ line-occ i k ∙ ap (bit_at i) (sym used-placed);
        own =
            λ q k i j. own-all q k i j
            ∙ ap (λ (u : ℕ). pick (eqb (get_or (placed w l n p s g time timeout).places (64 + i) 0) q) (bit_at i u) 0)
            (sym used-placed);
        whole = length-set w.order s (ones (used w)) ∙ t.whole;
        aged = rw placed-line placed-aged;
      }
    where
      own-all : (q : ℕ) → q < 8 → (i : ℕ) → i < 64
          → bit_at i (mine (placed w l n p s g time timeout) q)
          ≡ pick (eqb (get_or (placed w l n p s g time timeout).places (64 + i) 0) q) (bit_at i (bit_or (used w) (2 ^ s))) 0
      own-all q k i j = go (eqb s i) refl
        where
          go : (x : Bool) → eqb s i ≡ x
              → bit_at i (mine (placed w l n p s g time timeout) q)
              ≡ pick (eqb (get_or (placed w l n p s g time timeout).places (64 + i) 0) q) (bit_at i (bit_or (used w) (2 ^ s))) 0
          go true e = rw (← eqb-true s i e) (own_at q k)
          go false e = own-off q k i j (eqb-false s i e)
