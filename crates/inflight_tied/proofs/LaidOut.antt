-- The order of acceptance by places: where the k-th oldest slot's place is k, laying the used slots out by their places
-- gives them oldest first. And this is so of one slot more, behind the others, and where slots take their places anew.
-- Assumes nothing.
use mathlib.Core.Path.{◌≡◌, refl, sym, ap, ◌∙◌}
use Prim.Native.Nat.{ℕ, zero, suc, ◌+◌, ◌/◌, ◌%◌, ◌^◌, ◌≤◌, ◌<◌}
use native.Mathlib.Omega.{arith}
use mathlib.Core.Bool.{Bool, true, false}
use mathlib.Core.List.{List, [], ◌∷◌, ◌++◌}
use lib.Dec.{eqb}
use lib.Count.{ones, ones-le}
use lib.ListN.{length, take, get_or, set, replicate, length-set}
use lib.Seq.{ext_get_or, get_or-take, get_or-set_same, get_or-set_other, length-take-le}
use borrow.Author.Tests.{eqb-true, eqb-false}
use Rattle.wire.specs.Choice.{pick}
use Rattle.inflight.specs.Masks.{bit_at, slots_from, slots, laid_out, placed_anew}
use Rattle.inflight_tied.proofs.Tied.{occ, Below, Aged}
use Rattle.inflight_tied.proofs.Ties.{bit-most, occ-yes, occ-no, occ-nil, here, occ-tail, tied-length}

-- ---- elements of a list by their places in it

below_at : (k : ℕ) (xs : List ℕ) (r : ℕ) → Below k xs → r < length xs → get_or xs r 0 < k
unfolding Below
below_at k [] r b h = absurd (omega arith)
below_at k (x ∷ xs) zero b h = b.0
below_at k (x ∷ xs) (suc r) b h = below_at k xs r b.1 (omega arith)

occ-at : (xs : List ℕ) (r : ℕ) → r < length xs → 0 < occ (get_or xs r 0) xs
occ-at [] r h = absurd (omega arith)
occ-at (x ∷ xs) zero h = here x xs
occ-at (x ∷ xs) (suc r) h =
    let a = occ-at xs r (omega arith) in let b = occ-tail x (get_or xs r 0) xs in omega arith

record Stands (j : ℕ) (xs : List ℕ) : Type 0 where
  at : ℕ
  low : at < length xs
  same : get_or xs at 0 ≡ j

stands : (j : ℕ) (xs : List ℕ) → 0 < occ j xs → Stands j xs
stands j [] h = let a = occ-nil j in absurd (omega arith)
stands j (x ∷ xs) h = go (eqb x j) refl (stands j xs)
  where
    go : (t : Bool) → eqb x j ≡ t → (0 < occ j xs → Stands j xs) → Stands j (x ∷ xs)
    go true e m = record { at = 0; low = omega arith; same = eqb-true x j e }
    go false e m =
        let a = occ-no j x xs (eqb-false x j e) in
        let r = m (omega arith) in
        let l = r.low in
        record { at = suc r.at; low = omega arith; same = r.same }

aged-at : (os : List ℕ) (k : ℕ) (xs : List ℕ) (r : ℕ) → Aged os k xs → r < length xs → get_or os (get_or xs r 0) 0 ≡ k + r
unfolding Aged
aged-at os k [] r a h = absurd (omega arith)
aged-at os k (x ∷ xs) zero a h = let e = a.0 in omega arith
aged-at os k (x ∷ xs) (suc r) a h = let e = aged-at os (suc k) xs r a.1 (omega arith) in omega arith

-- ---- the slots of a mask

slots-has : (k i m j : ℕ) → j < k → bit_at j m ≡ 1 → 0 < occ (i + j) (slots_from k i m)
unfolding slots_from bit_at
slots-has zero i m j h b = absurd (omega arith)
slots-has (suc k) i m zero h b =
    let z : i + 0 ≡ i = omega arith in rw (b, z) (here i (slots_from k (suc i) (m / 2)))
slots-has (suc k) i m (suc j) h b =
    go (eqb (m % 2) 1)
    (let z : suc i + j ≡ i + suc j = omega arith in rw (← z) (slots-has k (suc i) (m / 2) j (omega arith) b))
  where
    go : (t : Bool) → 0 < occ (i + suc j) (slots_from k (suc i) (m / 2))
        → 0 < occ (i + suc j) (pick t (i ∷ slots_from k (suc i) (m / 2)) (slots_from k (suc i) (m / 2)))
    go true o = let a = occ-tail i (i + suc j) (slots_from k (suc i) (m / 2)) in omega arith
    go false o = o

record Slot (k i m j : ℕ) : Type 0 where
  at : ℕ
  low : at < k
  bit : bit_at at m ≡ 1
  same : j ≡ i + at

slots-only : (k i m j : ℕ) → 0 < occ j (slots_from k i m) → Slot k i m j
unfolding slots_from bit_at
slots-only zero i m j h = let a = occ-nil j in absurd (omega arith)
slots-only (suc k) i m j h = go (eqb (m % 2) 1) refl h (λ o. slots-only k (suc i) (m / 2) j o)
  where
    later : Slot k (suc i) (m / 2) j → Slot (suc k) i m j
    later r =
        let l = r.low in
        let e = r.same in
        record { at = suc r.at; low = omega arith; bit = r.bit; same = omega arith }

    head : eqb (m % 2) 1 ≡ true → (s : Bool) → eqb i j ≡ s → 0 < occ j (i ∷ slots_from k (suc i) (m / 2))
        → (0 < occ j (slots_from k (suc i) (m / 2)) → Slot k (suc i) (m / 2) j) → Slot (suc k) i m j
    head e true d o r =
        let q = eqb-true i j d in
        record { at = 0; low = omega arith; bit = eqb-true (m % 2) 1 e; same = omega arith }
    head e false d o r =
        let a = occ-no j i (slots_from k (suc i) (m / 2)) (eqb-false i j d) in later (r (omega arith))

    go : (t : Bool) → eqb (m % 2) 1 ≡ t
        → 0 < occ j (pick t (i ∷ slots_from k (suc i) (m / 2)) (slots_from k (suc i) (m / 2)))
        → (0 < occ j (slots_from k (suc i) (m / 2)) → Slot k (suc i) (m / 2) j) → Slot (suc k) i m j
    go true e o r = head e (eqb i j) refl o r
    go false e o r = later (r o)

-- ---- slots laid out by their places

laid_out-length : (os is acc : List ℕ) → length (laid_out os is acc) ≡ length acc
unfolding laid_out
laid_out-length os [] acc = refl
laid_out-length os (i ∷ is) acc =
    laid_out-length os is (set acc (get_or os i 0 % 64) i) ∙ length-set acc (get_or os i 0 % 64) i

module _ (os : List ℕ) (k x : ℕ) where
  -- where no slot but x has place k, x stands there once it is stored
  laid_kept : (is acc : List ℕ) → k < length acc → get_or acc k 0 ≡ x
      → ((j : ℕ) → 0 < occ j is → get_or os j 0 % 64 ≡ k → j ≡ x) → get_or (laid_out os is acc) k 0 ≡ x
  unfolding laid_out
  laid_kept [] acc l e u = e
  laid_kept (i ∷ is) acc l e u =
      laid_kept is (set acc (get_or os i 0 % 64) i) (let a = length-set acc (get_or os i 0 % 64) i in omega arith)
      (go (eqb (get_or os i 0 % 64) k) refl) (λ j o q. u j (let a = occ-tail i j is in omega arith) q)
    where
      go : (t : Bool) → eqb (get_or os i 0 % 64) k ≡ t → get_or (set acc (get_or os i 0 % 64) i) k 0 ≡ x
      go true d =
          let q = eqb-true (get_or os i 0 % 64) k d in
          ap (λ (p : ℕ). get_or (set acc p i) k 0) q ∙ get_or-set_same acc k i 0 l ∙ u i (here i is) q
      go false d =
          get_or-set_other acc (get_or os i 0 % 64) k i 0 (λ q. eqb-false (get_or os i 0 % 64) k d (sym q)) ∙ e

  laid-at : (is acc : List ℕ) → k < length acc → 0 < occ x is → get_or os x 0 % 64 ≡ k
      → ((j : ℕ) → 0 < occ j is → get_or os j 0 % 64 ≡ k → j ≡ x) → get_or (laid_out os is acc) k 0 ≡ x
  unfolding laid_out
  laid-at [] acc l o e u = let a = occ-nil x in absurd (omega arith)
  laid-at (i ∷ is) acc l o e u = go (eqb i x) refl (laid-at is (set acc (get_or os i 0 % 64) i) l')
    where
      l' : k < length (set acc (get_or os i 0 % 64) i)
      l' = let a = length-set acc (get_or os i 0 % 64) i in omega arith

      u' : (j : ℕ) → 0 < occ j is → get_or os j 0 % 64 ≡ k → j ≡ x
      u' j m q = u j (let a = occ-tail i j is in omega arith) q

      go : (t : Bool) → eqb i x ≡ t
          → (0 < occ x is → get_or os x 0 % 64 ≡ k → ((j : ℕ) → 0 < occ j is → get_or os j 0 % 64 ≡ k → j ≡ x)
          → get_or (laid_out os is (set acc (get_or os i 0 % 64) i)) k 0 ≡ x)
          → get_or (laid_out os is (set acc (get_or os i 0 % 64) i)) k 0 ≡ x
      go true d m =
          let q = eqb-true i x d in
          let p : get_or os i 0 % 64 ≡ k = ap (λ (y : ℕ). get_or os y 0 % 64) q ∙ e in
          laid_kept is (set acc (get_or os i 0 % 64) i) l'
          (ap (λ (y : ℕ). get_or (set acc y i) k 0) p ∙ get_or-set_same acc k i 0 l ∙ q) u'
      go false d m = let a = occ-no x i is (eqb-false i x d) in m (omega arith) e u'

module _ (os : List ℕ) (u : ℕ) (xs : List ℕ) (f : u < 2 ^ 64) (b : Below 64 xs)
    (tie : (i : ℕ) → i < 64 → occ i xs ≡ bit_at i u) (a : Aged os 0 xs) where
  size : length xs ≡ ones u
  size = tied-length u xs f b tie

  few : ones u ≤ 64
  few = ones-le 64 u f

  laid-elem : (r : ℕ) → r < length xs → get_or (laid_out os (slots u) (replicate 64 0)) r 0 ≡ get_or xs r 0
  laid-elem r h =
      laid-at os r (get_or xs r 0) (slots u) (replicate 64 0) r64 used-slot
      (let e = aged-at os 0 xs r a h in let l = r64 in omega arith) only
    where
      r64 : r < 64
      r64 = let s = size in let l = few in omega (arith, h, s, l)

      used-slot : 0 < occ (get_or xs r 0) (slots u)
      used-slot =
          let l = below_at 64 xs r b h in
          let o = occ-at xs r h in
          let t = tie (get_or xs r 0) l in
          let m = bit-most (get_or xs r 0) u in
          let z : 0 + get_or xs r 0 ≡ get_or xs r 0 = omega arith in
          rw (← z) (slots-has 64 0 u (get_or xs r 0) l (omega arith))

      only : (j : ℕ) → 0 < occ j (slots u) → get_or os j 0 % 64 ≡ r → j ≡ get_or xs r 0
      only j o e =
          let s = slots-only 64 0 u j o in
          let l = s.low in
          let z : j ≡ s.at = let y = s.same in omega arith in
          let c : occ j xs ≡ 1 = ap (λ (i : ℕ). occ i xs) z ∙ tie s.at l ∙ s.bit in
          let p = stands j xs (omega arith) in
          let g : get_or os j 0 ≡ 0 + p.at =
          ap (λ (i : ℕ). get_or os i 0) (sym p.same) ∙ aged-at os 0 xs p.at a p.low in
          let q : p.at ≡ r = let n = p.low in let y = size in let v = few in omega arith in
          sym p.same ∙ ap (λ (i : ℕ). get_or xs i 0) q

  -- a line that is tied to a mask, and whose places rise from 0 by 1, is the mask's slots laid out
  pub laid-line : take (ones u) (laid_out os (slots u) (replicate 64 0)) ≡ xs
  laid-line =
      let n : length (take (ones u) (laid_out os (slots u) (replicate 64 0))) ≡ ones u =
      length-take-le (ones u) (laid_out os (slots u) (replicate 64 0))
      (let l = laid_out-length os (slots u) (replicate 64 0) in let v = few in omega arith) in
      let s = size in
      ext_get_or 0 (take (ones u) (laid_out os (slots u) (replicate 64 0))) xs (n ∙ sym s)
      (λ r h. get_or-take (ones u) (laid_out os (slots u) (replicate 64 0)) r 0 (omega (arith, h, n))
      ∙ laid-elem r (omega (arith, h, n, s)))

-- ---- one slot more, behind all others

pub aged-snoc : (os : List ℕ) (s n k : ℕ) (xs : List ℕ) → s < length os → occ s xs ≡ 0 → k + length xs ≡ n
    → Aged os k xs → Aged (set os s n) k (xs ++ s ∷ [])
unfolding Aged
aged-snoc os s n k [] h o e a = (get_or-set_same os s n 0 h ∙ omega arith, tt)
aged-snoc os s n k (x ∷ xs) h o e a =
    let d : (x ≡ s → ⊥) = λ q. (let c = occ-yes s x xs q in omega arith) in
    (get_or-set_other os s x n 0 d ∙ a.0, aged-snoc os s n (suc k) xs h (sym (occ-no s x xs d) ∙ o) (omega arith) a.1)

-- ---- places anew

pub anew-length : (xs : List ℕ) (k : ℕ) (os : List ℕ) → length (placed_anew xs k os) ≡ length os
unfolding placed_anew
anew-length [] k os = refl
anew-length (x ∷ xs) k os = anew-length xs (suc k) (set os (x % 64) k) ∙ length-set os (x % 64) k

anew-other : (xs : List ℕ) (k : ℕ) (os : List ℕ) (y : ℕ) → Below 64 xs → occ y xs ≡ 0
    → get_or (placed_anew xs k os) y 0 ≡ get_or os y 0
unfolding placed_anew Below
anew-other [] k os y b o = refl
anew-other (x ∷ xs) k os y b o =
    let l = b.0 in
    let d : (x ≡ y → ⊥) = λ q. (let c = occ-yes y x xs q in omega arith) in
    anew-other xs (suc k) (set os (x % 64) k) y b.1 (sym (occ-no y x xs d) ∙ o)
    ∙ get_or-set_other os (x % 64) y k 0 (λ q. d (omega arith))

pub aged-anew : (xs : List ℕ) (k : ℕ) (os : List ℕ) → length os ≡ 64 → Below 64 xs
    → ((i : ℕ) → i < 64 → occ i xs ≤ 1) → Aged (placed_anew xs k os) k xs
unfolding placed_anew Below Aged
aged-anew [] k os l b o = tt
aged-anew (x ∷ xs) k os l b o =
    let h = b.0 in
    let z : x % 64 ≡ x = omega arith in
    let n : length (set os (x % 64) k) ≡ 64 = length-set os (x % 64) k ∙ l in
    let c : occ x xs ≡ 0 = let p = o x h in let q = occ-yes x x xs refl in omega arith in (
      anew-other xs (suc k) (set os (x % 64) k) x b.1 c
          ∙ ap (λ (y : ℕ). get_or (set os y k) x 0) z
          ∙ get_or-set_same os x k 0 (omega arith),
      aged-anew xs (suc k) (set os (x % 64) k) n b.1
          (λ i j. let p = o i j in let q = occ-tail x i xs in omega arith),
    )
