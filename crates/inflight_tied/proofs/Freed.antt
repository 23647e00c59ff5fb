-- On a tied table each slot stands in the line once at most: freeing a used slot keeps the tie, and takes just that
-- slot out of the line.
-- Assumes nothing.
use mathlib.Core.Path.{◌≡◌, refl, sym, ap, ◌∙◌}
use Prim.Native.Nat.{ℕ, suc, ◌%◌, ◌^◌, ◌≤◌, ◌<◌}
use native.Mathlib.Omega.{arith}
use mathlib.Core.Bool.{Bool, true, false}
use mathlib.Core.List.{List, [], ◌∷◌, map}
use lib.Dec.{eqb}
use lib.ListN.{length, get_or, length-map}
use borrow.Author.Tests.{eqb-true, eqb-false, eq-eqb, lt-ltb, le-ltb}
use Rattle.inflight.specs.Masks.{bit_at, has, outside, closed_up}
use Rattle.inflight.specs.Tables.{used, line, freed}
use Rattle.inflight.specs.declared.Table.{Table}
use Rattle.inflight_tied.proofs.Tied.{occ, Below, Aged, Tied}
use Rattle.inflight_tied.proofs.Ties.{occ-yes, occ-no, occ-nil, get_d_map}
use Rattle.inflight_tied.proofs.Placed.{bit-self, bit-other, power-fits}
use Rattle.inflight_tied.proofs.Cuts.{cut_line, cut_tied}

-- ---- the mask of one slot has it, and no other

pub has-self : (s : ℕ) → s < 64 → has (2 ^ s) s ≡ true
has-self s h = let z : s % 64 ≡ s = omega arith in ap (λ (j : ℕ). eqb (bit_at j (2 ^ s)) 1) z ∙ eq-eqb _ 1 (bit-self s)

pub has_other : (s x : ℕ) → x < 64 → (x ≡ s → ⊥) → has (2 ^ s) x ≡ false
has_other s x h n =
    let z : x % 64 ≡ x = omega arith in
    let b = bit-other x s (λ e. n (sym e)) in
    ap (λ (j : ℕ). eqb (bit_at j (2 ^ s)) 1) z ∙ ap (λ (y : ℕ). eqb y 1) b

-- ---- places closed up

module _ (os : List ℕ) (a : ℕ) where
  closed_at : (x : ℕ) → get_or (map (closed_up a) os) x 0 ≡ closed_up a (get_or os x 0)
  closed_at x = get_d_map (closed_up a) os x (rw (le-ltb a 0 (omega arith)))

  closed-before : (x k : ℕ) → k < a → get_or os x 0 ≡ k → get_or (map (closed_up a) os) x 0 ≡ k
  closed-before x k h e = closed_at x ∙ rw (e, le-ltb a k (omega arith))

  closed-behind : (x k : ℕ) → a ≤ k → get_or os x 0 ≡ suc k → get_or (map (closed_up a) os) x 0 ≡ k
  closed-behind x k h e = closed_at x ∙ rw (e, lt-ltb a (suc k) (omega arith)) (omega arith)

  aged-behind : (k : ℕ) (xs : List ℕ) → a ≤ k → Aged os (suc k) xs → Aged (map (closed_up a) os) k xs
  unfolding Aged
  aged-behind k [] h g = tt
  aged-behind k (x ∷ xs) h g = (closed-behind x k h g.0, aged-behind (suc k) xs (omega arith) g.1)

-- a slot that stands in a line is not before the line's first
aged-from : (os : List ℕ) (s k : ℕ) (xs : List ℕ) → 0 < occ s xs → Aged os k xs → k ≤ get_or os s 0
unfolding Aged
aged-from os s k [] o g = let a = occ-nil s in absurd (omega arith)
aged-from os s k (x ∷ xs) o g = go (eqb x s) refl (aged-from os s (suc k) xs)
  where
    go : (t : Bool) → eqb x s ≡ t → (0 < occ s xs → Aged os (suc k) xs → suc k ≤ get_or os s 0) → k ≤ get_or os s 0
    go true e m =
        let q : get_or os s 0 ≡ k = ap (λ (y : ℕ). get_or os y 0) (sym (eqb-true x s e)) ∙ g.0 in omega arith
    go false e m =
        let a = occ-no s x xs (eqb-false x s e) in let r = m (omega arith) g.1 in omega arith

module _ (s : ℕ) (s64 : s < 64) where
  -- a slot that does not stand in some bytes leaves them
  outside-absent : (xs : List ℕ) → Below 64 xs → occ s xs ≡ 0 → outside (2 ^ s) xs ≡ xs
  unfolding outside Below
  outside-absent [] b o = refl
  outside-absent (x ∷ xs) b o =
      let n : (x ≡ s → ⊥) = λ e. (let a = occ-yes s x xs e in omega arith) in
      rw (has_other s x b.0 n) (ap (λ (ys : List ℕ). x ∷ ys) (outside-absent xs b.1 (sym (occ-no s x xs n) ∙ o)))

  -- where it stands once, those behind it come one place forward
  aged-closed : (os : List ℕ) (k : ℕ) (xs : List ℕ) → Below 64 xs → occ s xs ≡ 1 → Aged os k xs
      → Aged (map (closed_up (get_or os s 0)) os) k (outside (2 ^ s) xs)
  unfolding outside Below Aged
  aged-closed os k [] b o g = tt
  aged-closed os k (x ∷ xs) b o g = go (eqb x s) refl (aged-closed os (suc k) xs b.1)
    where
      go : (t : Bool) → eqb x s ≡ t
          → (occ s xs ≡ 1 → Aged os (suc k) xs
          → Aged (map (closed_up (get_or os s 0)) os) (suc k) (outside (2 ^ s) xs))
          → Aged (map (closed_up (get_or os s 0)) os) k (outside (2 ^ s) (x ∷ xs))
      go true e m =
          let q = eqb-true x s e in
          let c = occ-yes s x xs q in
          let h : has (2 ^ s) x ≡ true = ap (has (2 ^ s)) q ∙ has-self s s64 in
          let p : get_or os s 0 ≡ k = ap (λ (y : ℕ). get_or os y 0) (sym q) ∙ g.0 in
          rw (h, outside-absent xs b.1 (omega arith)) (aged-behind os (get_or os s 0) k xs (omega arith) g.1)
      go false e m =
          let q = eqb-false x s e in
          let c : occ s xs ≡ 1 = sym (occ-no s x xs q) ∙ o in
          let l = aged-from os s (suc k) xs (omega arith) g.1 in
          rw (has_other s x b.0 q)
          (closed-before os (get_or os s 0) x k (omega arith) g.0, m c g.1)

-- ---- a used slot is freed

module _ (w : Table) (t : Tied w) (s : ℕ) (s64 : s < 64) (in_use : bit_at s (used w) ≡ 1) where
  closed : Aged (map (closed_up (get_or w.order s 0)) w.order) 0 (outside (2 ^ s) (line w))
  closed = aged-closed s s64 w.order 0 (line w) t.low (t.tie s s64 ∙ in_use) t.aged

  closed-whole : length (map (closed_up (get_or w.order s 0)) w.order) ≡ 64
  closed-whole = length-map w.order (closed_up (get_or w.order s 0)) ∙ t.whole

  pub freed-line : line (freed w s) ≡ outside (2 ^ s) (line w)
  unfolding freed
  freed-line =
      cut_line w (2 ^ s) (power-fits s s64) t (map (closed_up (get_or w.order s 0)) w.order) closed-whole closed

  pub freed-tied : Tied (freed w s)
  unfolding freed
  freed-tied =
      cut_tied w (2 ^ s) (power-fits s s64) t (map (closed_up (get_or w.order s 0)) w.order) closed-whole closed
