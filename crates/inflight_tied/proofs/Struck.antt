-- Where a key matches one request at most, the slot that a search by a mask finds is that request's, and freeing the
-- slot removes it.
-- Assumes nothing.
use mathlib.Core.Path.{◌≡◌, refl, sym, ap, ◌∙◌}
use Prim.Native.Nat.{ℕ, zero, suc, ◌+◌, ◌/◌, ◌%◌, ◌^◌, ◌≤◌, ◌<◌}
use native.Mathlib.Omega.{arith}
use mathlib.Core.Bool.{Bool, true, false}
use mathlib.Core.List.{List, [], ◌∷◌, map}
use lib.Dec.{eqb, leb}
use lib.ListN.{length, get_or}
use borrow.Author.Tests.{eqb-true, eqb-false, leb-true, leb-false}
use Rattle.wire.specs.Choice.{pick}
use Rattle.inflight.specs.Matching.{sum_below, matches, matching, without}
use Rattle.inflight.specs.Requests.{Key}
use Rattle.inflight.specs.Requests.{Request}
use Rattle.inflight.specs.Masks.{bit_at, slots_from, seek, has, within, outside, closed_up, placed_anew}
use Rattle.inflight.specs.Tables.{line, leaving, used, struck, freed}
use Rattle.inflight.specs.declared.Table.{Table}
use Rattle.inflight_tied.proofs.Tied.{occ, Below, Tied, entry, in_flight}
use Rattle.inflight_tied.proofs.Ties.{line-length, here, occ-tail}
use Rattle.inflight_tied.proofs.Cuts.{cut_by, struck-line}
use Rattle.inflight_tied.proofs.Loads.{keep, keep-below, keep-occ, named-map, length-of-map}
use Rattle.inflight_tied.proofs.Freed.{has-self, has_other, freed-line}

pub record Hit (f : ℕ → Bool) (k i m r : ℕ) : Type 0 where
  pub at : ℕ
  pub low : at < k
  pub set : bit_at at m ≡ 1
  pub yes : f (i + at) ≡ true
  pub here : r ≡ i + at

pub seek_found : (f : ℕ → Bool) (k i m : ℕ) → (seek f (slots_from k i m) ≡ 64 → ⊥)
    → Hit f k i m (seek f (slots_from k i m))
unfolding seek slots_from bit_at
seek_found f zero i m h = absurd (h refl)
seek_found f (suc k) i m h = go (eqb (m % 2) 1) refl h (λ d. seek_found f k (suc i) (m / 2) d)
  where
    later : (r : ℕ) → Hit f k (suc i) (m / 2) r → Hit f (suc k) i m r
    later r q =
        let z : suc i + q.at ≡ i + suc q.at = omega arith in
        let a = q.low in
        record { at = suc q.at; low = omega arith; set = q.set; yes = ap f (sym z) ∙ q.yes; here = q.here ∙ z }

    head : eqb (m % 2) 1 ≡ true → (s : Bool) → f i ≡ s → (pick s i (seek f (slots_from k (suc i) (m / 2))) ≡ 64 → ⊥)
        → ((seek f (slots_from k (suc i) (m / 2)) ≡ 64 → ⊥)
        → Hit f k (suc i) (m / 2) (seek f (slots_from k (suc i) (m / 2))))
        → Hit f (suc k) i m (pick s i (seek f (slots_from k (suc i) (m / 2))))
    head e true q d r =
        let z : i + 0 ≡ i = omega arith in
        record { at = 0; low = omega arith; set = eqb-true (m % 2) 1 e; yes = ap f z ∙ q; here = sym z }
    head e false q d r = later (seek f (slots_from k (suc i) (m / 2))) (r d)

    go : (t : Bool) → eqb (m % 2) 1 ≡ t
        → (seek f (pick t (i ∷ slots_from k (suc i) (m / 2)) (slots_from k (suc i) (m / 2))) ≡ 64 → ⊥)
        → ((seek f (slots_from k (suc i) (m / 2)) ≡ 64 → ⊥)
        → Hit f k (suc i) (m / 2) (seek f (slots_from k (suc i) (m / 2))))
        → Hit f (suc k) i m (seek f (pick t (i ∷ slots_from k (suc i) (m / 2)) (slots_from k (suc i) (m / 2))))
    go true e d r = head e (f i) refl d r
    go false e d r = later (seek f (slots_from k (suc i) (m / 2))) (r d)

-- two places of a sum
one_of : (k : ℕ) (f : ℕ → ℕ) (a : ℕ) → a < k → f a ≤ sum_below k f
unfolding sum_below
one_of zero f a h = absurd (omega arith)
one_of (suc k) f a h = go (eqb a k) refl (one_of k f a)
  where
    go : (t : Bool) → eqb a k ≡ t → (a < k → f a ≤ sum_below k f) → f a ≤ sum_below k f + f k
    go true e m = let z : f a ≡ f k = ap f (eqb-true a k e) in omega arith
    go false e m = let q = eqb-false a k e in let r = m (omega (arith, q)) in omega arith

two-of : (k : ℕ) (f : ℕ → ℕ) (a b : ℕ) → a < b → b < k → f a + f b ≤ sum_below k f
unfolding sum_below
two-of zero f a b h l = absurd (omega arith)
two-of (suc k) f a b h l = go (eqb b k) refl (two-of k f a b h) (one_of k f a)
  where
    go : (t : Bool) → eqb b k ≡ t → (b < k → f a + f b ≤ sum_below k f) → (a < k → f a ≤ sum_below k f)
        → f a + f b ≤ sum_below k f + f k
    go true e m o = let q = eqb-true b k e in let z : f b ≡ f k = ap f q in let r = o (omega arith) in omega arith
    go false e m o = let q = eqb-false b k e in let r = m (omega (arith, q)) in omega arith

-- ---- slots leave whose requests are just those that a key matches

module _ (w : Table) (g : ℕ) (os : List ℕ) where
  entry-cut : (x : ℕ) → entry (cut_by w g os) x ≡ entry w x
  unfolding entry
  entry-cut x = refl

  map-cut : (xs : List ℕ) → map (entry (cut_by w g os)) xs ≡ map (entry w) xs
  map-cut [] = refl
  map-cut (x ∷ xs) = rw (entry-cut x, map-cut xs)

module _ (w : Table) (k : Key) (g : ℕ) where
  without-map : (xs : List ℕ) → Below 64 xs → ((x : ℕ) → x < 64 → 0 < occ x xs → matches k (entry w x) ≡ has g x)
      → without k (map (entry w) xs) ≡ map (entry w) (outside g xs)
  unfolding without outside Below
  without-map [] b h = refl
  without-map (x ∷ xs) b h =
      go (matches k (entry w x)) (has g x) (h x b.0 (here x xs))
      (without-map xs b.1 (λ y l o. h y l (let a = occ-tail x y xs in omega arith)))
    where
      go : (u v : Bool) → u ≡ v → without k (map (entry w) xs) ≡ map (entry w) (outside g xs)
          → pick u (without k (map (entry w) xs)) (entry w x ∷ without k (map (entry w) xs))
          ≡ map (entry w) (pick v (outside g xs) (x ∷ outside g xs))
      go true v e m = rw (← e) m
      go false v e m = rw (← e) (ap (λ (l : List Request). entry w x ∷ l) m)

  matching-map : (xs : List ℕ) → Below 64 xs → ((x : ℕ) → x < 64 → 0 < occ x xs → matches k (entry w x) ≡ has g x)
      → matching k (map (entry w) xs) ≡ map (entry w) (within g xs)
  unfolding matching within Below
  matching-map [] b h = refl
  matching-map (x ∷ xs) b h =
      go (matches k (entry w x)) (has g x) (h x b.0 (here x xs))
      (matching-map xs b.1 (λ y l o. h y l (let a = occ-tail x y xs in omega arith)))
    where
      go : (u v : Bool) → u ≡ v → matching k (map (entry w) xs) ≡ map (entry w) (within g xs)
          → pick u (entry w x ∷ matching k (map (entry w) xs)) (matching k (map (entry w) xs))
          ≡ map (entry w) (pick v (x ∷ within g xs) (within g xs))
      go true v e m = rw (← e) (ap (λ (l : List Request). entry w x ∷ l) m)
      go false v e m = rw (← e) m

  module _ (t : Tied w) (hit-is : (x : ℕ) → x < 64 → 0 < occ x (line w) → matches k (entry w x) ≡ has g x) where
    -- the table afterwards reads as the model does
    cut-standing : (os : List ℕ) → line (cut_by w g os) ≡ outside g (line w)
        → in_flight (cut_by w g os) ≡ without k (in_flight w)
    unfolding in_flight
    cut-standing os e =
        map-cut w g os (line (cut_by w g os)) ∙ ap (map (entry w)) e ∙ sym (without-map (line w) t.low hit-is)

    pub struck-standing : g < 2 ^ 64 → in_flight (struck w g) ≡ without k (in_flight w)
    unfolding struck
    struck-standing f = cut-standing (placed_anew (outside g (line w)) 0 w.order) (struck-line w g f t)

    -- the requests that leave are those that the key matches
    pub leaving-matching : matching k (in_flight w) ≡ map (entry w) (leaving w g)
    unfolding in_flight
    leaving-matching = matching-map (line w) t.low hit-is

module _ (w : Table) (t : Tied w) (k : Key) (s : ℕ) (s64 : s < 64) (in_use : bit_at s (used w) ≡ 1)
    (yes : matches k (entry w s) ≡ true) (once : length (matching k (in_flight w)) ≤ 1) where
  kept-length : length (matching k (in_flight w)) ≡ sum_below 64 (λ i. occ i (keep (λ x. matches k (entry w x)) (line w)))
  unfolding in_flight
  kept-length =
      ap length (named-map k w (line w))
      ∙ length-of-map w (keep (λ x. matches k (entry w x)) (line w))
      ∙ line-length 64 (keep (λ x. matches k (entry w x)) (line w))
      (keep-below 64 (λ x. matches k (entry w x)) (line w) t.low)

  occ-at : (i : ℕ) → i < 64 → matches k (entry w i) ≡ true
      → occ i (keep (λ x. matches k (entry w x)) (line w)) ≡ occ i (line w)
  occ-at i h e = keep-occ (λ x. matches k (entry w x)) i (line w) ∙ rw e

  -- no other in_flight slot is matching
  alone : (i : ℕ) → i < 64 → 0 < occ i (line w) → matches k (entry w i) ≡ true → i ≡ s
  alone i h o e = go (eqb i s) refl
    where
      f : ℕ → ℕ
      f j = occ j (keep (λ x. matches k (entry w x)) (line w))

      less : (a b : ℕ) → a < b → b < 64 → 0 < f a → 0 < f b → ⊥
      less a b l m p q = let x = two-of 64 f a b l m in let y = kept-length in let z = once in omega arith

      pa : 0 < f i
      pa = rw (occ-at i h e) o

      pb : 0 < f s
      pb = rw (occ-at s s64 yes) (let a = t.tie s s64 in let b = in_use in omega arith)

      go : (x : Bool) → eqb i s ≡ x → i ≡ s
      go true q = eqb-true i s q
      go false q = let n = eqb-false i s q in side (leb i s) refl n
        where
          side : (y : Bool) → leb i s ≡ y → (i ≡ s → ⊥) → i ≡ s
          side true z n = let l = leb-true i s z in absurd (less i s (omega (arith, n)) s64 pa pb)
          side false z n = let l = leb-false i s z in absurd (less s i l h pb pa)

  hit-is : (x : ℕ) → x < 64 → 0 < occ x (line w) → matches k (entry w x) ≡ has (2 ^ s) x
  hit-is x h o = go (eqb x s) refl (matches k (entry w x)) refl
    where
      go : (a : Bool) → eqb x s ≡ a → (b : Bool) → matches k (entry w x) ≡ b → matches k (entry w x) ≡ has (2 ^ s) x
      go true e b d =
          let q = eqb-true x s e in
          ap (λ (j : ℕ). matches k (entry w j)) q ∙ yes ∙ sym (has-self s s64) ∙ ap (has (2 ^ s)) (sym q)
      go false e true d = absurd (eqb-false x s e (alone x h o d))
      go false e false d = d ∙ sym (has_other s x h (eqb-false x s e))

  pub slot-standing : in_flight (freed w s) ≡ without k (in_flight w)
  unfolding freed
  slot-standing =
      cut-standing w k (2 ^ s) t hit-is (map (closed_up (get_or w.order s 0)) w.order)
      (freed-line w t s s64 in_use)
