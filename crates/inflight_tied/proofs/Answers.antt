-- On a tied table the searches by masks find what the book's requests have, and an ask is answered as the book answers
-- it.
-- Assumes nothing.
use mathlib.Core.Path.{◌≡◌, refl, sym, ap, ◌∙◌}
use Prim.Native.Nat.{ℕ, zero, suc, ◌+◌, ◌/◌, ◌%◌, ◌≤◌, ◌<◌}
use native.Mathlib.Omega.{arith}
use mathlib.Core.Bool.{Bool, true, false, not, ◌&&◌}
use mathlib.Core.List.{[], ◌∷◌}
use lib.Dec.{eqb, leb}
use lib.IntN.{pos}
use lib.Count.{ones}
use lib.ListN.{length, get_or}
use borrow.Author.Tests.{eqb-true, eqb-false, leb-false}
use Rattle.inflight.specs.Numbers.{same, after}
use Rattle.wire.specs.Choice.{pick, first}
use Rattle.inflight.specs.Matching.{sum_below, matches, matching, load, capacity_taken, next_free}
use Rattle.inflight.specs.Model.{check_ask}
use Rattle.inflight.specs.declared.FrontNumber.{FrontNumber}
use Rattle.inflight.specs.declared.PublisherNumber.{PublisherNumber}
use Rattle.inflight.specs.Requests.{Key}
use Rattle.inflight.specs.Requests.{Reply, Cancel}
use Rattle.inflight.specs.Masks.{bit_at, slots, slots_from, seek}
use Rattle.inflight.specs.Tables.{taken_of, free_of, check_load, check_ask_of, line, used, mine, is_front}
use Rattle.inflight.specs.declared.Table.{Table}
use Rattle.inflight.specs.Tables.{is_number}
use Rattle.inflight_tied.proofs.Tied.{occ, Tied, entry, in_flight, model_of}
use Rattle.inflight_tied.proofs.Ties.{line-length, total-same, bit-most}
use Rattle.inflight_tied.proofs.Loads.{keep, keep-below, keep-occ, named-map, length-of-map, load-ones}
use Rattle.inflight_tied.proofs.Loads.{taken-same}
use Rattle.std.specs.Prelude.{Result, Ok, Err, ⊤}
use Rattle.refusal.specs.declared.Refusal.{Refusal}
use Rattle.refusal.specs.declared.Refusal.TheVariants.{OutOfRange, NumberZero, InFlightAlready, LoadAtLimit, CapacityGone}

-- ---- a search that ends at 64 passed every slot of the mask

seek-all : (f : ℕ → Bool) (k i m : ℕ) → ((j : ℕ) → j < k → bit_at j m ≡ 1 → f (i + j) ≡ false)
    → seek f (slots_from k i m) ≡ 64
unfolding seek slots_from bit_at
seek-all f zero i m h = refl
seek-all f (suc k) i m h =
    go (eqb (m % 2) 1) refl (seek-all f k (suc i) (m / 2) (λ j l b. ap f (next j) ∙ h (suc j) (omega arith) b))
  where
    next : (j : ℕ) → suc i + j ≡ i + suc j
    next j = omega arith

    go : (t : Bool) → eqb (m % 2) 1 ≡ t → seek f (slots_from k (suc i) (m / 2)) ≡ 64
        → seek f (pick t (i ∷ slots_from k (suc i) (m / 2)) (slots_from k (suc i) (m / 2))) ≡ 64
    go true e r =
        let z : i ≡ i + 0 = omega arith in
        let q : f i ≡ false = ap f z ∙ h 0 (omega arith) (eqb-true (m % 2) 1 e) in
        rw q r
    go false e r = r

seek-none : (f : ℕ → Bool) (k i m : ℕ) → i + k ≤ 64 → seek f (slots_from k i m) ≡ 64 → (j : ℕ) → j < k → bit_at j m ≡ 1
    → f (i + j) ≡ false
unfolding seek slots_from bit_at
seek-none f zero i m l e j h b = absurd (omega arith)
seek-none f (suc k) i m l e j h b = go (eqb (m % 2) 1) refl e j h b (λ r. seek-none f k (suc i) (m / 2) (omega arith) r)
  where
    later : (j : ℕ) → suc j < suc k → bit_at (suc j) m ≡ 1
        → ((j : ℕ) → j < k → bit_at j (m / 2) ≡ 1 → f (suc i + j) ≡ false) → f (i + suc j) ≡ false
    later j h b r = let z : i + suc j ≡ suc i + j = omega arith in ap f z ∙ r j (omega arith) b

    head : (s : Bool) → f i ≡ s → seek f (i ∷ slots_from k (suc i) (m / 2)) ≡ 64
        → (f i ≡ false) × (seek f (slots_from k (suc i) (m / 2)) ≡ 64)
    head true q r = let d : i ≡ 64 = rw q at r in absurd (omega arith)
    head false q r = (q, rw q at r)

    go : (t : Bool) → eqb (m % 2) 1 ≡ t
        → seek f (pick t (i ∷ slots_from k (suc i) (m / 2)) (slots_from k (suc i) (m / 2))) ≡ 64 → (j : ℕ) → j < suc k
        → bit_at j m ≡ 1
        → (seek f (slots_from k (suc i) (m / 2)) ≡ 64 → (j : ℕ) → j < k → bit_at j (m / 2) ≡ 1 → f (suc i + j) ≡ false)
        → f (i + j) ≡ false
    go true d r zero h b m' = let z : i + 0 ≡ i = omega arith in ap f z ∙ (head (f i) refl r).0
    go true d r (suc j) h b m' = later j h b (m' (head (f i) refl r).1)
    go false d r zero h b m' = absurd (eqb-false (m % 2) 1 d b)
    go false d r (suc j) h b m' = later j h b (m' r)

-- ---- a sum of nothing

sum-none : (k : ℕ) (f : ℕ → ℕ) → sum_below k f ≡ 0 → (i : ℕ) → i < k → f i ≡ 0
unfolding sum_below
sum-none zero f e i h = absurd (omega arith)
sum-none (suc k) f e i h = go (eqb i k) refl (λ l. sum-none k f (omega arith) i l)
  where
    go : (t : Bool) → eqb i k ≡ t → (i < k → f i ≡ 0) → f i ≡ 0
    go true q m = ap f (eqb-true i k q) ∙ omega arith
    go false q m = let n = eqb-false i k q in m (omega (arith, n))

none-sum : (k : ℕ) (f : ℕ → ℕ) → ((i : ℕ) → i < k → f i ≡ 0) → sum_below k f ≡ 0
unfolding sum_below
none-sum zero f h = refl
none-sum (suc k) f h =
    let a = none-sum k f (λ i l. h i (omega arith)) in
    let b = h k (omega arith) in
    omega arith

-- ---- a search by a mask against the requests that a key names

pick-zero : (t : Bool) (b : ℕ) → b ≤ 1 → (b ≡ 1 → t ≡ false) → pick t b 0 ≡ 0
pick-zero true b l h = go (eqb b 1) refl
  where
    go : (s : Bool) → eqb b 1 ≡ s → b ≡ 0
    go true e = let z : true ≡ false = h (eqb-true b 1 e) in let y : ◌≡◌ {A = ℕ} 0 1 = cc in absurd (omega arith)
    go false e = let n = eqb-false b 1 e in omega (arith, n)
pick-zero false b l h = refl

zero-pick : (t : Bool) (b : ℕ) → pick t b 0 ≡ 0 → b ≡ 1 → t ≡ false
zero-pick true b e q = absurd (omega arith)
zero-pick false b e q = refl

module _ (w : Table) (t : Tied w) (k : Key) (m : ℕ) (f : ℕ → Bool)
    (s : (i : ℕ) → i < 64 → pick (matches k (entry w i)) (bit_at i (used w)) 0 ≡ pick (f i) (bit_at i m) 0) where
  named-sum : length (matching k (in_flight w)) ≡ sum_below 64 (λ i. pick (f i) (bit_at i m) 0)
  unfolding in_flight
  named-sum =
      let r : (ℕ → Bool) = λ x. matches k (entry w x) in
      ap length (named-map k w (line w))
      ∙ length-of-map w (keep r (line w))
      ∙ line-length 64 (keep r (line w)) (keep-below 64 r (line w) t.low)
      ∙ total-same 64 (λ i. occ i (keep r (line w))) (λ i. pick (f i) (bit_at i m) 0)
      (λ i h. keep-occ r i (line w) ∙ ap (λ (y : ℕ). pick (r i) y 0) (t.tie i h) ∙ s i h)

  pub test-same : eqb (seek f (slots m)) 64 ≡ eqb (length (matching k (in_flight w))) 0
  test-same = go (eqb (seek f (slots m)) 64) refl (eqb (length (matching k (in_flight w))) 0) refl
    where
      zero-at : (i : ℕ) → 0 + i ≡ i
      zero-at i = omega arith

      none : seek f (slots m) ≡ 64 → length (matching k (in_flight w)) ≡ 0
      none e =
          named-sum
          ∙ none-sum 64 (λ i. pick (f i) (bit_at i m) 0)
          (λ i h. pick-zero (f i) (bit_at i m) (bit-most i m)
          (λ b. ap f (sym (zero-at i)) ∙ seek-none f 64 0 m (omega arith) e i h b))

      all : length (matching k (in_flight w)) ≡ 0 → seek f (slots m) ≡ 64
      all e =
          seek-all f 64 0 m
          (λ j h b. ap f (zero-at j)
          ∙ zero-pick (f j) (bit_at j m) (sum-none 64 (λ i. pick (f i) (bit_at i m) 0) (sym named-sum ∙ e) j h)
          b)

      go : (x : Bool) → eqb (seek f (slots m)) 64 ≡ x → (y : Bool) → eqb (length (matching k (in_flight w))) 0 ≡ y
          → eqb (seek f (slots m)) 64 ≡ eqb (length (matching k (in_flight w))) 0
      go true e true d = e ∙ sym d
      go false e false d = e ∙ sym d
      go true e false d = absurd (eqb-false _ 0 d (none (eqb-true _ 64 e)))
      go false e true d = absurd (eqb-false _ 64 e (all (eqb-true _ 0 d)))

-- ---- the two searches

module _ (w : Table) (t : Tied w) where
  pub hit-cancel : (l : ℕ) (n : FrontNumber) (i : ℕ)
      → matches (Cancel l n) (entry w i) ≡ is_front w.numbers w.places l n i
  unfolding matches entry
  hit-cancel l n i = refl

  pub hit-reply : (p : ℕ) (n : PublisherNumber) (i : ℕ)
      → matches (Reply p n) (entry w i) ≡ (eqb (get_or w.places (64 + i) 0) p && is_number w.numbers n i)
  unfolding matches entry
  hit-reply p n i = refl

  pub front_same : (l : ℕ) (n : FrontNumber)
      → eqb (seek (is_front w.numbers w.places l n) (slots (used w))) 64
      ≡ eqb (length (matching (Cancel l n) (in_flight w))) 0
  front_same l n =
      test-same w t (Cancel l n) (used w) (is_front w.numbers w.places l n)
      (λ i h. ap (λ (b : Bool). pick b (bit_at i (used w)) 0) (hit-cancel l n i))

  split : (a b : Bool) (u : ℕ) → pick (a && b) u 0 ≡ pick b (pick a u 0) 0
  split true true u = refl
  split true false u = refl
  split false true u = refl
  split false false u = refl

  pub number_same : (p : ℕ) → p < 8 → (n : PublisherNumber)
      → eqb (seek (is_number w.numbers n) (slots (mine w p))) 64 ≡ eqb (length (matching (Reply p n) (in_flight w))) 0
  number_same p q n =
      test-same w t (Reply p n) (mine w p) (is_number w.numbers n)
      (λ i h. ap (λ (b : Bool). pick b (bit_at i (used w)) 0) (hit-reply p n i)
      ∙ split (eqb (get_or w.places (64 + i) 0) p) (is_number w.numbers n i) (bit_at i (used w))
      ∙ ap (λ (x : ℕ). pick (is_number w.numbers n i) x 0) (sym (t.own p q i h)))

  -- the same number is given
  pub free-same : (tries p : ℕ) → p < 8 → (n : PublisherNumber)
      → free_of tries (mine w p) w.numbers n ≡ next_free tries (in_flight w) p n
  unfolding free_of next_free
  free-same zero p q n = refl
  free-same (suc k) p q n = rw (number_same p q n, free-same k p q (after n))

  -- the same asks are refused, with the same refusal
  pub ask-same : (l : ℕ) (n : FrontNumber) (p time : ℕ)
      → check_ask_of w l n p time ≡ check_ask (model_of w) l n p time
  unfolding check_ask_of check_load check_ask
  ask-same l n p time = go (leb 8 p) refl
    where
      go : (x : Bool) → leb 8 p ≡ x
          → ◌≡◌ {A = Result ⊤ Refusal}
          (first
          ((leb 32 l, Err OutOfRange)
          ∷ (leb 8 p, Err OutOfRange)
          ∷ (leb 4611686018427387904 time, Err OutOfRange)
          ∷ (same n.0 (pos 0), Err NumberZero)
          ∷ (not (eqb (seek (is_front w.numbers w.places l n) (slots (used w))) 64), Err InFlightAlready)
          ∷ [])
          (first
          ((leb 16 (ones (mine w p)), Err LoadAtLimit)
          ∷ (leb 4 (ones (mine w p)) && eqb (taken_of w.masks) 64, Err CapacityGone)
          ∷ []) (Ok tt)))
          (first
          ((leb 32 l, Err OutOfRange)
          ∷ (leb 8 p, Err OutOfRange)
          ∷ (leb 4611686018427387904 time, Err OutOfRange)
          ∷ (same n.0 (pos 0), Err NumberZero)
          ∷ (not (eqb (length (matching (Cancel l n) (in_flight w))) 0), Err InFlightAlready)
          ∷ (leb 16 (load (in_flight w) p), Err LoadAtLimit)
          ∷ (leb 4 (load (in_flight w) p) && eqb (capacity_taken (in_flight w)) 64, Err CapacityGone)
          ∷ []) (Ok tt))
      go true e = rw e
      go false e = rw (front_same l n, load-ones w t p (leb-false 8 p e), taken-same w t)
