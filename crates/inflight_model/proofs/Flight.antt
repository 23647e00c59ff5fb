-- The number that an accepted ask is given is not in flight with its publisher: the search, which tries as many numbers as there are
-- requests in flight, always other_ends at a next_free one.
-- Assumes nothing.
use mathlib.Core.Path.{◌≡◌, refl, sym, ap, ◌∙◌}
use Prim.Native.Nat.{ℕ, zero, suc, ◌+◌, ◌-◌, ◌≤◌, ◌<◌}
use native.Mathlib.Omega.{arith}
use mathlib.Core.Bool.{Bool, true, false, ◌&&◌, false≢true}
use mathlib.Core.List.{List, [], ◌∷◌}
use lib.Dec.{eqb, leb}
use lib.IntN.{pos}
use lib.Signed.{mag}
use lib.ListN.{length}
use borrow.Author.Tests.{eqb-true, eqb-false, leb-true, leb-false, le-leb, lt-leb}
use Rattle.wire.specs.Choice.{pick}
use Rattle.inflight.specs.Numbers.{same, after}
use Rattle.inflight.proofs.NumberLaws.{same_true, eq-same, ne_same}
use Rattle.inflight.specs.Matching.{matches, matching, without, next_free}
use Rattle.inflight.specs.declared.PublisherNumber.{PublisherNumber}
use Rattle.inflight.specs.Requests.{Request}
use Rattle.inflight.specs.Requests.{Key}
use Rattle.inflight.specs.Requests.{Reply}

-- x is none of n and the k numbers after it
unfoldable pub Apart : ℕ → PublisherNumber → PublisherNumber → Type 0
Apart zero x n = n.0 ≡ x.0 → ⊥
Apart (suc k) x n = (n.0 ≡ x.0 → ⊥) × Apart k x (after n)

-- n and the f numbers after it are distinct
unfoldable pub Distinct : ℕ → PublisherNumber → Type 0
Distinct zero n = Unit {0}
Distinct (suc f) n = Apart f n (after n) × Distinct f (after n)

-- an entry with number x is none with number y
hit-apart : (p : ℕ) (x y : PublisherNumber) (e : Request) → (y.0 ≡ x.0 → ⊥) → matches (Reply p x) e ≡ true → matches (Reply p y) e ≡ false
unfolding matches
hit-apart p x y e h q = go (eqb e.publisher p) (same e.number.0 x.0) refl q
  where
    go : (a b : Bool) → same e.number.0 x.0 ≡ b → a && b ≡ true → a && same e.number.0 y.0 ≡ false
    go false b g r = refl
    go true true g r = ne_same e.number.0 y.0 (λ m. h (sym m ∙ same_true e.number.0 x.0 g))
    go true false g r = let z : false ≡ true = r in absurd (false≢true z)

matching-apart : (p : ℕ) (x y : PublisherNumber) (es : List Request) → (y.0 ≡ x.0 → ⊥)
    → matching (Reply p y) (without (Reply p x) es) ≡ matching (Reply p y) es
unfolding matching without
matching-apart p x y [] h = refl
matching-apart p x y (e ∷ es) h = go (matches (Reply p x) e) refl (matching-apart p x y es h)
  where
    go : (t : Bool) → matches (Reply p x) e ≡ t → matching (Reply p y) (without (Reply p x) es) ≡ matching (Reply p y) es
        → matching (Reply p y) (pick t (without (Reply p x) es) (e ∷ without (Reply p x) es)) ≡ pick (matches (Reply p y) e) (e ∷ matching (Reply p y) es) (matching (Reply p y) es)
    go true q i = rw (hit-apart p x y e h q) i
    go false q i = rw i

free-apart : (f : ℕ) (es : List Request) (p : ℕ) (x n : PublisherNumber) → Apart f x n → (next_free f es p n).0 ≡ x.0 → ⊥
unfolding next_free Apart
free-apart zero es p x n h = h
free-apart (suc f) es p x n h = go (eqb (length (matching (Reply p n) es)) 0) (free-apart f es p x (after n) h.1)
  where
    go : (t : Bool) → ((next_free f es p (after n)).0 ≡ x.0 → ⊥) → (pick t n (next_free f es p (after n))).0 ≡ x.0 → ⊥
    go true i = h.0
    go false i = i

free-without : (f : ℕ) (es : List Request) (p : ℕ) (x n : PublisherNumber) → Apart f x n → next_free f (without (Reply p x) es) p n ≡ next_free f es p n
unfolding next_free Apart
free-without zero es p x n h = refl
free-without (suc f) es p x n h =
    rw (matching-apart p x n es h.0, free-without f es p x (after n) h.1)

without-most : (k : Key) (es : List Request) → length (without k es) ≤ length es
unfolding without
without-most k [] = omega arith
without-most k (e ∷ es) = go (matches k e) (without-most k es)
  where
    go : (t : Bool) → length (without k es) ≤ length es → length (pick t (without k es) (e ∷ without k es)) ≤ suc (length es)
    go true i = omega arith
    go false i = omega arith

-- an entry that is matching goes
fewer : (k : Key) (es : List Request) → (length (matching k es) ≡ 0 → ⊥) → length (without k es) < length es
unfolding matching without
fewer k [] h = absurd (h refl)
fewer k (e ∷ es) h = go (matches k e) h (fewer k es)
  where
    go : (t : Bool) → (length (pick t (e ∷ matching k es) (matching k es)) ≡ 0 → ⊥)
        → ((length (matching k es) ≡ 0 → ⊥) → length (without k es) < length es) → length (pick t (without k es) (e ∷ without k es)) < suc (length es)
    go true g i = let m = without-most k es in omega arith
    go false g i = let m = i g in omega arith

pub free_new : (f : ℕ) (es : List Request) (p : ℕ) (n : PublisherNumber) → length es ≤ f → Distinct f n
    → length (matching (Reply p (next_free f es p n)) es) ≡ 0
unfolding next_free Distinct matching
free_new zero [] p n l d = refl
free_new zero (e ∷ es) p n l d = absurd (omega arith)
free_new (suc f) es p n l d =
    go (eqb (length (matching (Reply p n) es)) 0) refl (λ g. free_new f (without (Reply p n) es) p (after n) (let m = fewer (Reply p n) es g in omega arith) d.1)
  where
    go : (t : Bool) → eqb (length (matching (Reply p n) es)) 0 ≡ t
        → ((length (matching (Reply p n) es) ≡ 0 → ⊥) → length (matching (Reply p (next_free f (without (Reply p n) es) p (after n))) (without (Reply p n) es)) ≡ 0)
        → length (matching (Reply p (pick t n (next_free f es p (after n)))) es) ≡ 0
    go true e i = eqb-true (length (matching (Reply p n) es)) 0 e
    go false e i =
        let y : PublisherNumber = next_free f es p (after n) in
        let a = free-apart f es p n (after n) d.0 in
        let r = rw (free-without f es p n (after n) d.0) at (i (eqb-false (length (matching (Reply p n) es)) 0 e)) in
        sym (ap length (matching-apart p n y es a)) ∙ r

-- ---- the numbers from 1 to the largest go round

abbrev pub top : ℕ
top = 9223372036854775807

-- the number i steps after m
unfoldable pub wrap : ℕ → ℕ → ℕ
wrap m i = pick (leb (m + i) top) (m + i) (m + i - top)

pub wrap-low : (m i : ℕ) → m + i ≤ top → wrap m i ≡ m + i
unfolding wrap
wrap-low m i h = rw (le-leb (m + i) top h)

wrap-high : (m i : ℕ) → top < m + i → wrap m i ≡ m + i - top
unfolding wrap
wrap-high m i h = rw (lt-leb (m + i) top h)

after-top : (m : ℕ) → m ≡ top → after (record { 0 = pos m }) ≡ record { 0 = pos 1 }
unfolding after
after-top m h = rw (eq-same (pos m) (pos top) (ap pos h))

after-low : (m : ℕ) → (m ≡ top → ⊥) → after (record { 0 = pos m }) ≡ record { 0 = pos (m + 1) }
unfolding after
after-low m h = rw (ne_same (pos m) (pos top) (λ e. h (ap mag e)))

numbers : {a b : ℕ} → a ≡ b → ◌≡◌ {A = PublisherNumber} (record { 0 = pos a }) (record { 0 = pos b })
numbers e = rw e

pub after-wrap : (m i : ℕ) → 1 ≤ m → m ≤ top → i < top → after (record { 0 = pos (wrap m i) }) ≡ record { 0 = pos (wrap m (i + 1)) }
after-wrap m i a b l = go (leb (m + i) top) refl (eqb (m + i) top) refl
  where
    go : (x : Bool) → leb (m + i) top ≡ x → (y : Bool) → eqb (m + i) top ≡ y
        → after (record { 0 = pos (wrap m i) }) ≡ record { 0 = pos (wrap m (i + 1)) }
    go true e true f =
        let h = eqb-true (m + i) top f in
        let r = wrap-low m i (omega arith) in
        let q = wrap-high m (i + 1) (omega arith) in
        after-top (wrap m i) (r ∙ h) ∙ numbers (omega arith)
    go true e false f =
        let h = leb-true (m + i) top e in
        let d = eqb-false (m + i) top f in
        let r = wrap-low m i h in
        let q = wrap-low m (i + 1) (omega (arith, d)) in
        after-low (wrap m i) (λ g. d (sym r ∙ g)) ∙ numbers (omega arith)
    go false e y f =
        let h = leb-false (m + i) top e in
        let r = wrap-high m i h in
        let q = wrap-high m (i + 1) (omega arith) in
        after-low (wrap m i) (λ g. omega arith) ∙ numbers (omega arith)

pub wrap-apart : (m j : ℕ) → 1 ≤ m → m ≤ top → 1 ≤ j → j < top → wrap m j ≡ m → ⊥
wrap-apart m j a b c l e = go (leb (m + j) top) refl
  where
    go : (x : Bool) → leb (m + j) top ≡ x → ⊥
    go true f = let r = wrap-low m j (leb-true (m + j) top f) in omega arith
    go false f = let r = wrap-high m j (leb-false (m + j) top f) in omega arith

pub wrap-range : (m i : ℕ) → 1 ≤ m → m ≤ top → i ≤ top → (1 ≤ wrap m i) × (wrap m i ≤ top)
wrap-range m i a b l = go (leb (m + i) top) refl
  where
    go : (x : Bool) → leb (m + i) top ≡ x → (1 ≤ wrap m i) × (wrap m i ≤ top)
    go true f = let r = wrap-low m i (leb-true (m + i) top f) in let g = leb-true (m + i) top f in omega arith
    go false f = let r = wrap-high m i (leb-false (m + i) top f) in let g = leb-false (m + i) top f in omega arith

apart-wrap : (k m j : ℕ) → 1 ≤ m → m ≤ top → 1 ≤ j → j + k < top → Apart k (record { 0 = pos m }) (record { 0 = pos (wrap m j) })
unfolding Apart
apart-wrap zero m j a b c l = λ e. wrap-apart m j a b c (omega arith) (ap mag e)
apart-wrap (suc k) m j a b c l =
    ((λ e. wrap-apart m j a b c (omega arith) (ap mag e)), rw (after-wrap m j a b (omega arith)) (apart-wrap k m (j + 1) a b (omega arith) (omega arith)))

pub distinct : (f m : ℕ) → 1 ≤ m → m ≤ top → f < top → Distinct f (record { 0 = pos m })
unfolding Distinct
distinct zero m a b l = tt
distinct (suc f) m a b l =
    let z : wrap m 0 ≡ m = wrap-low m 0 (omega arith) ∙ omega arith in
    let s : after (record { 0 = pos m }) ≡ record { 0 = pos (wrap m 1) } = ap after (numbers (sym z)) ∙ after-wrap m 0 a b (omega arith) in
    let r = wrap-range m 1 a b (omega arith) in
    rw s (apart-wrap f m 1 a b (omega arith) (omega arith), distinct f (wrap m 1) r.0 r.1 (omega arith))

-- the number that an ask would be given is not in flight
pub given-new : (es : List Request) (p m : ℕ) → 1 ≤ m → m ≤ top → length es < top
    → length (matching (Reply p (next_free (length es) es p (record { 0 = pos m }))) es) ≡ 0
given-new es p m a b l = free_new (length es) es p (record { 0 = pos m }) (omega arith) (distinct (length es) m a b l)

pub wrap-zero : (m : ℕ) → m ≤ top → wrap m 0 ≡ m
wrap-zero m b = wrap-low m 0 (omega arith) ∙ omega arith
