-- Loads and capacity: what the model's capacity rule keeps true.
-- Assumes nothing.
use mathlib.Core.Path.{◌≡◌, refl, sym, ap, ◌∙◌}
use mathlib.Core.Logic.{⊎_elim, ◌⊎◌, inl, inr}
use Prim.Native.Nat.{ℕ, zero, suc, ◌+◌, ◌≤◌, ◌<◌, max}
use native.Mathlib.Omega.{arith}
use mathlib.Core.Bool.{Bool, true, false, not, ◌&&◌}
use mathlib.Core.List.{List, [], ◌∷◌, ◌++◌}
use lib.Dec.{eqb, leb}
use lib.IntN.{pos}
use lib.ListN.{length, length-append}
use borrow.Author.Tests.{eqb-true, eqb-false, eq-eqb, ne_eqb, leb-false, not-false}
use Rattle.wire.specs.Choice.{pick}
use Rattle.inflight.specs.Numbers.{same}
use Rattle.inflight.specs.Matching.{matches, matching, without, load, capacity_taken, sum_below}
use Rattle.inflight.specs.Model.{Model, check_ask}
use Rattle.inflight.specs.declared.FrontNumber.{FrontNumber}
use Rattle.inflight.specs.Requests.{Request}
use Rattle.inflight.specs.Requests.{Key}
use Rattle.inflight.specs.Requests.{Cancel, Lost}
use Rattle.inflight.proofs.MatchLaws.{matching-append}
use Rattle.refusal.specs.declared.Refusal.{Refusal}
use Rattle.refusal.specs.declared.Refusal.TheVariants.{OutOfRange, NumberZero, InFlightAlready, LoadAtLimit, CapacityGone}
use Rattle.std.specs.Prelude.{Result, Ok, Err, ⊤}

-- ---- sums

pub sum-le : (k : ℕ) (f g : ℕ → ℕ) → ((q : ℕ) → q < k → f q ≤ g q) → sum_below k f ≤ sum_below k g
unfolding sum_below
sum-le zero f g h = omega arith
sum-le (suc k) f g h =
    let i = sum-le k f g (λ q l. h q (omega arith)) in
    let j = h k (omega arith) in
    omega arith

-- g is f but for at most one more at p
pub sum_one : (k p : ℕ) (f g : ℕ → ℕ) → ((q : ℕ) → (q ≡ p → ⊥) → g q ≤ f q) → g p ≤ f p + 1 → sum_below k g ≤ sum_below k f + 1
unfolding sum_below
sum_one zero p f g h j = omega arith
sum_one (suc k) p f g h j = go (eqb k p) refl (sum_one k p f g h j)
  where
    go : (t : Bool) → eqb k p ≡ t → sum_below k g ≤ sum_below k f + 1 → sum_below (suc k) g ≤ sum_below (suc k) f + 1
    go true e i =
        let q : k ≡ p = eqb-true k p e in
        let m = sum-le k g f (λ r l. h r (λ s. omega arith)) in
        let n : g k ≤ f k + 1 = rw q j in
        omega arith
    go false e i =
        let n = h k (eqb-false k p e) in
        omega arith

-- g is f and at least one more at p
pub sum-more-at : (k p : ℕ) (f g : ℕ → ℕ) → p < k → ((q : ℕ) → f q ≤ g q) → f p + 1 ≤ g p → sum_below k f + 1 ≤ sum_below k g
unfolding sum_below
sum-more-at zero p f g l h j = absurd (omega arith)
sum-more-at (suc k) p f g l h j = go (eqb k p) refl (λ m. sum-more-at k p f g m h j)
  where
    go : (t : Bool) → eqb k p ≡ t → (p < k → sum_below k f + 1 ≤ sum_below k g) → sum_below (suc k) f + 1 ≤ sum_below (suc k) g
    go true e i =
        let q : k ≡ p = eqb-true k p e in
        let m = sum-le k f g (λ r s. h r) in
        let n : f k + 1 ≤ g k = rw q j in
        omega arith
    go false e i =
        let d = eqb-false k p e in
        let m = i (omega (arith, d)) in
        let n = h k in
        omega arith

-- ---- loads

load-yes : (e : Request) (es : List Request) (q : ℕ) → e.publisher ≡ q → load (e ∷ es) q ≡ load es q + 1
unfolding matching matches
load-yes e es q h = rw (eq-eqb e.publisher q h) (omega arith)

load-no : (e : Request) (es : List Request) (q : ℕ) → (e.publisher ≡ q → ⊥) → load (e ∷ es) q ≡ load es q
unfolding matching matches
load-no e es q h = rw (ne_eqb e.publisher q h)

-- a list with one request in front has no smaller load
load-grows : (e : Request) (es : List Request) (q : ℕ) → load es q ≤ load (e ∷ es) q
load-grows e es q = go (eqb e.publisher q) refl
  where
    go : (t : Bool) → eqb e.publisher q ≡ t → load es q ≤ load (e ∷ es) q
    go true h = let l = load-yes e es q (eqb-true e.publisher q h) in omega arith
    go false h = let l = load-no e es q (eqb-false e.publisher q h) in omega arith

-- removing takes from a load, or leaves it
pub load-without : (k : Key) (es : List Request) (q : ℕ) → load (without k es) q ≤ load es q
unfolding without
load-without k [] q = omega arith
load-without k (e ∷ es) q = go (matches k e) (load-without k es q)
  where
    go : (t : Bool) → load (without k es) q ≤ load es q → load (pick t (without k es) (e ∷ without k es)) q ≤ load (e ∷ es) q
    go true i = let g = load-grows e es q in omega arith
    go false i = more (eqb e.publisher q) refl
      where
        more : (t : Bool) → eqb e.publisher q ≡ t → load (e ∷ without k es) q ≤ load (e ∷ es) q
        more true h =
            let p = eqb-true e.publisher q h in
            let a = load-yes e es q p in
            let b = load-yes e (without k es) q p in
            omega arith
        more false h =
            let p = eqb-false e.publisher q h in
            let a = load-no e es q p in
            let b = load-no e (without k es) q p in
            omega arith

-- a request behind the without adds one to its own publisher's load, and to no other
pub load-snoc : (es : List Request) (e : Request) (q : ℕ) → load (es ++ e ∷ []) q ≡ load es q + load (e ∷ []) q
load-snoc es e q = ap length (matching-append (Lost q) es (e ∷ [])) ∙ length-append (matching (Lost q) es) (matching (Lost q) (e ∷ []))

one-yes : (e : Request) (q : ℕ) → e.publisher ≡ q → load (e ∷ []) q ≡ 1
unfolding matching
one-yes e q h = load-yes e [] q h

one-no : (e : Request) (q : ℕ) → (e.publisher ≡ q → ⊥) → load (e ∷ []) q ≡ 0
unfolding matching
one-no e q h = load-no e [] q h

-- ---- every request is at one of the eight publishers

pub data Below : List Request → Type 0 where
  none : Below []
  more : {e : Request} {es : List Request} → e.publisher < 8 → Below es → Below (e ∷ es)

pub below-without : (k : Key) {es : List Request} → Below es → Below (without k es)
unfolding without
below-without k none = none
below-without k (more {e} {es} h b) = go (matches k e) (below-without k b)
  where
    go : (t : Bool) → Below (without k es) → Below (pick t (without k es) (e ∷ without k es))
    go true i = i
    go false i = more h i

pub below-snoc : {es : List Request} (e : Request) → Below es → e.publisher < 8 → Below (es ++ e ∷ [])
below-snoc e none h = more h none
below-snoc e (more g b) h = more g (below-snoc e b h)

pub below_length : {es : List Request} → Below es → length es ≤ sum_below 8 (load es)
below_length none = omega arith
below_length (more {e} {es} h b) =
    let i = below_length b in
    let j = sum-more-at 8 e.publisher (load es) (load (e ∷ es)) h (λ q. load-grows e es q) (omega (arith, load-yes e es e.publisher refl)) in
    omega arith

-- ---- what an accepted ask says of link, publisher, time, number, loads and capacity

rows : (a b t c d e f : Bool)
    → ◌≡◌ {A = Result ⊤ Refusal}
    (pick a (Err OutOfRange) (pick b (Err OutOfRange) (pick t (Err OutOfRange) (pick c (Err NumberZero)
    (pick d (Err InFlightAlready) (pick e (Err LoadAtLimit) (pick f (Err CapacityGone) (Ok tt)))))))) (Ok tt)
    → (a ≡ false) × (b ≡ false) × (t ≡ false) × (c ≡ false) × (d ≡ false) × (e ≡ false) × (f ≡ false)
rows true b t c d e f h = cc
rows false true t c d e f h = cc
rows false false true c d e f h = cc
rows false false false true d e f h = cc
rows false false false false true e f h = cc
rows false false false false false true f h = cc
rows false false false false false false true h = cc
rows false false false false false false false h = (refl, refl, refl, refl, refl, refl, refl)

either : (a b : Bool) → a && b ≡ false → (a ≡ false) ⊎ (b ≡ false)
either true b h = inr h
either false b h = inl refl

pub record Accepts (es : List Request) (l : ℕ) (n : FrontNumber) (p time : ℕ) : Type 0 where
  pub link : l < 32
  pub range : p < 8
  pub clock : time < 4611686018427387904
  pub number : same n.0 (pos 0) ≡ false
  pub own : length (matching (Cancel l n) es) ≡ 0
  pub under : load es p < 16
  pub reason : (load es p < 4) ⊎ (capacity_taken es ≡ 64 → ⊥)

pub accepts : (m : Model) (l : ℕ) (n : FrontNumber) (p time : ℕ) → check_ask m l n p time ≡ Ok tt
    → Accepts m.requests l n p time
unfolding check_ask
accepts m l n p time e =
    let es = m.requests in
    let r = rows (leb 32 l) (leb 8 p) (leb 4611686018427387904 time) (same n.0 (pos 0)) (not (eqb (length (matching (Cancel l n) es)) 0)) (leb 16 (load es p)) (leb 4 (load es p) && eqb (capacity_taken es) 64) e in
    record {
      link = leb-false 32 l r.0;
      range = leb-false 8 p r.1;
      clock = leb-false 4611686018427387904 time r.2;
      number = r.3;
      own = eqb-true (length (matching (Cancel l n) es)) 0 (not-false (eqb (length (matching (Cancel l n) es)) 0) r.4);
      under = leb-false 16 (load es p) r.5;
      reason = ⊎_elim (λ b. inl (leb-false 4 (load es p) b)) (λ c. inr (eqb-false (capacity_taken es) 64 c)) (either (leb 4 (load es p)) (eqb (capacity_taken es) 64) r.6);
    }

-- ---- what holds of the requests at every point

pub record Bounded (es : List Request) : Type 0 where
  pub below : Below es
  pub within : capacity_taken es ≤ 64
  pub most : (q : ℕ) → load es q ≤ 16

pub bounded-none : Bounded []
unfolding matching sum_below
bounded-none = record { below = none; within = omega arith; most = λ q. omega arith }

pub bounded-without : (k : Key) {es : List Request} → Bounded es → Bounded (without k es)
bounded-without k {es} s =
    let m = sum-le 8 (λ q. max 4 (load (without k es) q)) (λ q. max 4 (load es q)) (λ q h. let l = load-without k es q in omega arith) in
    record {
      below = below-without k s.below;
      within = omega (arith, s.within);
      most = λ q. let l = load-without k es q in omega (arith, s.most q);
    }

-- at most 64 requests are in flight
pub bounded-size : (es : List Request) → Bounded es → length es ≤ 64
bounded-size es s =
    let m = sum-le 8 (load es) (λ q. max 4 (load es q)) (λ q g. omega arith) in
    omega (arith, s.within, below_length s.below)

-- where an ask is accepted, fewer than 64 requests are in flight
pub bounded-space : (es : List Request) {l : ℕ} {n : FrontNumber} (p : ℕ) {time : ℕ} → Bounded es → Accepts es l n p time → length es < 64
bounded-space es p s r = ⊎_elim few spare r.reason
  where
    l : length es ≤ sum_below 8 (load es)
    l = below_length s.below

    few : load es p < 4 → length es < 64
    few h =
        let m = sum-more-at 8 p (load es) (λ q. max 4 (load es q)) r.range (λ q. omega arith) (omega arith) in
        omega (arith, s.within, l)

    spare : (capacity_taken es ≡ 64 → ⊥) → length es < 64
    spare h =
        let m = sum-le 8 (load es) (λ q. max 4 (load es q)) (λ q g. omega arith) in
        omega (arith, s.within, h, l)

pub bounded-snoc : (es : List Request) (e : Request) {l : ℕ} {n : FrontNumber} {time : ℕ} → Bounded es → Accepts es l n e.publisher time
    → Bounded (es ++ e ∷ [])
bounded-snoc es e s r =
    record {
      below = below-snoc e s.below r.range;
      within = ⊎_elim few spare r.reason;
      most = λ q. each q (eqb e.publisher q) refl;
    }
  where
    yes : load (es ++ e ∷ []) e.publisher ≡ load es e.publisher + 1
    yes = load-snoc es e e.publisher ∙ ap (λ (n : ℕ). load es e.publisher + n) (one-yes e e.publisher refl)

    no : (q : ℕ) → (e.publisher ≡ q → ⊥) → load (es ++ e ∷ []) q ≡ load es q
    no q h = load-snoc es e q ∙ let o = one-no e q h in omega arith

    each : (q : ℕ) (t : Bool) → eqb e.publisher q ≡ t → load (es ++ e ∷ []) q ≤ 16
    each q true h =
        let p = eqb-true e.publisher q h in
        rw (← p) (omega (arith, yes, r.under))
    each q false h = omega (arith, no q (eqb-false e.publisher q h), s.most q)

    few : load es e.publisher < 4 → capacity_taken (es ++ e ∷ []) ≤ 64
    few h =
        let m = sum-le 8 (λ q. max 4 (load (es ++ e ∷ []) q)) (λ q. max 4 (load es q)) (λ q g. at q (eqb e.publisher q) refl) in
        omega (arith, s.within)
      where
        at : (q : ℕ) (t : Bool) → eqb e.publisher q ≡ t → max 4 (load (es ++ e ∷ []) q) ≤ max 4 (load es q)
        at q true i =
            let p = eqb-true e.publisher q i in
            rw (← p) (omega (arith, yes, h))
        at q false i = omega (arith, no q (eqb-false e.publisher q i))

    spare : (capacity_taken es ≡ 64 → ⊥) → capacity_taken (es ++ e ∷ []) ≤ 64
    spare h =
        let m = sum_one 8 e.publisher (λ q. max 4 (load es q)) (λ q. max 4 (load (es ++ e ∷ []) q)) (λ q d. omega (arith, no q (λ i. d (sym i)))) (omega (arith, yes)) in
        omega (arith, s.within, h)
