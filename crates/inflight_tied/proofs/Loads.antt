-- On a tied table the count of ones in a publisher's mask is the publisher's load by the book.
-- Assumes nothing.
use mathlib.Core.Path.{◌≡◌, refl, sym, ap, ◌∙◌}
use Prim.Native.Nat.{ℕ, suc, ◌+◌, ◌<◌, max}
use mathlib.Core.Bool.{Bool, true, false}
use mathlib.Core.List.{List, [], ◌∷◌, map}
use lib.Dec.{eqb}
use lib.Count.{ones}
use lib.ListN.{length, get_or}
use borrow.Author.Tests.{eqb-true, eqb-false}
use Rattle.wire.specs.Choice.{pick}
use Rattle.inflight.specs.Matching.{matches, matching, load, capacity_taken}
use Rattle.inflight.specs.Requests.{Key}
use Rattle.inflight.specs.Requests.{Lost}
use Rattle.inflight.specs.Requests.{Request}
use Rattle.inflight.specs.Masks.{bit_at}
use Rattle.inflight.specs.Tables.{taken_of, line, used, mine}
use Rattle.inflight.specs.declared.Table.{Table}
use Rattle.inflight_tied.proofs.Tied.{occ, Below, Tied, entry, in_flight}
use Rattle.inflight_tied.proofs.Ties.{tied-length, occ-yes, occ-no, occ-nil, total-same}

-- the elements that pass a test
unfoldable pub keep : (ℕ → Bool) → List ℕ → List ℕ
keep f [] = []
keep f (x ∷ xs) = pick (f x) (x ∷ keep f xs) (keep f xs)

pub keep-below : (k : ℕ) (f : ℕ → Bool) (xs : List ℕ) → Below k xs → Below k (keep f xs)
unfolding keep Below
keep-below k f [] b = b
keep-below k f (x ∷ xs) b = go (f x) (keep-below k f xs b.1)
  where
    go : (t : Bool) → Below k (keep f xs) → Below k (pick t (x ∷ keep f xs) (keep f xs))
    go true h = (b.0, h)
    go false h = h

pub keep-occ : (f : ℕ → Bool) (i : ℕ) (xs : List ℕ) → occ i (keep f xs) ≡ pick (f i) (occ i xs) 0
unfolding keep
keep-occ f i [] = none (f i)
  where
    none : (t : Bool) → occ i [] ≡ pick t (occ i []) 0
    none true = refl
    none false = occ-nil i
keep-occ f i (x ∷ xs) = go (f x) refl (eqb x i) refl (keep-occ f i xs)
  where
    go : (t : Bool) → f x ≡ t → (s : Bool) → eqb x i ≡ s → occ i (keep f xs) ≡ pick (f i) (occ i xs) 0
        → occ i (pick t (x ∷ keep f xs) (keep f xs)) ≡ pick (f i) (occ i (x ∷ xs)) 0
    go true e true d m =
        let q = eqb-true x i d in
        let k : f i ≡ true = ap f (sym q) ∙ e in
        let r : pick (f i) (occ i (x ∷ xs)) 0 ≡ suc (occ i xs) = rw k (occ-yes i x xs q) in
        let n : pick (f i) (occ i xs) 0 ≡ occ i xs = rw k in
        occ-yes i x (keep f xs) q ∙ ap suc (m ∙ n) ∙ sym r
    go true e false d m =
        let q = eqb-false x i d in
        occ-no i x (keep f xs) q ∙ m ∙ ap (λ (y : ℕ). pick (f i) y 0) (sym (occ-no i x xs q))
    go false e true d m = let k : f i ≡ false = ap f (sym (eqb-true x i d)) ∙ e in m ∙ rw k
    go false e false d m = m ∙ ap (λ (y : ℕ). pick (f i) y 0) (sym (occ-no i x xs (eqb-false x i d)))

-- the matching of some slots' tickets
pub named-map : (k : Key) (w : Table) (xs : List ℕ)
    → matching k (map (entry w) xs) ≡ map (entry w) (keep (λ x. matches k (entry w x)) xs)
unfolding matching keep
named-map k w [] = refl
named-map k w (x ∷ xs) = go (matches k (entry w x)) (named-map k w xs)
  where
    go : (t : Bool) → matching k (map (entry w) xs) ≡ map (entry w) (keep (λ y. matches k (entry w y)) xs)
        → pick t (entry w x ∷ matching k (map (entry w) xs)) (matching k (map (entry w) xs))
        ≡ map (entry w) (pick t (x ∷ keep (λ y. matches k (entry w y)) xs) (keep (λ y. matches k (entry w y)) xs))
    go true h = ap (λ (l : List Request). entry w x ∷ l) h
    go false h = h

pub length-of-map : (w : Table) (xs : List ℕ) → length (map (entry w) xs) ≡ length xs
length-of-map w [] = refl
length-of-map w (x ∷ xs) = ap suc (length-of-map w xs)

hit-lost : (w : Table) (p i : ℕ) → matches (Lost p) (entry w i) ≡ eqb (get_or w.places (64 + i) 0) p
unfolding matches entry
hit-lost w p i = refl

pub load-ones : (w : Table) → Tied w → (p : ℕ) → p < 8 → ones (mine w p) ≡ load (in_flight w) p
unfolding in_flight
load-ones w t p h =
    let f : (ℕ → Bool) = λ x. matches (Lost p) (entry w x) in
    let s : length (keep f (line w)) ≡ ones (mine w p) =
    tied-length (mine w p) (keep f (line w)) (t.narrow p) (keep-below 64 f (line w) t.low)
    (λ i k. keep-occ f i (line w)
    ∙ ap (λ (y : ℕ). pick (f i) y 0) (t.tie i k)
    ∙ ap (λ (b : Bool). pick b (bit_at i (used w)) 0) (hit-lost w p i)
    ∙ sym (t.own p h i k)) in
    sym (ap length (named-map (Lost p) w (line w)) ∙ length-of-map w (keep f (line w)) ∙ s)

pub length-standing : (w : Table) → Tied w → length (in_flight w) ≡ ones (used w)
unfolding in_flight
length-standing w t = length-of-map w (line w) ∙ tied-length (used w) (line w) t.fits t.low t.tie

-- so is the room that is taken
pub taken-same : (w : Table) → Tied w → taken_of w.masks ≡ capacity_taken (in_flight w)
taken-same w t =
    total-same 8 (λ q. max 4 (ones (mine w q))) (λ q. max 4 (load (in_flight w) q))
    (λ q h. ap (λ (x : ℕ). max 4 x) (load-ones w t q h))
