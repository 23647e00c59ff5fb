-- The tie of masks and order: bits and slots counted, also where slots are struck.
-- Assumes nothing.
use mathlib.Core.Path.{◌≡◌, refl, sym, ap, ◌∙◌}
use Prim.Native.Nat.{ℕ, zero, suc, ◌+◌, ◌-◌, ◌/◌, ◌%◌, ◌^◌, ◌≤◌, ◌<◌, min, max}
use native.Mathlib.Omega.{arith}
use mathlib.Core.Bool.{Bool, true, false}
use mathlib.Core.List.{List, [], ◌∷◌, map}
use lib.Dec.{eqb}
use lib.Bits.{bit_and, bit_or, and_step, or_step}
use lib.Count.{ones, ones_step, ones-ones}
use lib.ListN.{length, get_or}
use borrow.Author.Tests.{eqb-true, eqb-false, eq-eqb, ne_eqb}
use Rattle.wire.specs.Choice.{pick}
use Rattle.inflight.specs.Matching.{sum_below}
use Rattle.inflight.specs.Masks.{bit_at, cut, has, outside}
use Rattle.inflight_tied.proofs.Tied.{occ, Below}
use Rattle.inflight.proofs.MaskLaws.{twice}

-- ---- bits of a mask without the slots of another

pub bit-and : (i a b : ℕ) → bit_at i (bit_and a b) ≡ min (bit_at i a) (bit_at i b)
unfolding bit_at
bit-and zero a b = let s = and_step a b in omega arith
bit-and (suc i) a b =
    let s = and_step a b in
    let q : bit_and a b / 2 ≡ bit_and (a / 2) (b / 2) = omega arith in
    rw q (bit-and i (a / 2) (b / 2))

pub bit-or : (i a b : ℕ) → bit_at i (bit_or a b) ≡ max (bit_at i a) (bit_at i b)
unfolding bit_at
bit-or zero a b = let s = or_step a b in omega arith
bit-or (suc i) a b =
    let s = or_step a b in
    let q : bit_or a b / 2 ≡ bit_or (a / 2) (b / 2) = omega arith in
    rw q (bit-or i (a / 2) (b / 2))

pub flip : (i k n : ℕ) → i < k → n < 2 ^ k → bit_at i (2 ^ k - 1 - n) + bit_at i n ≡ 1
unfolding bit_at
flip i zero n h g = absurd (omega arith)
flip zero (suc k) n h g = let t = twice k in omega arith
flip (suc i) (suc k) n h g =
    let t = twice k in
    let q : (2 ^ suc k - 1 - n) / 2 ≡ 2 ^ k - 1 - n / 2 = omega arith in
    rw q (flip i k (n / 2) (omega arith) (omega arith))

pub bit_cut : (i g m : ℕ) → i < 64 → g < 2 ^ 64 → bit_at i (cut g m) ≡ min (bit_at i m) (1 - bit_at i g)
bit_cut i g m h f =
    let a = flip i 64 g h f in
    let b = bit-and i m (18446744073709551615 - g) in
    let e : bit_at i (18446744073709551615 - g) ≡ 1 - bit_at i g = omega arith in
    b ∙ ap (λ (x : ℕ). min (bit_at i m) x) e

pub bit-most : (i n : ℕ) → bit_at i n ≤ 1
unfolding bit_at
bit-most zero n = omega arith
bit-most (suc i) n = bit-most i (n / 2)

-- ---- the count of ones is the sum of the bits

bits-sum : (k n : ℕ) → sum_below (suc k) (λ i. bit_at i n) ≡ n % 2 + sum_below k (λ i. bit_at i (n / 2))
unfolding sum_below bit_at
bits-sum zero n = omega arith
bits-sum (suc k) n = let h = bits-sum k n in omega arith

pub ones-sum : (k n : ℕ) → n < 2 ^ k → ones n ≡ sum_below k (λ i. bit_at i n)
unfolding sum_below
ones-sum zero n h = let z : n ≡ 0 = omega arith in rw z (ones-ones 0)
ones-sum (suc k) n h =
    let t = twice k in
    let i = ones-sum k (n / 2) (omega arith) in
    ones_step n ∙ sym (bits-sum k n ∙ omega arith)

pub total-same : (k : ℕ) (f g : ℕ → ℕ) → ((i : ℕ) → i < k → f i ≡ g i) → sum_below k f ≡ sum_below k g
unfolding sum_below
total-same zero f g h = refl
total-same (suc k) f g h =
    let a = total-same k f g (λ i l. h i (omega arith)) in
    let b = h k (omega arith) in
    omega arith

-- ---- a line's length is the sum of how often each slot stands in it

pub occ-yes : (i x : ℕ) (xs : List ℕ) → x ≡ i → occ i (x ∷ xs) ≡ suc (occ i xs)
unfolding occ
occ-yes i x xs e = rw (eq-eqb x i e)

pub occ-no : (i x : ℕ) (xs : List ℕ) → (x ≡ i → ⊥) → occ i (x ∷ xs) ≡ occ i xs
unfolding occ
occ-no i x xs e = rw (ne_eqb x i e)

pub occ-nil : (i : ℕ) → occ i [] ≡ 0
unfolding occ
occ-nil i = refl

pub here : (x : ℕ) (xs : List ℕ) → 0 < occ x (x ∷ xs)
here x xs = let a = occ-yes x x xs refl in omega arith

pub occ-tail : (x y : ℕ) (xs : List ℕ) → occ y xs ≤ occ y (x ∷ xs)
occ-tail x y xs = go (eqb x y) refl
  where
    go : (t : Bool) → eqb x y ≡ t → occ y xs ≤ occ y (x ∷ xs)
    go true e = let a = occ-yes y x xs (eqb-true x y e) in omega arith
    go false e = let a = occ-no y x xs (eqb-false x y e) in omega arith

bump-no : (k x : ℕ) (xs : List ℕ) → k ≤ x → sum_below k (λ i. occ i (x ∷ xs)) ≡ sum_below k (λ i. occ i xs)
bump-no k x xs h = total-same k (λ i. occ i (x ∷ xs)) (λ i. occ i xs) (λ i l. occ-no i x xs (λ e. omega arith))

bump-yes : (k x : ℕ) (xs : List ℕ) → x < k → sum_below k (λ i. occ i (x ∷ xs)) ≡ sum_below k (λ i. occ i xs) + 1
unfolding sum_below
bump-yes zero x xs h = absurd (omega arith)
bump-yes (suc k) x xs h = go (eqb x k) refl (bump-yes k x xs)
  where
    go : (t : Bool) → eqb x k ≡ t → (x < k → sum_below k (λ i. occ i (x ∷ xs)) ≡ sum_below k (λ i. occ i xs) + 1)
        → sum_below k (λ i. occ i (x ∷ xs)) + occ k (x ∷ xs) ≡ sum_below k (λ i. occ i xs) + occ k xs + 1
    go true e m =
        let q = eqb-true x k e in
        let a = bump-no k x xs (omega arith) in
        let b = occ-yes k x xs q in
        omega arith
    go false e m =
        let q = eqb-false x k e in
        let a = m (omega (arith, q)) in
        let b = occ-no k x xs q in
        omega arith

total-zero : (k : ℕ) → sum_below k (λ i. occ i []) ≡ 0
unfolding sum_below occ
total-zero zero = refl
total-zero (suc k) = let a = total-zero k in omega arith

pub line-length : (k : ℕ) (xs : List ℕ) → Below k xs → length xs ≡ sum_below k (λ i. occ i xs)
unfolding Below
line-length k [] b = sym (total-zero k)
line-length k (x ∷ xs) b =
    let a = line-length k xs b.1 in
    let c = bump-yes k x xs b.0 in
    omega arith

-- a line that is tied to a mask is as long as the mask has ones
pub tied-length : (u : ℕ) (xs : List ℕ) → u < 2 ^ 64 → Below 64 xs → ((i : ℕ) → i < 64 → occ i xs ≡ bit_at i u)
    → length xs ≡ ones u
tied-length u xs f b t = line-length 64 xs b ∙ total-same 64 (λ i. occ i xs) (λ i. bit_at i u) t ∙ sym (ones-sum 64 u f)

-- ---- what is left of a line where slots are struck

pub outside_below : (g : ℕ) (xs : List ℕ) → Below 64 xs → Below 64 (outside g xs)
unfolding outside Below
outside_below g [] b = b
outside_below g (x ∷ xs) b = go (has g x) (outside_below g xs b.1)
  where
    go : (t : Bool) → Below 64 (outside g xs) → Below 64 (pick t (outside g xs) (x ∷ outside g xs))
    go true h = h
    go false h = (b.0, h)

pub outside-occ : (g i : ℕ) (xs : List ℕ) → i < 64 → Below 64 xs
    → occ i (outside g xs) ≡ pick (eqb (bit_at i g) 1) 0 (occ i xs)
unfolding outside Below
outside-occ g i [] h b = none (eqb (bit_at i g) 1)
  where
    none : (t : Bool) → occ i [] ≡ pick t 0 (occ i [])
    none true = occ-nil i
    none false = refl
outside-occ g i (x ∷ xs) h b = go (has g x) refl (eqb x i) refl (outside-occ g i xs h b.1)
  where
    at : (t : Bool) → has g x ≡ t → x ≡ i → eqb (bit_at i g) 1 ≡ t
    at t e q = let l = b.0 in let z : i ≡ x % 64 = omega arith in ap (λ (j : ℕ). eqb (bit_at j g) 1) z ∙ e

    go : (t : Bool) → has g x ≡ t → (s : Bool) → eqb x i ≡ s
        → occ i (outside g xs) ≡ pick (eqb (bit_at i g) 1) 0 (occ i xs)
        → occ i (pick t (outside g xs) (x ∷ outside g xs)) ≡ pick (eqb (bit_at i g) 1) 0 (occ i (x ∷ xs))
    go true e true f m = let k = at true e (eqb-true x i f) in m ∙ rw k
    go true e false f m = m ∙ ap (λ (y : ℕ). pick (eqb (bit_at i g) 1) 0 y) (sym (occ-no i x xs (eqb-false x i f)))
    go false e true f m =
        let q = eqb-true x i f in
        let k = at false e q in
        let r : pick (eqb (bit_at i g) 1) 0 (occ i (x ∷ xs)) ≡ suc (occ i xs) = rw k (occ-yes i x xs q) in
        let n : pick (eqb (bit_at i g) 1) 0 (occ i xs) ≡ occ i xs = rw k in
        occ-yes i x (outside g xs) q ∙ ap suc (m ∙ n) ∙ sym r
    go false e false f m =
        let q = eqb-false x i f in
        occ-no i x (outside g xs) q ∙ m ∙ ap (λ (y : ℕ). pick (eqb (bit_at i g) 1) 0 y) (sym (occ-no i x xs q))

pub cut-occ : (b c d : ℕ) → b ≤ 1 → c ≤ 1 → d ≡ b → pick (eqb c 1) 0 d ≡ min b (1 - c)
cut-occ b c d h k e = go (eqb c 1) refl
  where
    go : (t : Bool) → eqb c 1 ≡ t → pick t 0 d ≡ min b (1 - c)
    go true f = let q = eqb-true c 1 f in omega arith
    go false f = let q = eqb-false c 1 f in omega (arith, q)

pub get_d_map : (f : ℕ → ℕ) (l : List ℕ) (i : ℕ) → f 0 ≡ 0 → get_or (map f l) i 0 ≡ f (get_or l i 0)
get_d_map f [] i e = sym e
get_d_map f (x ∷ l) zero e = refl
get_d_map f (x ∷ l) (suc i) e = get_d_map f l i e
