-- Facts that are tests, computed: for a pair, for every byte, for two lists. Assumes nothing.
use mathlib.Core.Path.{◌≡◌, refl, sym, ap₂, ◌∙◌, subst}
use mathlib.Core.Bool.{Bool, true, false, ◌&&◌}
use mathlib.Core.List.{List, [], ◌∷◌}
use Prim.Native.Nat.{ℕ, zero, suc, ◌+◌, ◌<◌}
use native.Mathlib.Nat.{le_of_suc-le-suc, not-suc-le-zero, zero-add, add-zero, add-suc, suc-add}
use lib.Dec.{T, eqb, eqb→eq}

pub and_left : (a b : Bool) → T (a && b) → T a
and_left true b t = tt
and_left false b t = t

pub and_right : (a b : Bool) → T (a && b) → T b
and_right true b t = t
and_right false b t = absurd t

-- ---- a test of every number from i on, n of them
abbrev pub all : (ℕ → Bool) → ℕ → ℕ → Bool
all f i zero = true
all f i (suc n) = f i && all f (suc i) n

all-at : (f : ℕ → Bool) (n i : ℕ) → T (all f i n) → (k : ℕ) → k < n → T (f (i + k))
all-at f zero i t k h = absurd (not-suc-le-zero h)
all-at f (suc n) i t zero h = subst (λ (m : ℕ). T (f m)) (sym (add-zero i)) (and_left (f i) (all f (suc i) n) t)
all-at f (suc n) i t (suc k) h =
    subst (λ (m : ℕ). T (f m)) (suc-add i k ∙ sym (add-suc i k))
    (all-at f n (suc i) (and_right (f i) (all f (suc i) n) t) k (le_of_suc-le-suc h))

-- a test at each byte
pub each-byte : (p : ℕ → Bool) → T (all p 0 256) → (b : ℕ) → b < 256 → T (p b)
each-byte p t b h = subst (λ (n : ℕ). T (p n)) (zero-add b) (all-at p 256 0 t b h)

pub byte-test : (f g : ℕ → ℕ) → T (all (λ b. eqb (f b) (g b)) 0 256) → (b : ℕ) → b < 256 → f b ≡ g b
byte-test f g t b h = eqb→eq (f b) (g b) (each-byte (λ b. eqb (f b) (g b)) t b h)

-- ---- two lists, number by number: where they differ that is seen at once, and not by what they are computed from
abbrev pub alike : List ℕ → List ℕ → Bool
alike [] [] = true
alike [] (b ∷ t) = false
alike (a ∷ s) [] = false
alike (a ∷ s) (b ∷ t) = eqb a b && alike s t

pub same-list : (s t : List ℕ) → T (alike s t) → s ≡ t
same-list [] [] h = refl
same-list [] (b ∷ t) h = absurd h
same-list (a ∷ s) [] h = absurd h
same-list (a ∷ s) (b ∷ t) h =
    ap₂ ◌∷◌ (eqb→eq a b (and_left (eqb a b) (alike s t) h)) (same-list s t (and_right (eqb a b) (alike s t) h))
