-- A table's first row, tested by computing. Assumes nothing.
use mathlib.Core.Path.{◌≡◌, refl, sym, ap, ◌∙◌}
use mathlib.Core.Bool.{Bool, true, false, ◌&&◌}
use mathlib.Core.List.{List, [], ◌∷◌}
use Prim.Native.Nat.{ℕ, zero, suc, ◌+◌, ◌*◌, ◌/◌, ◌%◌, ◌<◌}
use native.Mathlib.Nat.{le_of_suc-le-suc, not-suc-le-zero, add-zero, suc-add, add-suc}
use lib.Dec.{T, eqb, eqb→eq}
use lib.ListN.{get_or}
use lib.Bits.{bit_xor}
use Rattle.crc.specs.Crc.{when, clock, clocks}

-- `clocks`, as antt computes it
abbrev pub run : ℕ → ℕ → ℕ → ℕ
run p zero c = c
run p (suc n) c = run p n (bit_xor (c / 2) (when (c % 2) p))

pub run_is : (p n c : ℕ) → run p n c ≡ clocks p n c
unfolding clocks clock
run_is p zero c = refl
run_is p (suc n) c = run_is p n (bit_xor (c / 2) (when (c % 2) p))

-- the test: what eight bits make of x * w, (x + 1) * w, .., n of them
abbrev pub row : ℕ → ℕ → ℕ → ℕ → List ℕ → Bool
row p w zero x l = true
row p w (suc n) x [] = false
row p w (suc n) x (v ∷ l) = eqb v (run p 8 (x * w)) && row p w n (suc x) l

pub and_left : (a b : Bool) → T (a && b) → T a
and_left true b t = tt
and_left false b t = t

pub and_right : (a b : Bool) → T (a && b) → T b
and_right true b t = t
and_right false b t = absurd t

pub row_at : (p w n x : ℕ) (l : List ℕ) → T (row p w n x l) → (j : ℕ) → j < n → get_or l j 0 ≡ run p 8 ((x + j) * w)
row_at p w zero x l t j h = absurd (not-suc-le-zero h)
row_at p w (suc n) x [] t j h = absurd t
row_at p w (suc n) x (v ∷ l) t zero h =
    eqb→eq v (run p 8 (x * w)) (and_left (eqb v (run p 8 (x * w))) (row p w n (suc x) l) t) ∙ ap (λ (y : ℕ). run p 8 (y * w)) (sym (add-zero x))
row_at p w (suc n) x (v ∷ l) t (suc j) h =
    row_at p w n (suc x) l (and_right (eqb v (run p 8 (x * w))) (row p w n (suc x) l) t) j (le_of_suc-le-suc h)
    ∙ ap (λ (y : ℕ). run p 8 (y * w)) (suc-add x j ∙ sym (add-suc x j))
