-- Masks of 64 slots: bit i, the slots of a mask from the lowest on, and the first slot that passes a test.
-- Assumes nothing.
use Rattle.std.specs.Prelude.{ℕ, zero, suc, ◌-◌, ◌^◌, ◌/◌, ◌%◌, Bool, List, [], ◌∷◌, eqb, ltb, get_or, set}
use Rattle.std.specs.Int.Bits.{bit_and, bit_or}
use Rattle.std.specs.Int.Count.{count_trailing_zeros}
use Rattle.wire.specs.Choice.{pick}

-- bit i of a mask
unfoldable pub bit_at : ℕ → ℕ → ℕ
bit_at zero n = n % 2
bit_at (suc i) n = bit_at i (n / 2)

-- the slots of a mask among its k lowest bits, lowest first, counted from i
unfoldable pub slots_from : ℕ → ℕ → ℕ → List ℕ
slots_from zero i m = []
slots_from (suc k) i m = pick (eqb (m % 2) 1) (i ∷ slots_from k (suc i) (m / 2)) (slots_from k (suc i) (m / 2))

-- the slots of a mask
abbrev pub slots : ℕ → List ℕ
slots m = slots_from 64 0 m

-- the first slot of some that passes a test, and 64 where there is none
unfoldable pub seek : (ℕ → Bool) → List ℕ → ℕ
seek f [] = 64
seek f (i ∷ is) = pick (f i) i (seek f is)

-- the mask of the slots that pass a test, added to a mask
unfoldable pub gather : (ℕ → Bool) → List ℕ → ℕ → ℕ
gather f [] a = a
gather f (i ∷ is) a = gather f is (pick (f i) (bit_or a (2 ^ i)) a)

-- the lowest slot that a mask does not have, and 64 where it has all
unfoldable pub lowest_free : ℕ → ℕ
lowest_free used = count_trailing_zeros 64 (18446744073709551615 - used)

-- a mask without the slots of another
abbrev pub cut : ℕ → ℕ → ℕ
cut mask m = bit_and m (18446744073709551615 - mask)

-- whether a mask has the slot that a byte names
abbrev pub has : ℕ → ℕ → Bool
has m x = eqb (bit_at (x % 64) m) 1

-- the bytes whose slots a mask has, and the others, in their order
unfoldable pub within : ℕ → List ℕ → List ℕ
within m [] = []
within m (x ∷ xs) = pick (has m x) (x ∷ within m xs) (within m xs)

unfoldable pub outside : ℕ → List ℕ → List ℕ
outside m [] = []
outside m (x ∷ xs) = pick (has m x) (outside m xs) (x ∷ outside m xs)

-- ---- the order of acceptance: each slot's place in it

-- slots laid out by their places: where two have the same place, the later one stands there
unfoldable pub laid_out : List ℕ → List ℕ → List ℕ → List ℕ
laid_out os [] xs = xs
laid_out os (i ∷ is) xs = laid_out os is (set xs (get_or os i 0 % 64) i)

-- the places after place a is free: those behind it come one forward
abbrev pub closed_up : ℕ → ℕ → ℕ
closed_up a x = pick (ltb a x) (x - 1) x

-- slots take their places anew, from place k on
unfoldable pub placed_anew : List ℕ → ℕ → List ℕ → List ℕ
placed_anew [] k os = os
placed_anew (x ∷ xs) k os = placed_anew xs (suc k) (set os (x % 64) k)
