-- The requests that leave, one byte of the line more; their other ends, written two numbers at a time over the front of a slice.
-- Assumes nothing.
use mathlib.Core.Path.{◌≡◌, refl, ap, ◌∙◌}
use Prim.Native.Nat.{ℕ, ◌+◌, ◌-◌, ◌*◌, ◌%◌, ◌≤◌, ◌<◌}
use native.Mathlib.Omega.{arith}
use native.Mathlib.Numerals.{add-one}
use mathlib.Core.Bool.{Bool, true, false}
use mathlib.Core.List.{List, [], ◌∷◌, ◌++◌, append_assoc, append-nil}
use lib.IntN.{ℤ, pos}
use lib.ListN.{length, take, drop, get_or, set, length-append}
use lib.Seq.{take-suc, take-add, take_all}
use Rattle.wire.specs.Choice.{pick}
use Rattle.inflight.specs.Masks.{has, within}
use Rattle.inflight.specs.Matching.{over_front}
use Rattle.inflight.specs.Tables.{ends_of}
use Rattle.inflight.proofs.OrderLaws.{put_next}

within-append : (m : ℕ) (a b : List ℕ) → within m (a ++ b) ≡ within m a ++ within m b
unfolding within
within-append m [] b = refl
within-append m (x ∷ a) b = go (has m x) (within-append m a b)
  where
    go : (t : Bool) → within m (a ++ b) ≡ within m a ++ within m b
        → pick t (x ∷ within m (a ++ b)) (within m (a ++ b)) ≡ pick t (x ∷ within m a) (within m a) ++ within m b
    go true h = ap (λ (l : List ℕ). x ∷ l) h
    go false h = h

one_of : (m x : ℕ) → within m (x ∷ []) ≡ pick (has m x) (x ∷ []) []
unfolding within
one_of m x = refl

-- a turn of a loop over the line: its byte at i names a slot of the mask, or not
module _ (m : ℕ) (xs : List ℕ) (i : ℕ) (h : i < length xs) where
  pub within-yes : has m (get_or xs i 0) ≡ true → within m (take (i + 1) xs) ≡ within m (take i xs) ++ get_or xs i 0 ∷ []
  within-yes e = rw (add-one, take-suc xs i 0) (within-append m (take i xs) (get_or xs i 0 ∷ []) ∙ ap (λ (l : List ℕ). within m (take i xs) ++ l) (one_of m (get_or xs i 0) ∙ rw e))

  pub within-no : has m (get_or xs i 0) ≡ false → within m (take (i + 1) xs) ≡ within m (take i xs)
  within-no e =
      rw (add-one, take-suc xs i 0) (within-append m (take i xs) (get_or xs i 0 ∷ []) ∙ ap (λ (l : List ℕ). within m (take i xs) ++ l) (one_of m (get_or xs i 0) ∙ rw e) ∙ append-nil (within m (take i xs)))

-- a front part has no more of them than a longer front part
pub within-most : (g : ℕ) (xs : List ℕ) (m n : ℕ) → m ≤ n → length (within g (take m xs)) ≤ length (within g (take n xs))
within-most g xs m n h =
    let q : n ≡ m + (n - m) = omega arith in
    let w : within g (take n xs) ≡ within g (take m xs) ++ within g (take (n - m) (drop m xs)) =
    ap (λ (i : ℕ). within g (take i xs)) q ∙ rw (take-add m (n - m) xs) (within-append g (take m xs) (take (n - m) (drop m xs))) in
    let e : length (within g (take n xs)) ≡ length (within g (take m xs)) + length (within g (take (n - m) (drop m xs))) =
    ap length w ∙ length-append (within g (take m xs)) (within g (take (n - m) (drop m xs))) in
    omega arith

-- where the byte at i is one, the slice has room for its two numbers
pub room_for : (g : ℕ) (xs : List ℕ) (i at m : ℕ) → i < length xs → has g (get_or xs i 0) ≡ true → at ≡ 2 * length (within g (take i xs)) → 2 * length (within g xs) ≤ m → at + 2 ≤ m
room_for g xs i at m l e p q =
    let w = within-most g xs (i + 1) (length xs) (omega arith) in
    let z : length (within g (take (length xs) xs)) ≡ length (within g xs) = ap (λ (l : List ℕ). length (within g l)) (take_all (length xs) xs (omega arith)) in
    let y : length (within g (take (i + 1) xs)) ≡ length (within g (take i xs)) + 1 = ap length (within-yes g xs i l e) ∙ length-append (within g (take i xs)) (get_or xs i 0 ∷ []) in
    omega (arith, w, y, z, p, q)

module _ (ns : List ℤ) (ps : List ℕ) (base : ℕ) where
  pub ends-append : (a b : List ℕ) → ends_of ns ps base (a ++ b) ≡ ends_of ns ps base a ++ ends_of ns ps base b
  unfolding ends_of
  ends-append [] b = refl
  ends-append (x ∷ a) b = ap (λ (l : List ℤ). pos (get_or ps (base + x % 64) 0) ∷ get_or ns (base + x % 64) (pos 0) ∷ l) (ends-append a b)

  pub length-ends : (xs : List ℕ) → length (ends_of ns ps base xs) ≡ 2 * length xs
  unfolding ends_of
  length-ends [] = refl
  length-ends (x ∷ xs) = let h = length-ends xs in omega arith

pub over-two : (E o : List ℤ) (a b : ℤ) → length E + 1 < length o
    → set (set (over_front E o) (length E) a) (length E + 1) b ≡ over_front (E ++ a ∷ b ∷ []) o
over-two E o a b h =
    let n : ℕ = length E in
    let s1 : set (E ++ drop n o) n a ≡ (E ++ a ∷ []) ++ drop (n + 1) o = put_next E o n a (pos 0) refl (omega arith) in
    let l1 : length (E ++ a ∷ []) ≡ n + 1 = length-append E (a ∷ []) in
    let s2 : set ((E ++ a ∷ []) ++ drop (n + 1) o) (n + 1) b ≡ ((E ++ a ∷ []) ++ b ∷ []) ++ drop (n + 1 + 1) o = put_next (E ++ a ∷ []) o (n + 1) b (pos 0) l1 h in
    let l2 : length (E ++ a ∷ b ∷ []) ≡ n + 1 + 1 = length-append E (a ∷ b ∷ []) ∙ omega arith in
    rw s1 (s2 ∙ rw (l2, append_assoc E (a ∷ []) (b ∷ [])))
