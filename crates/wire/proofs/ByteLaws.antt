-- Laws of little-endian numbers, over the width. Assumes nothing.
use mathlib.Core.Path.{◌≡◌, refl, sym, ap, ap₂, ◌∙◌}
use Prim.Native.Nat.{ℕ, zero, suc, ◌+◌, ◌-◌, ◌*◌, ◌/◌, ◌%◌, ◌^◌, ◌≤◌, ◌<◌, min}
use native.Mathlib.Nat.{add-suc, add-zero, zero-add, suc-add, one-mul, pow-suc, mul_comm, mul_assoc, div-div-eq-div-mul, mod-add-div}
use native.Mathlib.Omega.{arith}
use mathlib.Core.Bool.{Bool, true, false}
use mathlib.Core.List.{List, [], ◌∷◌, ◌++◌, append_assoc}
use lib.Dec.{leb}
use borrow.Author.Tests.{leb-true, leb-false}
use lib.ListN.{length, take, drop, get_or, replicate, length-drop, drop_of_length-le}
use lib.Seq.{get_or-drop, drop-cons, drop-drop, drop_at, take_at, take-add, take_all, take-nil, take-take, length-take-le, sets, sets-eq}
use Rattle.std.specs.Int.{byte_at, byte_worth, bytes_low_first, sum_through}
use Rattle.wire.specs.Bytes.{le, part, bytes}

-- one byte further up
shift : (j m : ℕ) → 256 ^ suc j * m ≡ 256 * (256 ^ j * m)
shift j m = ap (λ (n : ℕ). n * m) (pow-suc 256 j ∙ mul_comm (256 ^ j) 256) ∙ mul_assoc 256 (256 ^ j) m

-- ---- what bytes spell

pub le-append : (a b : List ℕ) → le (a ++ b) ≡ le a + 256 ^ length a * le b
unfolding le
le-append [] b = sym (zero-add (1 * le b) ∙ one-mul (le b))
le-append (x ∷ a) b =
    omega (arith, le-append a b, shift (length a) (le b))

-- one byte, or 0 past the end
pub le_byte : (s : List ℕ) (at : ℕ) → get_or s at 0 ≡ le (part s at 1)
unfolding le
le_byte [] zero = refl
le_byte [] (suc at) = refl
le_byte (b ∷ s) zero = omega arith
le_byte (b ∷ s) (suc at) = le_byte s at

module _ (s : List ℕ) (at : ℕ) where
  -- bytes past the end count as 0
  pub le-none : (k : ℕ) → length s ≤ at → le (part s at k) ≡ 0
  unfolding le
  le-none k h = rw (drop_of_length-le s {i = at} h, take-nil k) refl

  pub le-one : at < length s → le (part s at 1) ≡ get_or s at 0
  unfolding le
  le-one h = rw (drop-cons s at 0) (omega arith)

  -- the byte at `at + i`, and those behind it
  pub le_step : (i k : ℕ) → at + i < length s → le (part s (at + i) (suc k)) ≡ get_or s (at + i) 0 + 256 * le (part s (at + suc i) k)
  unfolding le
  le_step i k h = rw (add-suc, drop-cons s (at + i) 0)

  pub le-4 : at + 4 ≤ length s → le (part s at 4) ≡ get_or s at 0 + 256 * (get_or s (at + 1) 0 + 256 * (get_or s (at + 2) 0 + 256 * get_or s (at + 3) 0))
  unfolding le
  le-4 h =
      let e0 = rw add-zero at (le_step 0 3 (omega arith)) in
      let e1 = le_step 1 2 (omega arith) in
      let e2 = le_step 2 1 (omega arith) in
      let e3 = le_step 3 0 (omega arith) in
      omega arith

  -- a number is its low part and its high part
  pub le_join : (j k : ℕ) → at + j ≤ length s → le (part s at (j + k)) ≡ le (part s at j) + 256 ^ j * le (part s (at + j) k)
  le_join j k h =
      let l : length (take j (drop at s)) ≡ j = length-take-le j (drop at s) (rw length-drop (omega arith)) in
      ap le (take-add j k (drop at s))
      ∙ le-append (take j (drop at s)) (take k (drop j (drop at s)))
      ∙ rw (l, drop-drop j at s)

  -- where the low part is already cut off, nothing is left for the high part
  pub le-cut : (j k : ℕ) → length s - at ≤ j → le (part s at (j + k)) ≡ le (part s at j)
  le-cut j k h =
      let p : length (drop at s) ≤ j = rw length-drop h in
      ap le (take_all (j + k) (drop at s) (omega arith) ∙ sym (take_all j (drop at s) p))

-- ---- parts

drop-within : (k n m : ℕ) (l : List ℕ) → k + m ≤ n → take m (drop k (take n l)) ≡ take m (drop k l)
drop-within zero n m l h = take-take m n l (omega arith)
drop-within (suc k) zero m l h = absurd (omega (arith, suc-add k m))
drop-within (suc k) (suc n) m [] h = refl
drop-within (suc k) (suc n) m (x ∷ l) h = drop-within k n m l (omega (arith, suc-add k m))

-- a part of a part
pub part-part : (s : List ℕ) (at n k m : ℕ) → k + m ≤ n → part (part s at n) k m ≡ part s (at + k) m
part-part s at n k m h = drop-within k n m (drop at s) h ∙ ap (take m) (drop-drop k at s)

-- the same as code has it, of the slice from `at` to `at + n`
pub window-part : (s : List ℕ) (at n k m : ℕ) → k + m ≤ n → part (take (at + n - at) (drop at s)) k m ≡ part s (at + k) m
window-part s at n k m h =
    let e : at + n - at ≡ n = omega arith in
    ap (λ (j : ℕ). part (take j (drop at s)) k m) e ∙ part-part s at n k m h

pub window-first : (s : List ℕ) (at n m : ℕ) → m ≤ n → part (take (at + n - at) (drop at s)) 0 m ≡ part s at m
window-first s at n m h = window-part s at n 0 m (omega arith) ∙ ap (λ (j : ℕ). part s j m) (add-zero at)

pub length-window : (s : List ℕ) (at n : ℕ) → at + n ≤ length s → length (take (at + n - at) (drop at s)) ≡ n
length-window s at n h = let e : at + n - at ≡ n = omega arith in rw e (length-take-le n (drop at s) (rw length-drop (omega arith)))

-- the part between two places that were kept within the end
pub cut-part : (s : List ℕ) (at k : ℕ) {x y : ℕ} → x ≡ min at (length s) → y ≡ min (at + k) (length s) → take (y - x) (drop x s) ≡ part s at k
cut-part s at k {x} {y} p q = go (leb (length s) at) (leb (length s) (at + k)) refl refl
  where
    go : (a b : Bool) → leb (length s) at ≡ a → leb (length s) (at + k) ≡ b → take (y - x) (drop x s) ≡ part s at k
    go true b e f =
        let h = leb-true (length s) at e in
        rw (drop_of_length-le s {i = x} (omega arith), drop_of_length-le s {i = at} h, take-nil (y - x), take-nil k) refl
    go false true e f =
        let h = leb-false (length s) at e in
        let g = leb-true (length s) (at + k) f in
        let i : x ≡ at = omega arith in
        rw i (take_all (y - at) (drop at s) (rw length-drop (omega arith)) ∙ sym (take_all k (drop at s) (rw length-drop (omega arith))))
    go false false e f =
        let h = leb-false (length s) at e in
        let g = leb-false (length s) (at + k) f in
        let i : x ≡ at = omega arith in
        let j : y - at ≡ k = omega arith in
        rw (i, j) refl

-- ---- lists of bytes

-- every element is a byte
abbrev pub Small : List ℕ → Type 0
Small s = (i : ℕ) → get_or s i 0 < 256

small-take : (k : ℕ) (s : List ℕ) → Small s → Small (take k s)
small-take zero s h i = omega arith
small-take (suc k) [] h i = h i
small-take (suc k) (b ∷ s) h zero = h 0
small-take (suc k) (b ∷ s) h (suc i) = small-take k s (λ j. h (suc j)) i

pub small-drop : (s : List ℕ) (at : ℕ) → Small s → Small (drop at s)
small-drop s at h i = rw (get_or-drop at s i 0) (h (at + i))

pub small-part : (s : List ℕ) (at k : ℕ) → Small s → Small (part s at k)
small-part s at k h = small-take k (drop at s) (small-drop s at h)

le-take : (k : ℕ) (s : List ℕ) → Small s → le (take k s) < 256 ^ k
unfolding le
le-take zero s h = omega arith
le-take (suc k) [] h = rw (pow-suc 256 k) (omega (arith, le-take k [] h))
le-take (suc k) (b ∷ s) h = rw (pow-suc 256 k) (omega (arith, h 0, le-take k s (λ j. h (suc j))))

-- k bytes spell a number below 256 ^ k
pub le-lt : (s : List ℕ) (at k : ℕ) → Small s → le (part s at k) < 256 ^ k
le-lt s at k h = le-take k (drop at s) (small-drop s at h)

-- ---- the bytes of a number

pub length-bytes : (k n : ℕ) → length (bytes k n) ≡ k
unfolding bytes
length-bytes zero n = refl
length-bytes (suc k) n = ap suc (length-bytes k (n / 256))

pub le_bytes : (k n : ℕ) → n < 256 ^ k → le (bytes k n) ≡ n
unfolding le bytes
le_bytes zero n h = omega arith
le_bytes (suc k) n h =
    let h' : n < 256 ^ k * 256 = rw pow-suc at h in
    rw (le_bytes k (n / 256) (omega arith)) (omega arith)

-- the low bytes, then the high ones
pub bytes-add : (j k n : ℕ) → bytes (j + k) n ≡ bytes j n ++ bytes k (n / 256 ^ j)
unfolding bytes
bytes-add zero k n = rw zero-add (ap (bytes k) (omega arith))
bytes-add (suc j) k n =
    rw (suc-add, bytes-add j k (n / 256))
    (ap (λ (m : ℕ). n % 256 ∷ (bytes j (n / 256) ++ bytes k m)) (div-div-eq-div-mul n 256 (256 ^ j) ∙ ap (λ (m : ℕ). n / m) (mul_comm 256 (256 ^ j) ∙ sym (pow-suc 256 j))))

-- what weighs 256 ^ j and more does not show in the j lowest bytes
bytes-more : (j n m : ℕ) → bytes j (n + 256 ^ j * m) ≡ bytes j n
unfolding bytes
bytes-more zero n m = refl
bytes-more (suc j) n m =
    let e : 256 ^ suc j * m ≡ 256 * (256 ^ j * m) = shift j m in
    let q : (n + 256 ^ suc j * m) % 256 ≡ n % 256 = omega arith in
    let r : (n + 256 ^ suc j * m) / 256 ≡ n / 256 + 256 ^ j * m = omega arith in
    rw (q, r, bytes-more j (n / 256) m)

pub bytes_low : (j n : ℕ) → bytes j (n % 256 ^ j) ≡ bytes j n
bytes_low j n = sym (bytes-more j (n % 256 ^ j) (n / 256 ^ j)) ∙ ap (bytes j) (mod-add-div n (256 ^ j))

-- zeros spell 0, and are the bytes of 0
pub le-zeros : (k : ℕ) → le (replicate k 0) ≡ 0
unfolding le
le-zeros zero = refl
le-zeros (suc k) = rw (le-zeros k)

pub bytes-zero : (k : ℕ) → bytes k 0 ≡ replicate k 0
unfolding bytes
bytes-zero zero = refl
bytes-zero (suc k) = ap (λ (t : List ℕ). 0 ∷ t) (bytes-zero k)

-- byte i, as the library has it
byte-at : (i n : ℕ) → byte_at i n ≡ n / 256 ^ i % 256
byte-at zero n = omega arith
byte-at (suc i) n = refl

low_first : (k i n : ℕ) → bytes_low_first i k n ≡ bytes k (n / 256 ^ i)
unfolding bytes
low_first zero i n = refl
low_first (suc k) i n =
    ap₂ (λ (b : ℕ) (t : List ℕ). b ∷ t) (byte-at i n)
    (low_first k (suc i) n ∙ ap (bytes k) (sym (div-div-eq-div-mul n (256 ^ i) 256 ∙ ap (λ (m : ℕ). n / m) (sym (pow-suc 256 i)))))

-- the library's bytes of a number are these
pub library_bytes : (k n : ℕ) → bytes_low_first 0 k n ≡ bytes k n
library_bytes k n = let e : n / 256 ^ 0 ≡ n = omega arith in low_first k 0 n ∙ ap (bytes k) e

from_le : (b : List ℕ) (k : ℕ) → suc k ≤ length b → sum_through (λ (i : ℕ). byte_worth i (get_or b i 0)) k ≡ le (part b 0 (suc k))
from_le b zero h = le_byte b 0
from_le b (suc k) h =
    let j : suc k + 1 ≡ suc (suc k) = omega arith in
    let z : 0 + suc k ≡ suc k = omega arith in
    let e : le (part b (0 + suc k) 1) ≡ get_or b (suc k) 0 = ap (λ (i : ℕ). le (part b i 1)) z ∙ sym (le_byte b (suc k)) in
    ap₂ (λ (x y : ℕ). x + y) (from_le b k (omega arith)) (mul_comm (get_or b (suc k) 0) (256 ^ suc k) ∙ ap (λ (x : ℕ). 256 ^ suc k * x) (sym e))
    ∙ sym (le_join b 0 (suc k) 1 (omega arith)) ∙ ap (λ (n : ℕ). le (part b 0 n)) j

-- and so is the number that bytes spell
pub library_le : (b : List ℕ) (k : ℕ) → length b ≡ suc k → sum_through (λ (i : ℕ). byte_worth i (get_or b i 0)) k ≡ le b
library_le b k h = from_le b k (omega arith) ∙ ap le (take_all (suc k) b (omega arith))

-- ---- a number that is cut off

le-drop-zeros : (k n : ℕ) → le (drop k (replicate n 0)) ≡ 0
unfolding le
le-drop-zeros zero n = le-zeros n
le-drop-zeros (suc k) zero = refl
le-drop-zeros (suc k) (suc n) = le-drop-zeros k n

-- zeros behind a list add nothing
pub le-padded : (r : List ℕ) (n : ℕ) → length r ≤ n → le (r ++ drop (length r) (replicate n 0)) ≡ le (take n r)
le-padded r n h =
    le-append r (drop (length r) (replicate n 0)) ∙ ap (λ (x : ℕ). le r + 256 ^ length r * x) (le-drop-zeros (length r) n)
    ∙ omega arith ∙ ap le (sym (take_all n r h))

-- the rest of a list from a place on that was kept within its end
pub cut-rest : (s : List ℕ) (at : ℕ) {m : ℕ} → m ≡ min at (length s) → take (length s - m) (drop m s) ≡ drop at s
cut-rest s at {m} e = take_all (length s - m) (drop m s) (rw length-drop (omega arith)) ∙ go (leb (length s) at) refl
  where
    go : (b : Bool) → leb (length s) at ≡ b → drop m s ≡ drop at s
    go true f =
        let h = leb-true (length s) at f in
        drop_of_length-le s {i = m} (omega arith) ∙ sym (drop_of_length-le s {i = at} h)
    go false f = let h = leb-false (length s) at f in ap (λ (k : ℕ). drop k s) (omega arith)

-- ---- reading what was stored

-- the middle of a list
pub part-mid : (a b c : List ℕ) (i k : ℕ) → length a ≡ i → length b ≡ k → part (a ++ (b ++ c)) i k ≡ b
part-mid a b c i k p q = rw (drop_at a (b ++ c) i p) (take_at b c k q)

-- what a run of stores left is what a reader finds
pub part-sets : (d : List ℕ) (at k : ℕ) (b : List ℕ) → length b ≡ k → at + k ≤ length d → part (sets d at b) at k ≡ b
part-sets d at k b e h =
    let h' : at + length b ≤ length d = rw e h in
    ap (λ (l : List ℕ). part l at k) (sets-eq b d at h')
    ∙ rw (append_assoc (take at d) b (drop (at + length b) d)) (part-mid (take at d) b (drop (at + length b) d) at k (length-take-le at d (omega arith)) e)

-- a number that is stored reads back, at every width
pub read_back : (d : List ℕ) (at k n : ℕ) → n < 256 ^ k → at + k ≤ length d → le (part (sets d at (bytes k n)) at k) ≡ n
read_back d at k n f h = ap le (part-sets d at k (bytes k n) (length-bytes k n) h) ∙ le_bytes k n f
