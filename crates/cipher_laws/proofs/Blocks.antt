-- Blocks of 16 bytes, and what keeps them so. Assumes nothing.
use mathlib.Core.Path.{◌≡◌, refl, sym, ap, ◌∙◌}
use mathlib.Core.List.{List, [], ◌∷◌, ◌++◌}
use Prim.Native.Nat.{ℕ, zero, suc, ◌*◌, ◌/◌, ◌%◌, ◌≤◌, ◌<◌}
use native.Mathlib.Nat.{mod-lt}
use native.Mathlib.Omega.{arith}
use lib.Dec.{lit<}
use lib.ListN.{length, get_or, take, drop, length-take, length-drop}
use lib.Bits.{bit_xor, xor_lt}
use Rattle.aes.specs.Field.{when, xtime, times, mul, powers, inverse, turn, affine, sbox, unaffine, unsbox}
use Rattle.cipher_laws.specs.Sizes.{Bytes, Sized}
use Rattle.aes.specs.Aes.{sub_bytes, placed, shift_rows, cell, columns, mix_columns, add, round_key, rounds}
use Rattle.aes.specs.Aes.{unsub_bytes, unshift_rows, unmix_columns}

-- ---- bytes
xor-low8 : {a b : ℕ} → a < 256 → b < 256 → bit_xor a b < 256
xor-low8 {a} {b} p q = xor_lt 8 a b p q

when-low8 : (d : ℕ) {a : ℕ} → a < 256 → when d a < 256
when-low8 zero h = lit< tt
when-low8 (suc d) h = h

pub xtime-low : (a : ℕ) → xtime a < 256
unfolding xtime
xtime-low a = xor-low8 (mod-lt (a * 2) (lit< tt)) (when-low8 (a / 128 % 2) (lit< tt))

times-low : (n a b : ℕ) → a < 256 → times n a b < 256
unfolding times
times-low zero a b h = lit< tt
times-low (suc n) a b h = xor-low8 (when-low8 (b % 2) h) (times-low n (xtime a) (b / 2) (xtime-low a))

pub mul_low : {a : ℕ} (b : ℕ) → a < 256 → mul a b < 256
unfolding mul
mul_low {a} b h = times-low 8 a b h

powers-low : (n a : ℕ) → a < 256 → powers n a < 256
unfolding powers
powers-low zero a h = lit< tt
powers-low (suc n) a h = mul_low (powers n (mul a a)) (mul_low a h)

turn_low : {a : ℕ} → a < 256 → turn a < 256
unfolding turn
turn_low h = omega arith

affine-low : {a : ℕ} → a < 256 → affine a < 256
unfolding affine
affine-low h =
    let h1 = turn_low h in
    let h2 = turn_low h1 in
    let h3 = turn_low h2 in
    xor-low8 h (xor-low8 h1 (xor-low8 h2 (xor-low8 h3 (xor-low8 (turn_low h3) (lit< tt)))))

pub sbox-low : {a : ℕ} → a < 256 → sbox a < 256
unfolding sbox inverse
sbox-low {a} h = affine-low (powers-low 7 a h)

unaffine-low : {a : ℕ} → a < 256 → unaffine a < 256
unfolding unaffine
unaffine-low h =
    let h1 = turn_low h in
    let h3 = turn_low (turn_low h1) in
    xor-low8 h1 (xor-low8 h3 (xor-low8 (turn_low (turn_low (turn_low h3))) (lit< tt)))

pub unsbox-low : {a : ℕ} → a < 256 → unsbox a < 256
unfolding unsbox inverse
unsbox-low {a} h = powers-low 7 (unaffine a) (unaffine-low h)

pub cell-low : (p q r t : ℕ) {a b c d : ℕ} → a < 256 → b < 256 → c < 256 → d < 256 → cell p q r t a b c d < 256
unfolding cell
cell-low p q r t ha hb hc hd =
    xor-low8 (mul_low p ha) (xor-low8 (mul_low q hb) (xor-low8 (mul_low r hc) (mul_low t hd)))

-- ---- lists of bytes
pub bytes_of : (s : List ℕ) → ((i : ℕ) → get_or s i 0 < 256) → Bytes s
bytes_of [] h = tt
bytes_of (b ∷ s) h = (h 0, bytes_of s (λ i. h (suc i)))

pub bytes-at : (s : List ℕ) → Bytes s → (i : ℕ) → get_or s i 0 < 256
bytes-at [] h i = lit< tt
bytes-at (b ∷ s) h zero = h.0
bytes-at (b ∷ s) h (suc i) = bytes-at s h.1 i

pub bytes_take : (n : ℕ) (s : List ℕ) → Bytes s → Bytes (take n s)
bytes_take zero s h = tt
bytes_take (suc n) [] h = tt
bytes_take (suc n) (b ∷ s) h = (h.0, bytes_take n s h.1)

pub bytes_drop : (n : ℕ) (s : List ℕ) → Bytes s → Bytes (drop n s)
bytes_drop zero s h = h
bytes_drop (suc n) [] h = tt
bytes_drop (suc n) (b ∷ s) h = bytes_drop n s h.1

pub bytes-append : (s t : List ℕ) → Bytes s → Bytes t → Bytes (s ++ t)
bytes-append [] t u v = v
bytes-append (a ∷ s) t u v = (u.0, bytes-append s t u.1 v)

pub bytes-add : (s t : List ℕ) → Bytes s → Bytes t → Bytes (add s t)
unfolding add
bytes-add [] t hs ht = tt
bytes-add (a ∷ s) [] hs ht = tt
bytes-add (a ∷ s) (b ∷ t) hs ht = (xor-low8 hs.0 ht.0, bytes-add s t hs.1 ht.1)

-- ---- a block
pub data Block : List ℕ → Type 0 where
  block : {a b c d e f g h i j k l m n o p : ℕ}
      → Bytes (a ∷ b ∷ c ∷ d ∷ e ∷ f ∷ g ∷ h ∷ i ∷ j ∷ k ∷ l ∷ m ∷ n ∷ o ∷ p ∷ [])
      → Block (a ∷ b ∷ c ∷ d ∷ e ∷ f ∷ g ∷ h ∷ i ∷ j ∷ k ∷ l ∷ m ∷ n ∷ o ∷ p ∷ [])

pub shape : (s : List ℕ) → length s ≡ 16 → Bytes s → Block s
shape [] eq u = absurd (omega arith)
shape (a ∷ []) eq u = absurd (omega arith)
shape (a ∷ b ∷ []) eq u = absurd (omega arith)
shape (a ∷ b ∷ c ∷ []) eq u = absurd (omega arith)
shape (a ∷ b ∷ c ∷ d ∷ []) eq u = absurd (omega arith)
shape (a ∷ b ∷ c ∷ d ∷ e ∷ []) eq u = absurd (omega arith)
shape (a ∷ b ∷ c ∷ d ∷ e ∷ f ∷ []) eq u = absurd (omega arith)
shape (a ∷ b ∷ c ∷ d ∷ e ∷ f ∷ g ∷ []) eq u = absurd (omega arith)
shape (a ∷ b ∷ c ∷ d ∷ e ∷ f ∷ g ∷ h ∷ []) eq u = absurd (omega arith)
shape (a ∷ b ∷ c ∷ d ∷ e ∷ f ∷ g ∷ h ∷ i ∷ []) eq u = absurd (omega arith)
shape (a ∷ b ∷ c ∷ d ∷ e ∷ f ∷ g ∷ h ∷ i ∷ j ∷ []) eq u = absurd (omega arith)
shape (a ∷ b ∷ c ∷ d ∷ e ∷ f ∷ g ∷ h ∷ i ∷ j ∷ k ∷ []) eq u = absurd (omega arith)
shape (a ∷ b ∷ c ∷ d ∷ e ∷ f ∷ g ∷ h ∷ i ∷ j ∷ k ∷ l ∷ []) eq u = absurd (omega arith)
shape (a ∷ b ∷ c ∷ d ∷ e ∷ f ∷ g ∷ h ∷ i ∷ j ∷ k ∷ l ∷ m ∷ []) eq u = absurd (omega arith)
shape (a ∷ b ∷ c ∷ d ∷ e ∷ f ∷ g ∷ h ∷ i ∷ j ∷ k ∷ l ∷ m ∷ n ∷ []) eq u = absurd (omega arith)
shape (a ∷ b ∷ c ∷ d ∷ e ∷ f ∷ g ∷ h ∷ i ∷ j ∷ k ∷ l ∷ m ∷ n ∷ o ∷ []) eq u = absurd (omega arith)
shape (a ∷ b ∷ c ∷ d ∷ e ∷ f ∷ g ∷ h ∷ i ∷ j ∷ k ∷ l ∷ m ∷ n ∷ o ∷ p ∷ []) eq u = block u
shape (a ∷ b ∷ c ∷ d ∷ e ∷ f ∷ g ∷ h ∷ i ∷ j ∷ k ∷ l ∷ m ∷ n ∷ o ∷ p ∷ q ∷ s) eq u = absurd (omega arith)

pub bytes-in : {s : List ℕ} → Block s → Bytes s
bytes-in (block h) = h

pub long-in : {s : List ℕ} → Block s → length s ≡ 16
long-in (block h) = refl

pub same-long : {s t : List ℕ} → Block s → Block t → length s ≡ length t
same-long p q = long-in p ∙ sym (long-in q)

pub block_of : {s : List ℕ} → Sized 16 s → Block s
block_of {s} h = shape s h.long h.low

pub block-add : {s t : List ℕ} → Block s → Block t → Block (add s t)
unfolding add
block-add {s} {t} (block u) (block v) = block (bytes-add s t u v)

-- ---- the substitution, forth and back
long-sub : (s : List ℕ) → length (sub_bytes s) ≡ length s
unfolding sub_bytes
long-sub [] = refl
long-sub (b ∷ s) = ap suc (long-sub s)

bytes-sub : (s : List ℕ) → Bytes s → Bytes (sub_bytes s)
unfolding sub_bytes
bytes-sub [] h = tt
bytes-sub (b ∷ s) h = (sbox-low h.0, bytes-sub s h.1)

pub block-sub : {s : List ℕ} → Block s → Block (sub_bytes s)
block-sub {s} b = shape (sub_bytes s) (long-sub s ∙ long-in b) (bytes-sub s (bytes-in b))

pub long-unsub : (s : List ℕ) → length (unsub_bytes s) ≡ length s
unfolding unsub_bytes
long-unsub [] = refl
long-unsub (b ∷ s) = ap suc (long-unsub s)

bytes-unsub : (s : List ℕ) → Bytes s → Bytes (unsub_bytes s)
unfolding unsub_bytes
bytes-unsub [] h = tt
bytes-unsub (b ∷ s) h = (unsbox-low h.0, bytes-unsub s h.1)

pub block-unsub : {s : List ℕ} → Block s → Block (unsub_bytes s)
block-unsub {s} b = shape (unsub_bytes s) (long-unsub s ∙ long-in b) (bytes-unsub s (bytes-in b))

-- ---- the rows: sixteen places of any list
bytes-placed : (s is : List ℕ) → Bytes s → Bytes (placed s is)
unfolding placed
bytes-placed s [] h = tt
bytes-placed s (i ∷ is) h = (bytes-at s h i, bytes-placed s is h)

pub long-shift : (s : List ℕ) → length (shift_rows s) ≡ 16
unfolding shift_rows placed
long-shift s = refl

pub block-shift : {s : List ℕ} → Block s → Block (shift_rows s)
unfolding shift_rows
block-shift {s} b = shape (shift_rows s) (long-shift s) (bytes-placed s _ (bytes-in b))

pub long-unshift : (s : List ℕ) → length (unshift_rows s) ≡ 16
unfolding unshift_rows placed
long-unshift s = refl

pub block-unshift : {s : List ℕ} → Block s → Block (unshift_rows s)
unfolding unshift_rows
block-unshift {s} b = shape (unshift_rows s) (long-unshift s) (bytes-placed s _ (bytes-in b))

-- ---- the columns, by any matrix
module _ (p q r t : ℕ) where
  pub long-columns : {s : List ℕ} → Block s → length (columns p q r t s) ≡ 16
  unfolding columns
  long-columns (block h) = refl

  bytes-columns : (s : List ℕ) → Bytes s → Bytes (columns p q r t s)
  unfolding columns
  bytes-columns [] h = tt
  bytes-columns (a ∷ []) h = tt
  bytes-columns (a ∷ b ∷ []) h = tt
  bytes-columns (a ∷ b ∷ c ∷ []) h = tt
  bytes-columns (a ∷ b ∷ c ∷ d ∷ s) (ha, (hb, (hc, (hd, hs)))) =
      let one : (i j k l : ℕ) → cell i j k l a b c d < 256 = λ i j k l. cell-low i j k l ha hb hc hd in
      (one p q r t, (one t p q r, (one r t p q, (one q r t p, bytes-columns s hs))))

  pub block-columns : {s : List ℕ} → Block s → Block (columns p q r t s)
  block-columns {s} b = shape (columns p q r t s) (long-columns b) (bytes-columns s (bytes-in b))

pub block-mix : {s : List ℕ} → Block s → Block (mix_columns s)
unfolding mix_columns
block-mix b = block-columns 2 3 1 1 b

pub block-unmix : {s : List ℕ} → Block s → Block (unmix_columns s)
unfolding unmix_columns
block-unmix b = block-columns 14 11 13 9 b

-- the round key of a round
pub long-key : (r : ℕ) (w : List ℕ) → length w ≡ 240 → r ≤ 14 → length (round_key r w) ≡ 16
unfolding round_key
long-key r w h l = simp (length-take, length-drop) (omega arith)

pub block-key : (r : ℕ) {w : List ℕ} → Sized 240 w → r ≤ 14 → Block (round_key r w)
unfolding round_key
block-key r {w} h l =
    shape (take 16 (drop (16 * r) w)) (long-key r w h.long l)
    (bytes_take 16 (drop (16 * r) w) (bytes_drop (16 * r) w h.low))

pub block-rounds : (n : ℕ) {w s : List ℕ} → Sized 240 w → n ≤ 13 → Block s → Block (rounds n w s)
unfolding rounds
block-rounds zero k l b = b
block-rounds (suc n) k l b =
    block-add (block-mix (block-shift (block-sub (block-rounds n k (omega arith) b))))
    (block-key (suc n) k (omega arith))
