-- Bytes fed to the register, many at once. All of it holds for every polynomial. Assumes nothing.
use mathlib.Core.Path.{◌≡◌, refl, sym, ap, ap₂, ◌∙◌}
use mathlib.Core.List.{List, [], ◌∷◌, ◌++◌}
use Prim.Native.Nat.{ℕ, suc, ◌+◌, ◌*◌, ◌^◌, ◌≤◌, ◌<◌}
use native.Mathlib.Nat.{add_comm, mul_comm, mul-suc}
use native.Mathlib.Omega.{arith}
use lib.ListN.{length, drop, get_or, length-drop, take-append-drop, drop_of_length-le}
use lib.Seq.{drop-drop, drop-cons, length-take-le}
use lib.Bits.{bit_xor, xor_comm, xor_zero_r, xor_self, xor_shifted}
use Rattle.wire.specs.Bytes.{le, part}
use Rattle.wire.proofs.ByteLaws.{Small, small-part, le-4, le_join, le-lt}
use Rattle.crc.specs.Crc.{clocks, feed, feeds, inverted, crc, update}
use Rattle.crc.proofs.Xor.{xor_assoc}
use Rattle.crc.proofs.Register.{clocks-xor, clocks-add, clocks-even, word-of-bytes}

-- bytes are one number, added to the register before its bits fall out
pub feeds-le : (p c : ℕ) (s : List ℕ) → Small s → feeds p c s ≡ clocks p (8 * length s) (bit_xor c (le s))
unfolding feeds feed clocks le
feeds-le p c [] h = sym (xor_zero_r c)
feeds-le p c (b ∷ s) h =
    let e : 256 * le s + b ≡ le s * 2 ^ 8 + b = ap (λ (x : ℕ). x + b) (mul_comm 256 (le s)) in
    let q : bit_xor (bit_xor c b) (le s * 2 ^ 8) ≡ bit_xor c (b + 256 * le s) =
    xor_assoc c b (le s * 2 ^ 8) ∙ ap (bit_xor c) (xor_comm b (le s * 2 ^ 8) ∙ xor_shifted (le s) 8 b (h 0) ∙ sym e ∙ add_comm (256 * le s) b) in
    let n : 8 + 8 * length s ≡ 8 * suc (length s) = add_comm 8 (8 * length s) ∙ sym (mul-suc 8 (length s)) in
    feeds-le p (clocks p 8 (bit_xor c b)) s (λ k. h (suc k))
    ∙ ap (λ (x : ℕ). clocks p (8 * length s) (bit_xor (clocks p 8 (bit_xor c b)) x)) (sym (clocks-even p 8 (le s)))
    ∙ ap (clocks p (8 * length s)) (sym (clocks-xor p 8 (bit_xor c b) (le s * 2 ^ 8)))
    ∙ sym (clocks-add p 8 (8 * length s) (bit_xor (bit_xor c b) (le s * 2 ^ 8)))
    ∙ ap₂ (clocks p) n q

pub feeds-append : (p c : ℕ) (s t : List ℕ) → feeds p c (s ++ t) ≡ feeds p (feeds p c s) t
unfolding feeds
feeds-append p c [] t = refl
feeds-append p c (b ∷ s) t = feeds-append p (feed p c b) s t

zero_xor : (x : ℕ) → bit_xor 0 x ≡ x
zero_xor x = xor_comm 0 x ∙ xor_zero_r x

-- an empty register adds nothing
pub zero-added : (x : ℕ) → x ≡ bit_xor 0 x
zero-added x = sym (zero_xor x)

-- a number of 32 bits, added to the register, and what stands above it
over : (p c lo hi n : ℕ) → lo < 2 ^ 32 → bit_xor (clocks p n hi) (clocks p (32 + n) (bit_xor c lo)) ≡ clocks p (32 + n) (bit_xor c (lo + 4294967296 * hi))
over p c lo hi n f =
    let e : bit_xor (hi * 2 ^ 32) (bit_xor c lo) ≡ bit_xor c (lo + 4294967296 * hi) =
    xor_comm (hi * 2 ^ 32) (bit_xor c lo) ∙ xor_assoc c lo (hi * 2 ^ 32)
    ∙ ap (bit_xor c) (xor_comm lo (hi * 2 ^ 32) ∙ xor_shifted hi 32 lo f ∙ add_comm (hi * 2 ^ 32) lo ∙ ap (λ (x : ℕ). lo + x) (mul_comm hi 4294967296)) in
    ap (λ (x : ℕ). bit_xor x (clocks p (32 + n) (bit_xor c lo))) (sym (clocks-add p 32 n (hi * 2 ^ 32) ∙ ap (clocks p n) (clocks-even p 32 hi)))
    ∙ sym (clocks-xor p (32 + n) (hi * 2 ^ 32) (bit_xor c lo))
    ∙ ap (clocks p (32 + n)) e

-- ---- slicing: the places i, i + 4, .. of the bytes s

module _ (p : ℕ) (s : List ℕ) (h : Small s) where
  pub part-le : (c i k : ℕ) → i + k ≤ length s → feeds p c (part s i k) ≡ clocks p (8 * k) (bit_xor c (le (part s i k)))
  part-le c i k f =
      let l : length (part s i k) ≡ k = length-take-le k (drop i s) (rw length-drop (omega arith)) in
      feeds-le p c (part s i k) (small-part s i k h) ∙ ap (λ (n : ℕ). clocks p (8 * n) (bit_xor c (le (part s i k)))) l

  -- the last four bytes, with nothing left in the register
  pub last_word : (i : ℕ) {w r : ℕ} → i + 4 ≤ length s → w ≡ le (part s i 4) → r ≡ clocks p (8 * (0 + 4)) w → r ≡ feeds p 0 (part s i 4)
  last_word i f e q = q ∙ ap (clocks p 32) (e ∙ sym (zero_xor (le (part s i 4)))) ∙ sym (part-le 0 i 4 f)

  -- four bytes in front of m others, whose sum a stands for
  pub front-word : (c i m k : ℕ) {j w a r : ℕ} → i + (4 + m) ≤ length s → j ≡ i + 4 → k ≡ m → a ≡ feeds p 0 (part s j m) → w ≡ bit_xor c (le (part s i 4)) → r ≡ clocks p (8 * (k + 4)) w
      → bit_xor a r ≡ feeds p c (part s i (4 + m))
  front-word c i m k {j} {w} {a} {r} f b d e q t =
      let n : 8 * (k + 4) ≡ 32 + 8 * m = omega arith in
      let n' : 32 + 8 * m ≡ 8 * (4 + m) = omega arith in
      let lo = le (part s i 4) in
      let hi = le (part s (i + 4) m) in
      let x : bit_xor c (lo + 4294967296 * hi) ≡ bit_xor c (le (part s i (4 + m))) = ap (bit_xor c) (sym (le_join s i 4 m (omega arith))) in
      ap₂ bit_xor
      (e ∙ ap (λ (i' : ℕ). feeds p 0 (part s i' m)) b ∙ part-le 0 (i + 4) m (omega arith) ∙ ap (clocks p (8 * m)) (zero_xor hi))
      (t ∙ ap₂ (clocks p) n q)
      ∙ over p c lo hi (8 * m) (le-lt s i 4 h)
      ∙ ap₂ (clocks p) n' x
      ∙ sym (part-le c i (4 + m) f)

  -- eight bytes and the register, as two words
  pub two-words : (c i n : ℕ) {w a r : ℕ} → i + 8 ≤ length s → a ≡ clocks p n (le (part s (i + 4) 4)) → w ≡ bit_xor c (le (part s i 4)) → r ≡ clocks p (32 + n) w
      → bit_xor a r ≡ clocks p (32 + n) (bit_xor c (le (part s i 8)))
  two-words c i n f e q t =
      ap₂ bit_xor e (t ∙ ap (clocks p (32 + n)) q)
      ∙ over p c (le (part s i 4)) (le (part s (i + 4) 4)) n (le-lt s i 4 h)
      ∙ ap (λ (x : ℕ). clocks p (32 + n) (bit_xor c x)) (sym (le_join s i 4 4 (omega arith)))

  -- four bytes, each looked up by itself
  pub four_bytes : (i k d : ℕ) {x₀ x₁ x₂ x₃ r₀ r₁ r₂ r₃ : ℕ} → i + 4 ≤ length s
      → x₀ ≡ get_or s (i + 3) 0 → x₁ ≡ get_or s (i + 2) 0 → x₂ ≡ get_or s (i + 1) 0 → x₃ ≡ get_or s i 0
      → r₀ ≡ clocks p (8 * (k + d)) x₀ → r₁ ≡ clocks p (8 * (k + 1 + d)) x₁ → r₂ ≡ clocks p (8 * (k + 2 + d)) x₂ → r₃ ≡ clocks p (8 * (k + 3 + d)) x₃
      → bit_xor (bit_xor (bit_xor r₀ r₁) r₂) r₃ ≡ clocks p (8 * (k + (3 + d))) (le (part s i 4))
  four_bytes i k d f a₀ a₁ a₂ a₃ =
      let w = le-4 s i f in
      let h₀ = h i in
      let h₁ = h (i + 1) in
      let h₂ = h (i + 2) in
      let h₃ = h (i + 3) in
      word-of-bytes p (le (part s i 4)) k d (omega arith) (omega arith) (omega arith) (omega arith)

-- one byte
pub one_byte : (p : ℕ) (s : List ℕ) (c i : ℕ) {r : ℕ} → i < length s → r ≡ feed p c (get_or s i 0) → r ≡ feeds p c (part s i 1)
unfolding feeds
one_byte p s c i f e = rw (drop-cons s i 0 f) e

-- what is added to the register falls through with the bytes
pub feeds-xor : (p c x : ℕ) (s : List ℕ) → Small s → bit_xor (feeds p c s) (clocks p (8 * length s) x) ≡ feeds p (bit_xor c x) s
feeds-xor p c x s h =
    ap (λ (y : ℕ). bit_xor y (clocks p (8 * length s) x)) (feeds-le p c s h)
    ∙ sym (clocks-xor p (8 * length s) (bit_xor c (le s)) x)
    ∙ ap (clocks p (8 * length s)) (xor_assoc c (le s) x ∙ ap (bit_xor c) (xor_comm (le s) x) ∙ sym (xor_assoc c x (le s)))
    ∙ sym (feeds-le p (bit_xor c x) s h)

-- ---- a loop over the bytes: what is still to be fed gives what the whole would

module _ (p : ℕ) (s : List ℕ) {whole : ℕ} where
  pub turn : (c i k : ℕ) {r : ℕ} → feeds p c (drop i s) ≡ whole → r ≡ feeds p c (part s i k) → feeds p r (drop (i + k) s) ≡ whole
  turn c i k e q =
      ap₂ (feeds p) q (sym (drop-drop k i s))
      ∙ sym (feeds-append p c (part s i k) (drop k (drop i s)))
      ∙ ap (feeds p c) (take-append-drop k (drop i s))
      ∙ e

  pub done : {c i : ℕ} → length s ≤ i → feeds p c (drop i s) ≡ whole → c ≡ whole
  unfolding feeds
  done {c} {i} h e = sym (ap (feeds p c) (drop_of_length-le s {i = i} h)) ∙ e

-- ---- inversion at both ends

twice : (x : ℕ) → inverted (inverted x) ≡ x
twice x = xor_assoc x 4294967295 4294967295 ∙ ap (bit_xor x) (xor_self 4294967295) ∙ xor_zero_r x

-- a sum in two parts is the sum of the whole
pub update-append : (p v : ℕ) (a b : List ℕ) → update p (update p v a) b ≡ update p v (a ++ b)
unfolding update
update-append p v a b = ap (λ (c : ℕ). inverted (feeds p c b)) (twice (feeds p (inverted v) a)) ∙ ap inverted (sym (feeds-append p (inverted v) a b))

-- a sum that continues from 0 is the sum
pub update-none : (p : ℕ) (s : List ℕ) → update p 0 s ≡ crc p s
unfolding update crc
update-none p s = refl

pub in_parts : (p : ℕ) (a b : List ℕ) → update p (crc p a) b ≡ crc p (a ++ b)
in_parts p a b = ap (λ (v : ℕ). update p v b) (sym (update-none p a)) ∙ update-append p 0 a b ∙ update-none p (a ++ b)
