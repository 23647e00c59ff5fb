-- The register's step is linear: the step of a sum, digit by digit, is the sum of the steps. All of it holds for every polynomial.
-- Assumes nothing.
use mathlib.Core.Path.{◌≡◌, refl, sym, ap, ap₂, ◌∙◌}
use Prim.Native.Nat.{ℕ, zero, suc, ◌+◌, ◌*◌, ◌/◌, ◌%◌, ◌^◌, ◌<◌}
use native.Mathlib.Nat.{le_of_suc-le-suc, not-suc-le-zero, mod-lt, zero-lt-suc, mul-div_cancel, mul-mod_left, mul-one, mul_assoc, pow-suc, suc-add, zero-add}
use native.Mathlib.Omega.{arith}
use lib.Pow.{pow_pos, split}
use lib.Bits.{bit_xor, differ, xor_zero_r, xor_self, xor_shifted}
use Rattle.crc.specs.Crc.{when, clock, clocks}
use Rattle.crc.proofs.Xor.{xor-swap, xor_low, xor-half}

two_pos : zero < 2
two_pos = zero-lt-suc 1

when-differ : (p x y : ℕ) → x < 2 → y < 2 → when (differ x y) p ≡ bit_xor (when x p) (when y p)
when-differ p zero y hx hy = refl
when-differ p (suc x) zero hx hy = sym (xor_zero_r p)
when-differ p (suc zero) (suc zero) hx hy = sym (xor_self p)
when-differ p (suc zero) (suc (suc y)) hx hy = absurd (not-suc-le-zero (le_of_suc-le-suc (le_of_suc-le-suc hy)))
when-differ p (suc (suc x)) (suc y) hx hy = absurd (not-suc-le-zero (le_of_suc-le-suc (le_of_suc-le-suc hx)))

pub clock-xor : (p a b : ℕ) → clock p (bit_xor a b) ≡ bit_xor (clock p a) (clock p b)
unfolding clock
clock-xor p a b =
    ap₂ (λ (x y : ℕ). bit_xor x (when y p)) (xor-half a b) (xor_low a b)
    ∙ ap (bit_xor (bit_xor (a / 2) (b / 2))) (when-differ p (a % 2) (b % 2) (mod-lt a two_pos) (mod-lt b two_pos))
    ∙ xor-swap (a / 2) (b / 2) (when (a % 2) p) (when (b % 2) p)

pub clocks-xor : (p n a b : ℕ) → clocks p n (bit_xor a b) ≡ bit_xor (clocks p n a) (clocks p n b)
unfolding clocks
clocks-xor p zero a b = refl
clocks-xor p (suc n) a b = ap (clocks p n) (clock-xor p a b) ∙ clocks-xor p n (clock p a) (clock p b)

pub clocks-add : (p m n c : ℕ) → clocks p (m + n) c ≡ clocks p n (clocks p m c)
unfolding clocks
clocks-add p zero n c = ap (λ (k : ℕ). clocks p k c) (zero-add n)
clocks-add p (suc m) n c = ap (λ (k : ℕ). clocks p k c) (suc-add m n) ∙ clocks-add p m n (clock p c)

-- no digit falls out of an even number
clock-even : (p h : ℕ) → clock p (h * 2) ≡ h
unfolding clock
clock-even p h =
    ap₂ (λ (x y : ℕ). bit_xor x (when y p)) (mul-div_cancel h two_pos) (mul-mod_left h 2) ∙ xor_zero_r h

pub clocks-even : (p k h : ℕ) → clocks p k (h * 2 ^ k) ≡ h
unfolding clocks
clocks-even p zero h = mul-one h
clocks-even p (suc k) h =
    ap (λ (x : ℕ). clocks p k (clock p x)) (ap (λ (x : ℕ). h * x) (pow-suc 2 k) ∙ sym (mul_assoc h (2 ^ k) 2))
    ∙ ap (clocks p k) (clock-even p (h * 2 ^ k)) ∙ clocks-even p k h

-- the k low digits are stepped by themselves, and the rest are k steps ahead
pub clocks-split : (p k n c : ℕ) → clocks p (k + n) c ≡ bit_xor (clocks p n (c / 2 ^ k)) (clocks p (k + n) (c % 2 ^ k))
clocks-split p k n c =
    ap (clocks p (k + n)) (sym (split c k) ∙ sym (xor_shifted (c / 2 ^ k) k (c % 2 ^ k) (mod-lt c (pow_pos k))))
    ∙ clocks-xor p (k + n) (c / 2 ^ k * 2 ^ k) (c % 2 ^ k)
    ∙ ap (λ (x : ℕ). bit_xor x (clocks p (k + n) (c % 2 ^ k)))
    (clocks-add p k n (c / 2 ^ k * 2 ^ k) ∙ ap (clocks p n) (clocks-even p k (c / 2 ^ k)))

-- a table of 256 entries steps a byte: the rest of the register moves down by eight
pub byte_step : (p c : ℕ) → clocks p 8 c ≡ bit_xor (c / 256) (clocks p 8 (c % 256))
unfolding clocks
byte_step p c = clocks-split p 8 0 c

-- a byte is looked up by itself, whatever stands above it
peel : (p m n w : ℕ) → m ≡ 8 + n → clocks p m w ≡ bit_xor (clocks p n (w / 256)) (clocks p m (w % 256))
peel p m n w e = rw e (clocks-split p 8 n w)

-- four bytes, each looked up by itself, at k and the three places behind it: r₀ is the highest byte's entry
pub word-of-bytes : (p w k d : ℕ) {x₀ x₁ x₂ x₃ r₀ r₁ r₂ r₃ : ℕ}
    → x₀ ≡ w / 256 / 256 / 256 → x₁ ≡ w / 256 / 256 % 256 → x₂ ≡ w / 256 % 256 → x₃ ≡ w % 256
    → r₀ ≡ clocks p (8 * (k + d)) x₀ → r₁ ≡ clocks p (8 * (k + 1 + d)) x₁ → r₂ ≡ clocks p (8 * (k + 2 + d)) x₂ → r₃ ≡ clocks p (8 * (k + 3 + d)) x₃
    → bit_xor (bit_xor (bit_xor r₀ r₁) r₂) r₃ ≡ clocks p (8 * (k + (3 + d))) w
word-of-bytes p w k d a₀ a₁ a₂ a₃ e₀ e₁ e₂ e₃ =
    let n₀ = 8 * (k + d) in
    let n₁ = 8 * (k + 1 + d) in
    let n₂ = 8 * (k + 2 + d) in
    let n₃ = 8 * (k + 3 + d) in
    let all : n₃ ≡ 8 * (k + (3 + d)) = omega arith in
    ap₂ bit_xor
    (ap₂ bit_xor
    (ap₂ bit_xor (e₀ ∙ ap (clocks p n₀) a₀) (e₁ ∙ ap (clocks p n₁) a₁) ∙ sym (peel p n₁ n₀ (w / 256 / 256) (omega arith)))
    (e₂ ∙ ap (clocks p n₂) a₂)
    ∙ sym (peel p n₂ n₁ (w / 256) (omega arith)))
    (e₃ ∙ ap (clocks p n₃) a₃)
    ∙ sym (peel p n₃ n₂ w (omega arith))
    ∙ ap (λ (n : ℕ). clocks p n w) all
