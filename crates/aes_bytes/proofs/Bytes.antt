-- What is computed at each byte. Assumes nothing.
use mathlib.Core.Path.{◌≡◌, refl}
use Prim.Native.Nat.{ℕ, ◌<◌}
use lib.Dec.{eqb}
use lib.Bits.{bit_xor}
use Rattle.wire.specs.Choice.{pick}
use Rattle.aes.specs.Field.{xtime, times, mul, powers, inverse, turn, affine, unaffine, sbox, unsbox}
use Rattle.aes.proofs.Computed.{byte-test}

-- 4.2: a byte but 0 times its inverse is 1; 5.1.1: 0, which has none, stays 0
pub inverse-is : (b : ℕ) → b < 256 → mul b (inverse b) ≡ pick (eqb b 0) 0 1
unfolding inverse powers mul times xtime
inverse-is = byte-test (λ b. mul b (inverse b)) (λ b. pick (eqb b 0) 0 1) tt

pub inverse-of-0 : inverse 0 ≡ 0
unfolding inverse powers mul times xtime
inverse-of-0 = refl

-- 5.3.2: InvSubBytes undoes SubBytes
pub unsbox-sbox : (b : ℕ) → b < 256 → unsbox (sbox b) ≡ b
unfolding unsbox unaffine sbox affine turn inverse powers mul times xtime
unsbox-sbox = byte-test (λ b. unsbox (sbox b)) (λ b. b) tt

-- four terms
abbrev pub four : ℕ → ℕ → ℕ → ℕ → ℕ
four x y z w = bit_xor x (bit_xor y (bit_xor z w))

-- ---- MixColumns: what a byte of the column comes to after both matrices, by its distance
pub same : (a : ℕ) → a < 256 → four (mul (mul a 2) 14) (mul (mul a 1) 11) (mul (mul a 1) 13) (mul (mul a 3) 9) ≡ a
unfolding mul times xtime
same = byte-test (λ a. four (mul (mul a 2) 14) (mul (mul a 1) 11) (mul (mul a 1) 13) (mul (mul a 3) 9)) (λ a. a) tt

pub one : (a : ℕ) → a < 256 → four (mul (mul a 3) 14) (mul (mul a 2) 11) (mul (mul a 1) 13) (mul (mul a 1) 9) ≡ 0
unfolding mul times xtime
one = byte-test (λ a. four (mul (mul a 3) 14) (mul (mul a 2) 11) (mul (mul a 1) 13) (mul (mul a 1) 9)) (λ a. 0) tt

pub two : (a : ℕ) → a < 256 → four (mul (mul a 1) 14) (mul (mul a 3) 11) (mul (mul a 2) 13) (mul (mul a 1) 9) ≡ 0
unfolding mul times xtime
two = byte-test (λ a. four (mul (mul a 1) 14) (mul (mul a 3) 11) (mul (mul a 2) 13) (mul (mul a 1) 9)) (λ a. 0) tt

pub three : (a : ℕ) → a < 256 → four (mul (mul a 1) 14) (mul (mul a 1) 11) (mul (mul a 3) 13) (mul (mul a 2) 9) ≡ 0
unfolding mul times xtime
three = byte-test (λ a. four (mul (mul a 1) 14) (mul (mul a 1) 11) (mul (mul a 3) 13) (mul (mul a 2) 9)) (λ a. 0) tt
