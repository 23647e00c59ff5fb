-- FIPS 197, section 4: a byte is an element of the field of 256 elements, bit i its coefficient of x^i; and the
-- substitution of one byte (5.1.1, 5.3.2). Sections, figures and equations have the numbers of the text of
-- November 2001, here and in the other files. Assumes nothing.
use Rattle.std.specs.Prelude.{ℕ, zero, suc, ◌+◌, ◌*◌, ◌/◌, ◌%◌}
use Rattle.std.specs.Int.Bits.{bit_xor}

-- 4.1: addition is `bit_xor`

-- p where the bit d is set, and 0 where it is not
abbrev pub when : ℕ → ℕ → ℕ
when zero p = zero
when (suc d) p = p

-- 4.2.1: times x, modulo x^8 + x^4 + x^3 + x + 1, of which 0x1b is what stands below x^8
unfoldable pub xtime : ℕ → ℕ
xtime a = bit_xor (a * 2 % 256) (when (a / 128 % 2) 0x1b)

-- 4.2.1: "Multiplication by higher powers of x can be implemented by repeated application of xtime()": a times the n
-- low bits of b
unfoldable pub times : ℕ → ℕ → ℕ → ℕ
times zero a b = 0
times (suc n) a b = bit_xor (when (b % 2) a) (times n (xtime a) (b / 2))

-- 4.2: the product
unfoldable pub mul : ℕ → ℕ → ℕ
mul a b = times 8 a b

-- a^2 a^4 .. a^(2^n)
unfoldable pub powers : ℕ → ℕ → ℕ
powers zero a = 1
powers (suc n) a = mul (mul a a) (powers n (mul a a))

-- 4.2: the multiplicative inverse, which is a^254 (`inverse-is`, aes_bytes); it takes 0 to 0, as 5.1.1 wants
unfoldable pub inverse : ℕ → ℕ
inverse a = powers 7 a

-- a byte turned left by one bit: bit i becomes bit i + 1, modulo 8
unfoldable pub turn : ℕ → ℕ
turn a = a * 2 % 256 + a / 128

-- 5.1.1, (5.1): bit i is the sum of the bits i, i + 7, i + 6, i + 5 and i + 4, modulo 8, and bit i of {63}
unfoldable pub affine : ℕ → ℕ
affine b =
    bit_xor b
    (bit_xor (turn b)
    (bit_xor (turn (turn b))
    (bit_xor (turn (turn (turn b)))
    (bit_xor (turn (turn (turn (turn b)))) 0x63))))

-- 5.1.1: the inverse, and then the affine step
unfoldable pub sbox : ℕ → ℕ
sbox b = affine (inverse b)

-- 5.3.2: the affine step back, as it follows from 5.1.1: bit i is the sum of the bits i + 7, i + 5 and i + 2, modulo
-- 8, and bit i of {05}
unfoldable pub unaffine : ℕ → ℕ
unaffine b = bit_xor (turn b) (bit_xor (turn (turn (turn b))) (bit_xor (turn (turn (turn (turn (turn (turn b)))))) 0x05))

-- 5.3.2: the affine step back, and then the inverse
unfoldable pub unsbox : ℕ → ℕ
unsbox b = inverse (unaffine b)
