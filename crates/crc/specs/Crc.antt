-- The checksum of a packet, bit by bit, over the polynomial (document 01, "Packets"). Assumes nothing.
use Rattle.std.specs.Prelude.{List, [], ◌∷◌, ℕ, zero, suc, ◌/◌, ◌%◌}
use Rattle.std.specs.Int.Bits.{bit_xor}
use Rattle.crc.specs.declared.Polynomial.{Polynomial}
use Rattle.crc.specs.declared.Polynomial.TheVariants.{Ieee, Castagnoli}

-- "reflected polynomial 0xEDB88320 .., or CRC-32C (0x82F63B78, the same way)"
abbrev pub reflected : Polynomial → ℕ
reflected Ieee = 0xedb8_8320
reflected Castagnoli = 0x82f6_3b78

-- p where the bit is set, and nothing where it is not
abbrev pub when : ℕ → ℕ → ℕ
when zero p = zero
when (suc bit) p = p

-- one bit: the register moves down by one, and where the bit that fell out was set the polynomial is added
unfoldable pub clock : ℕ → ℕ → ℕ
clock p c = bit_xor (c / 2) (when (c % 2) p)

-- n bits
unfoldable pub clocks : ℕ → ℕ → ℕ → ℕ
clocks p zero c = c
clocks p (suc n) c = clocks p n (clock p c)

-- a byte: it is added to the low bits, and eight bits fall out
unfoldable pub feed : ℕ → ℕ → ℕ → ℕ
feed p c b = clocks p 8 (bit_xor c b)

-- the bytes, one after the other
unfoldable pub feeds : ℕ → ℕ → List ℕ → ℕ
feeds p c [] = c
feeds p c (b ∷ s) = feeds p (feed p c b) s

-- all 32 bits inverted
abbrev pub inverted : ℕ → ℕ
inverted c = bit_xor c 0xffff_ffff

-- the checksum of bytes: "start and final inversion of all bits"
unfoldable pub crc : ℕ → List ℕ → ℕ
crc p s = inverted (feeds p (inverted 0) s)

-- the checksum v of some bytes, continued over more of them
unfoldable pub update : ℕ → ℕ → List ℕ → ℕ
update p v s = inverted (feeds p (inverted v) s)
