-- Values that FIPS 197 prints, computed from the definitions. Those of NIST SP 800-38A are run by the program
-- aes_check. Assumes nothing.
use Prim.Native.Nat.{ℕ}
use mathlib.Core.Path.{◌≡◌, refl}
use mathlib.Core.List.{List, [], ◌∷◌}
use Rattle.aes.specs.Field.{xtime, times, mul, powers, inverse, turn, affine, sbox, unaffine, unsbox}
use Rattle.aes.specs.Aes.{sub_bytes, placed, shift_rows, cell, columns, mix_columns, add, round_key, rounds, cipher}
use Rattle.aes.specs.Aes.{rcon, temp, next, grown, schedule, keys}
use Rattle.aes.specs.Aes.{unshift_rows, unsub_bytes, unmix_columns, unrounds, decipher}
use Rattle.aes.proofs.Computed.{same-list}

-- 4.2: {57} times {83} is {c1}
product : mul 0x57 0x83 ≡ 0xc1
unfolding mul times xtime
product = refl

-- 5.1.1: {53} goes to {ed}
substitute : sbox 0x53 ≡ 0xed
unfolding sbox affine turn inverse powers mul times xtime
substitute = refl

-- figure 14: and back
restored : unsbox 0xed ≡ 0x53
unfolding unsbox unaffine turn inverse powers mul times xtime
restored = refl

-- ---- C.3: key, clear block and ciphered block

abbrev key : List ℕ
key =
    0x00 ∷ 0x01 ∷ 0x02 ∷ 0x03 ∷ 0x04 ∷ 0x05 ∷ 0x06 ∷ 0x07 ∷ 0x08 ∷ 0x09 ∷ 0x0a ∷ 0x0b ∷ 0x0c ∷ 0x0d ∷ 0x0e ∷ 0x0f ∷
    0x10 ∷ 0x11 ∷ 0x12 ∷ 0x13 ∷ 0x14 ∷ 0x15 ∷ 0x16 ∷ 0x17 ∷ 0x18 ∷ 0x19 ∷ 0x1a ∷ 0x1b ∷ 0x1c ∷ 0x1d ∷ 0x1e ∷ 0x1f ∷ []

abbrev plain : List ℕ
plain =
    0x00 ∷ 0x11 ∷ 0x22 ∷ 0x33 ∷ 0x44 ∷ 0x55 ∷ 0x66 ∷ 0x77 ∷ 0x88 ∷ 0x99 ∷ 0xaa ∷ 0xbb ∷ 0xcc ∷ 0xdd ∷ 0xee ∷ 0xff ∷ []

abbrev ciphered : List ℕ
ciphered =
    0x8e ∷ 0xa2 ∷ 0xb7 ∷ 0xca ∷ 0x51 ∷ 0x67 ∷ 0x45 ∷ 0xbf ∷ 0xea ∷ 0xfc ∷ 0x49 ∷ 0x90 ∷ 0x4b ∷ 0x49 ∷ 0x60 ∷ 0x89 ∷ []

enciphers : cipher (keys key) plain ≡ ciphered
unfolding cipher rounds round_key keys schedule grown next temp rcon mix_columns columns cell shift_rows placed sub_bytes
    add sbox affine turn inverse powers mul times xtime
enciphers = same-list (cipher (keys key) plain) ciphered tt

-- the inverse cipher
deciphers : decipher (keys key) ciphered ≡ plain
unfolding decipher unrounds round_key keys schedule grown next temp rcon unmix_columns columns cell unshift_rows placed
    unsub_bytes sub_bytes add unsbox unaffine sbox affine turn inverse powers mul times xtime
deciphers = same-list (decipher (keys key) ciphered) plain tt
