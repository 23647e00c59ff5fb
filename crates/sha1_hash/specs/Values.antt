-- Values that NIST prints as examples of FIPS 180, computed from the definition. More are run by the program
-- keys_check. Assumes nothing.
use Rattle.std.specs.Prelude.{◌≡◌, [], ◌∷◌, refl}
use Rattle.wire.specs.Bytes.{le, bytes}
use Rattle.hash_blocks.specs.Words.{rotl}
use Rattle.hash_blocks.specs.Blocks.{length_bytes, zeros_for, fill_of, filled, chained, hashed}
use Rattle.sha1_hash.specs.Sha1.{word_of, longer, schedule, mixing, constant, step, steps, sum, compress, start}
use Rattle.sha1_hash.specs.Sha1.{digest, sha1}

-- of "abc"
sha1_abc : sha1 (97 ∷ 98 ∷ 99 ∷ []) ≡
    0xa9 ∷ 0x99 ∷ 0x3e ∷ 0x36 ∷ 0x47 ∷ 0x06 ∷ 0x81 ∷ 0x6a ∷ 0xba ∷ 0x3e ∷ 0x25 ∷ 0x71 ∷ 0x78 ∷ 0x50 ∷ 0xc2 ∷ 0x6c ∷
    0x9c ∷ 0xd0 ∷ 0xd8 ∷ 0x9d ∷ []
unfolding digest bytes le sha1 hashed chained start compress sum steps step constant mixing schedule longer word_of
    rotl filled fill_of zeros_for length_bytes
sha1_abc = refl

-- of the 448-bit message, so of two blocks
sha1_448 : sha1 (97 ∷ 98 ∷ 99 ∷ 100 ∷ 98 ∷ 99 ∷ 100 ∷ 101 ∷ 99 ∷ 100 ∷ 101 ∷ 102 ∷ 100 ∷ 101 ∷ 102 ∷ 103 ∷ 101 ∷
    102 ∷ 103 ∷ 104 ∷ 102 ∷ 103 ∷ 104 ∷ 105 ∷ 103 ∷ 104 ∷ 105 ∷ 106 ∷ 104 ∷ 105 ∷ 106 ∷ 107 ∷ 105 ∷ 106 ∷ 107 ∷
    108 ∷ 106 ∷ 107 ∷ 108 ∷ 109 ∷ 107 ∷ 108 ∷ 109 ∷ 110 ∷ 108 ∷ 109 ∷ 110 ∷ 111 ∷ 109 ∷ 110 ∷ 111 ∷ 112 ∷ 110 ∷
    111 ∷ 112 ∷ 113 ∷ []) ≡
    0x84 ∷ 0x98 ∷ 0x3e ∷ 0x44 ∷ 0x1c ∷ 0x3b ∷ 0xd2 ∷ 0x6e ∷ 0xba ∷ 0xae ∷ 0x4a ∷ 0xa1 ∷ 0xf9 ∷ 0x51 ∷ 0x29 ∷ 0xe5 ∷
    0xe5 ∷ 0x46 ∷ 0x70 ∷ 0xf1 ∷ []
unfolding digest bytes le sha1 hashed chained start compress sum steps step constant mixing schedule longer word_of
    rotl filled fill_of zeros_for length_bytes
sha1_448 = refl
