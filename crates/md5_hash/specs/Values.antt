-- Values that RFC 1321 prints (A.5), computed from the definition. The rest of its list is run by the program
-- keys_check. Assumes nothing.
use Rattle.std.specs.Prelude.{◌≡◌, [], ◌∷◌, refl}
use Rattle.wire.specs.Bytes.{le, bytes}
use Rattle.hash_blocks.specs.Words.{rotl}
use Rattle.hash_blocks.specs.Blocks.{length_bytes, zeros_for, fill_of, filled, chained, hashed}
use Rattle.md5_hash.specs.Md5.{mixing, place, turn_of, step, steps, sum, compress, start, digest, md5}

-- of ""
md5_nothing : md5 [] ≡
    0xd4 ∷ 0x1d ∷ 0x8c ∷ 0xd9 ∷ 0x8f ∷ 0x00 ∷ 0xb2 ∷ 0x04 ∷ 0xe9 ∷ 0x80 ∷ 0x09 ∷ 0x98 ∷ 0xec ∷ 0xf8 ∷ 0x42 ∷ 0x7e ∷ []
unfolding digest bytes le md5 hashed chained start compress sum steps step turn_of place mixing rotl filled fill_of
    zeros_for length_bytes
md5_nothing = refl

-- of "abc"
md5_abc : md5 (97 ∷ 98 ∷ 99 ∷ []) ≡
    0x90 ∷ 0x01 ∷ 0x50 ∷ 0x98 ∷ 0x3c ∷ 0xd2 ∷ 0x4f ∷ 0xb0 ∷ 0xd6 ∷ 0x96 ∷ 0x3f ∷ 0x7d ∷ 0x28 ∷ 0xe1 ∷ 0x7f ∷ 0x72 ∷ []
unfolding digest bytes le md5 hashed chained start compress sum steps step turn_of place mixing rotl filled fill_of
    zeros_for length_bytes
md5_abc = refl

-- of 80 digits, so of two blocks
md5_digits : md5 (49 ∷ 50 ∷ 51 ∷ 52 ∷ 53 ∷ 54 ∷ 55 ∷ 56 ∷ 57 ∷ 48 ∷ 49 ∷ 50 ∷ 51 ∷ 52 ∷ 53 ∷ 54 ∷ 55 ∷ 56 ∷ 57 ∷
    48 ∷ 49 ∷ 50 ∷ 51 ∷ 52 ∷ 53 ∷ 54 ∷ 55 ∷ 56 ∷ 57 ∷ 48 ∷ 49 ∷ 50 ∷ 51 ∷ 52 ∷ 53 ∷ 54 ∷ 55 ∷ 56 ∷ 57 ∷ 48 ∷ 49 ∷
    50 ∷ 51 ∷ 52 ∷ 53 ∷ 54 ∷ 55 ∷ 56 ∷ 57 ∷ 48 ∷ 49 ∷ 50 ∷ 51 ∷ 52 ∷ 53 ∷ 54 ∷ 55 ∷ 56 ∷ 57 ∷ 48 ∷ 49 ∷ 50 ∷ 51 ∷
    52 ∷ 53 ∷ 54 ∷ 55 ∷ 56 ∷ 57 ∷ 48 ∷ 49 ∷ 50 ∷ 51 ∷ 52 ∷ 53 ∷ 54 ∷ 55 ∷ 56 ∷ 57 ∷ 48 ∷ []) ≡
    0x57 ∷ 0xed ∷ 0xf4 ∷ 0xa2 ∷ 0x2b ∷ 0xe3 ∷ 0xc9 ∷ 0x55 ∷ 0xac ∷ 0x49 ∷ 0xda ∷ 0x2e ∷ 0x21 ∷ 0x07 ∷ 0xb6 ∷ 0x7a ∷ []
unfolding digest bytes le md5 hashed chained start compress sum steps step turn_of place mixing rotl filled fill_of
    zeros_for length_bytes
md5_digits = refl
