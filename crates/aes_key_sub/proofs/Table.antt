-- The table, held against the definition at each byte. Assumes nothing.
use Rattle.std.proofs.Common.{◌≡◌, ◌<◌, ℕ, get_or}
use Rattle.aes.specs.Field.{xtime, times, mul, powers, inverse, turn, affine, sbox}
use Rattle.aes.proofs.Computed.{byte-test}
use Rattle.aes_key_sub.specs.declared.TheConstants.{SUBSTITUTES}

pub substitutes : (b : ℕ) → b < 256 → get_or SUBSTITUTES b 0 ≡ sbox b
unfolding xtime times mul powers inverse turn affine sbox
substitutes = byte-test (λ b. get_or SUBSTITUTES b 0) sbox tt
