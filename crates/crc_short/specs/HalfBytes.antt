-- What a table of half bytes holds: at 32 k + j and at 32 k + 16 + j, what 8 (k + 1) bits make of j and of 16 j, so that the
-- two entries for the halves of a byte add up to the byte's. Assumes nothing.
use Rattle.std.specs.Prelude.{◌≡◌, List, ℕ, ◌+◌, ◌*◌, ◌/◌, ◌%◌, ◌<◌, get_or}
use Rattle.std.specs.Int.Bits.{bit_xor}
use Rattle.crc.specs.Crc.{clocks}

pub record Halves (p : ℕ) (t : List ℕ) : Type 0 where
  pub at : (k x : ℕ) → k < 8 → x < 256 → bit_xor (get_or t (k * 32 + x % 16) 0) (get_or t (k * 32 + 16 + x / 16) 0) ≡ clocks p (8 * (k + 1)) x
