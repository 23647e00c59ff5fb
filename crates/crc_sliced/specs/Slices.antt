-- What a table of whole bytes holds: at 256 k + x, what 8 (k + 25) bits make of the byte x, that is, the byte and the 24 + k
-- bytes behind it: those of its own eight bytes, and those of the three other registers. Assumes nothing.
use Rattle.std.specs.Prelude.{◌≡◌, List, ℕ, ◌+◌, ◌*◌, ◌<◌, get_or}
use Rattle.crc.specs.Crc.{clocks}

pub record Slices (p : ℕ) (t : List ℕ) : Type 0 where
  pub at : (k x : ℕ) → k < 8 → x < 256 → get_or t (k * 256 + x) 0 ≡ clocks p (8 * (k + 25)) x
