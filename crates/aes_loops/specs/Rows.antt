-- A column, gathered row by row. Assumes nothing.
use Rattle.std.specs.Prelude.{ℕ, zero, suc, ◌-◌, ◌%◌, List, get_or}
use Rattle.wire.specs.Bytes.{bytes, part}
use Rattle.aes.specs.Aes.{add}
use Rattle.aes.specs.Words.{turn_list}

-- turned by n bytes
abbrev pub turns : ℕ → List ℕ → List ℕ
turns zero l = l
turns (suc n) l = turn_list (turns n l)

-- of the eight bytes of w, four: those from byte 4 - r on, and with r 0 from byte 0 on
abbrev pub ending : ℕ → ℕ → List ℕ
ending w r = part (bytes 8 w) ((4 - r) % 4) 4

-- k and what f makes of the first r bytes of a row, each turned by its place
abbrev pub sums : (ℕ → List ℕ) → List ℕ → List ℕ → ℕ → List ℕ
sums f row k zero = k
sums f row k (suc r) = add (sums f row k r) (turns r (f (get_or row r 0)))
