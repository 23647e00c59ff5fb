-- Four registers, eight bytes apart, that together stand for one: each joins where its bytes begin. Assumes nothing.
use Rattle.std.specs.Prelude.{List, ℕ, drop}
use Rattle.std.specs.Int.Bits.{bit_xor}
use Rattle.wire.specs.Bytes.{part}
use Rattle.crc.specs.Crc.{feeds}
use Rattle.crc.specs.declared.Lanes.{Lanes}

-- the one register after the bytes s
unfoldable pub merged : ℕ → Lanes → List ℕ → ℕ
merged p r s =
    feeds p
    (bit_xor (feeds p (bit_xor (feeds p (bit_xor (feeds p r.first (part s 0 8)) r.second) (part s 8 8)) r.third) (part s 16 8)) r.fourth)
    (drop 24 s)
