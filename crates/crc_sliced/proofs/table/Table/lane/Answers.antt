-- `crc_sliced::Table::lane` meets its contract: the four bytes behind, and the four that meet the register.
-- Assumes nothing.
use mathlib.Core.Path.{ap}
use native.Mathlib.Omega.{arith}
use lib.Bits.{bit_xor}
use Rattle.crc.specs.Crc.{reflected}
use Rattle.crc.proofs.Feeding.{two-words}
use Rattle.crc_sliced.proofs.table.Table.lane.Goals as goal

pub returns : goal.returns
returns c =
    let b = c.args in
    two-words (reflected b.self.kind) b.w.now c.fits-w b.c b.i 224 (omega (arith, c.told-w, c.requires)) c.four.ensures (ap (bit_xor b.c) c.u32_at.ensures) c.word.ensures
