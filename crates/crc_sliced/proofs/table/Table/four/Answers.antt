-- `crc_sliced::Table::four` meets its contract: the bytes of the number that they spell, each looked up by itself.
-- Assumes nothing.
use mathlib.Core.Path.{refl}
use native.Mathlib.Omega.{arith}
use Rattle.crc.specs.Crc.{reflected}
use Rattle.crc.proofs.Feeding.{four_bytes}
use Rattle.crc_sliced.proofs.table.Table.four.Goals as goal

pub returns : goal.returns
returns c =
    let b = c.args in
    four_bytes (reflected b.self.kind) b.w.now c.fits-w b.i b.k 25 (omega (arith, c.told-w, c.requires.i_in_bounds)) refl refl refl refl
    c.look.ensures c.look-2.ensures c.look-3.ensures c.look-4.ensures
