-- `crc_short::Table::step` meets its contract: the four bytes behind, and the four that meet the register. Assumes nothing.
use mathlib.Core.Path.{refl, ap, ◌∙◌}
use native.Mathlib.Omega.{arith}
use lib.Bits.{bit_xor}
use lib.Seq.{take_all}
use Rattle.crc.specs.Crc.{reflected, feeds}
use Rattle.crc.proofs.Feeding.{front-word, last_word}
use Rattle.crc_short.proofs.table.Table.step.Goals as goal

pub returns : goal.returns
returns c =
    let p = reflected c.args.self.kind in
    let s = c.args.s.now in
    let h = c.fits-s in
    let a = last_word p s h 4 (omega (arith, c.told-s)) c.u32_at.ensures c.word.ensures in
    front-word p s h c.args.c 0 4 4 (omega (arith, c.told-s)) refl refl a (ap (bit_xor c.args.c) c.u32_at-2.ensures) c.word-2.ensures
    ∙ ap (feeds p c.args.c) (take_all 8 s (omega (arith, c.told-s)))
