-- `crc_short::Table::one` meets its contract: a byte's step. Assumes nothing.
use mathlib.Core.Path.{sym, ap, ◌∙◌}
use Prim.Native.Nat.{◌/◌}
use lib.Bits.{bit_xor}
use Rattle.crc.specs.Crc.{reflected, clocks, feed}
use Rattle.crc.proofs.Register.{byte_step}
use Rattle.crc_short.proofs.table.Table.one.Goals as goal

pub returns : goal.returns
unfolding feed
returns c =
    let p = reflected c.args.self.kind in
    let w = bit_xor c.args.c c.from.result in
    ap (bit_xor (w / 256)) c.look.ensures ∙ sym (byte_step p w) ∙ ap (λ x. clocks p 8 (bit_xor c.args.c x)) c.from.ensures
