-- `crc_short::Table::word` meets its contract: its bytes, each looked up by itself. Assumes nothing.
use mathlib.Core.Path.{◌≡◌, ap, ◌∙◌}
use mathlib.Core.List.{List}
use Prim.Native.Nat.{ℕ, ◌/◌, ◌%◌}
use native.Mathlib.Omega.{arith}
use lib.ListN.{get_or}
use Rattle.crc.specs.Crc.{reflected}
use Rattle.crc.proofs.Register.{word-of-bytes}
use Rattle.crc_short.proofs.table.Table.word.Goals as goal

pub returns : goal.returns
returns c =
    let b = c.args in
    let w = b.w in
    let e = c.to_le_bytes.ensures in
    let at = λ (i : ℕ). ap (λ (l : List ℕ). get_or l i 0) e in
    let d : w / 16777216 % 256 ≡ w / 256 / 256 / 256 = omega arith in
    let h : w / 65536 % 256 ≡ w / 256 / 256 % 256 = omega arith in
    word-of-bytes (reflected b.self.kind) w b.k 1 (at 3 ∙ d) (at 2 ∙ h) (at 1) (at 0)
    c.look.ensures c.look-2.ensures c.look-3.ensures c.look-4.ensures
