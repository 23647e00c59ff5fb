-- `crc_short::Table::joined` meets its contract: each run ends where the next register joins. Assumes nothing.
use Rattle.crc.specs.Crc.{reflected}
use Rattle.crc.proofs.Joining.{merged-is}
use Rattle.crc_short.proofs.table.Table.joined.Goals as goal

pub returns : goal.returns
returns c =
    let b = c.args in
    merged-is (reflected b.self.kind) b.r b.s.now c.min-x.ensures c.min-y.ensures c.min-z.ensures
    c.run.ensures c.run-2.ensures c.run-3.ensures c.run-4.ensures
