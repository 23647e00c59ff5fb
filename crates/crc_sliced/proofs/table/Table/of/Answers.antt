-- `crc_sliced::Table::of` meets its contract: each table passes the test, which antt computes. Assumes nothing.
use Rattle.crc_sliced.proofs.RowsTest.{right}
use Rattle.crc_sliced.proofs.table.Table.of.Goals as goal
use Rattle.crc_sliced.proofs.table.Table.of.Goals.{in-Ieee, in-Castagnoli}

pub invariant_of-result : goal.invariant_of-result
invariant_of-result c =
    elim c.match-kind.branch [
      | in-Ieee w ↦ rw w.result-is (record { right = right tt tt })
      | in-Castagnoli w ↦ rw w.result-is (record { right = right tt tt })
    ]
