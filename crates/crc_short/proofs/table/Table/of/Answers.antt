-- `crc_short::Table::of` meets its contract: each table passes the test, which antt computes. Assumes nothing.
use Rattle.crc_short.proofs.HalvesTest.{right}
use Rattle.crc_short.proofs.table.Table.of.Goals as goal
use Rattle.crc_short.proofs.table.Table.of.Goals.{in-Ieee, in-Castagnoli}

pub invariant_of-result : goal.invariant_of-result
invariant_of-result c =
    elim c.match-kind.branch [
      | in-Ieee w ↦ rw w.result-is (record { right = right (record { long = tt; lower = tt; upper = tt; rows = tt }) })
      | in-Castagnoli w ↦ rw w.result-is (record { right = right (record { long = tt; lower = tt; upper = tt; rows = tt }) })
    ]
