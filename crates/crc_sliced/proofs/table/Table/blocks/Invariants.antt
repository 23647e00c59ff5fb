-- The four registers stand for what the one would be, before the bytes that are left.
use mathlib.Core.Path.{◌≡◌}
use lib.ListN.{length}
use Rattle.wire.proofs.ByteLaws.{Small}
use Rattle.crc.specs.Crc.{reflected, feeds}
use Rattle.crc.specs.Interleaved.{merged}
use Rattle.crc_sliced.proofs.table.Table.blocks.Given as goal

abbrev pub invariant-loop-w : goal.invariant-loop-w
invariant-loop-w l = record { bytes : Small l.rest; same : merged (reflected l.self.kind) l.r l.rest ≡ feeds (reflected l.self.kind) l.from l.s }

abbrev pub decreases-loop-w : goal.decreases-loop-w
decreases-loop-w l = length l.rest
