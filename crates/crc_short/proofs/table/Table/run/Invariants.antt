-- What is still to be fed gives what the whole would.
use mathlib.Core.Path.{◌≡◌}
use lib.ListN.{length, drop}
use Rattle.crc.specs.Crc.{reflected, feeds}
use Rattle.crc_short.proofs.table.Table.run.Given as goal

abbrev pub invariant-loop-eight : goal.invariant-loop-eight
invariant-loop-eight l = feeds (reflected l.self.kind) l.c l.rest ≡ feeds (reflected l.self.kind) l.from l.s

abbrev pub decreases-loop-eight : goal.decreases-loop-eight
decreases-loop-eight l = length l.rest

abbrev pub invariant-loop-b : goal.invariant-loop-b
invariant-loop-b l = feeds (reflected l.self.kind) l.c (drop l.b-index l.b-items) ≡ feeds (reflected l.self.kind) l.from l.s
