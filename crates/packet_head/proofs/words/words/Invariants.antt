-- The words that stand in front so far. Assumes nothing.
use Rattle.packet_head.proofs.WordLaws.{AllWords}
use Rattle.packet_head.proofs.words.words.Given as goal

abbrev pub invariant-loop-i : goal.invariant-loop-i
invariant-loop-i l = AllWords l.bytes l.i
