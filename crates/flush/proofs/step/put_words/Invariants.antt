-- The words that are there. Assumes nothing.
use Rattle.std.proofs.Common.{◌≡◌}
use lib.Seq.{sets}
use Rattle.packet_padding.specs.Padding.{fours_of}
use Rattle.flush.proofs.step.put_words.Given as goal

abbrev pub invariant-loop-word : goal.invariant-loop-word
invariant-loop-word l = l.buf ≡ sets l.initial.buf 0 (fours_of l.word)
