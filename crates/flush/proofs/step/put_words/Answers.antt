-- `flush::step::put_words` meets its contract. Assumes nothing.
use mathlib.Core.Path.{refl}
use Rattle.packet_padding.specs.Padding.{fours_of}
use Rattle.flush.proofs.FlushLaws.{one-more}
use Rattle.flush.proofs.step.put_words.Goals as goal

pub loop-word-init : goal.loop-word-init
unfolding fours_of
loop-word-init c = refl

pub loop-word-preserved : goal.loop-word-preserved
loop-word-preserved c = one-more _ _ c.loop-word.invariant c.put_u32.ensures
