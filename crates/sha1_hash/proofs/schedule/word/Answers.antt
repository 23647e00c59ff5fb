-- `sha1_hash::schedule::word` meets its contract. Assumes nothing.
use Rattle.std.proofs.Common.{◌∙◌, le-ltb, lt-ltb, lit<}
use Rattle.hash_blocks.proofs.Rotated.{rotated}
use Rattle.sha1_hash.specs.Sha1.{word_of}
use Rattle.sha1_hash.proofs.schedule.word.Goals as goal

pub returns-then-t-lt16 : goal.returns-then-t-lt16
unfolding word_of
returns-then-t-lt16 c = simp (lt-ltb _ _ c.if-t-lt16.true, c.high_word.ensures)

pub returns-else-t-lt16 : goal.returns-else-t-lt16
unfolding word_of
returns-else-t-lt16 c = simp (le-ltb _ _ c.if-t-lt16.false, c.rotate_left.ensures ∙ rotated _ 1 (lit< tt) (lit< tt))
