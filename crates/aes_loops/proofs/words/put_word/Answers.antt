-- `aes_loops::words::put_word` meets its contract. Assumes nothing.
use Rattle.aes.specs.Words.{bytes4}
use Rattle.aes_loops.proofs.Stores.{below-1, below-2, below-3, word-stored}
use Rattle.aes_loops.proofs.words.put_word.Goals as goal

pub bounds-b-at-2 : goal.bounds-b-at-2
bounds-b-at-2 c = below-1 c.args.b.now c.args.at _ c.requires

pub bounds-b-at-3 : goal.bounds-b-at-3
bounds-b-at-3 c = below-2 c.args.b.now c.args.at _ _ c.requires

pub bounds-b-at-4 : goal.bounds-b-at-4
bounds-b-at-4 c = below-3 c.args.b.now c.args.at _ _ _ c.requires

pub returns : goal.returns
unfolding bytes4
returns c = word-stored c.args.b.now c.args.at _ _ _ _
