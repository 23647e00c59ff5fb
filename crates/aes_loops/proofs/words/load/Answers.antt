-- `aes_loops::words::load` meets its contract. Assumes nothing.
use Rattle.std.proofs.Common.{◌∙◌, arith}
use lib.Seq.{take_all}
use Rattle.aes.specs.Words.{bytes_of}
use Rattle.aes_loops.proofs.Stores.{block_read}
use Rattle.aes_loops.proofs.words.load.Goals as goal

pub returns : goal.returns
unfolding bytes_of
returns c =
    let b = c.args.b.now in
    block_read b 0 _ _ _ _ c.word_at.ensures c.word_at-2.ensures c.word_at-3.ensures c.word_at-4.ensures
    ∙ take_all 16 b (omega arith)
