-- `aes_loops::words::both` meets its contract. Assumes nothing.
use Rattle.aes.specs.Words.{bytes_of}
use Rattle.aes_loops.proofs.Stores.{block-added}
use Rattle.aes_loops.proofs.words.both.Goals as goal

pub returns : goal.returns
unfolding bytes_of
returns c =
    let a = c.args in block-added a.p a.v
