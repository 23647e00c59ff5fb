-- `aes_loops::words::word_at` meets its contract. Assumes nothing.
use Rattle.aes.proofs.Words.{read4}
use Rattle.aes_loops.proofs.words.word_at.Goals as goal

pub returns : goal.returns
returns c =
    rw (c.from.ensures, c.from-2.ensures, c.from-3.ensures, c.from-4.ensures)
    (read4 c.args.k.now c.args.at c.requires (λ j. (c.type_inv.k j).fits))
