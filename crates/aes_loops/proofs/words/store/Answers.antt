-- `aes_loops::words::store` meets its contract. Assumes nothing.
use Rattle.std.proofs.Common.{◌≡◌, length, sym, ◌∙◌, rules}
use Rattle.aes.specs.Words.{bytes_of}
use Rattle.aes.proofs.Quads.{array-law, sixteen}
use Rattle.aes_loops.proofs.Stores.{block-stored}
use Rattle.aes_loops.proofs.words.store.Goals as goal

pub returns : goal.returns
unfolding bytes_of
returns c =
    let b = c.args.b.now in
    let s = c.args.s in
    let l : length b ≡ 16 = search rules in
    array-law b (bytes_of s) (l ∙ sym (sixteen s))
    (block-stored b 0 s.a s.b s.c s.d c.put_word.ensures c.put_word-2.ensures c.put_word-3.ensures c.put_word-4.ensures)
