-- `aes_back_keys::rounds::unmix` meets its contract. Assumes nothing.
use Rattle.aes.specs.Words.{bytes_of}
use Rattle.aes_back_keys.proofs.Laws.{unmix-law}
use Rattle.aes_back_keys.proofs.rounds.unmix.Goals as goal

pub returns : goal.returns
unfolding bytes_of
returns c =
    let a = c.args.q in
    unmix-law a.a a.b a.c a.d c.unmix4.ensures
    c.unmix4-2.ensures c.unmix4-3.ensures c.unmix4-4.ensures
