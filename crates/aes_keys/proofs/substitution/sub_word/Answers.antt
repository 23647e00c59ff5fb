-- `aes_keys::substitution::sub_word` meets its contract. Assumes nothing.
use Rattle.aes.specs.Words.{bytes4}
use Rattle.aes_keys.proofs.substitution.sub_word.Goals as goal

pub returns : goal.returns
unfolding bytes4
returns c = c.gathered.ensures
