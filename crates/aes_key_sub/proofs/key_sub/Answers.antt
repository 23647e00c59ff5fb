-- `aes_key_sub::key_sub` meets its contract. Assumes nothing.
use Rattle.aes_key_sub.proofs.Table.{substitutes}
use Rattle.aes_key_sub.proofs.key_sub.Goals as goal

pub returns : goal.returns
returns c = rw c.from.ensures (substitutes c.args.x c.ranges.x.fits)
