-- `aes_back_keys::products::double` meets its contract. Assumes nothing.
use Rattle.aes_back_keys.proofs.Doubling.{double-low, double-high}
use Rattle.aes_back_keys.proofs.products.double.Goals as goal

pub returns-then-a-lt128 : goal.returns-then-a-lt128
returns-then-a-lt128 c = double-low c.args.a c.if-a-lt128.true

pub returns : goal.returns
returns c = double-high c.args.a c.if-a-lt128.false c.requires
