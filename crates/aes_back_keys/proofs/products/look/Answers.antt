-- `aes_back_keys::products::look` meets its contract. Assumes nothing.
use Rattle.aes_back_keys.proofs.Doubling.{look-law}
use Rattle.aes_back_keys.proofs.products.look.Goals as goal

pub returns : goal.returns
returns c =
    look-law c.args.a c.double-b.result c.double-c.result c.double-d.result
    c.requires c.double-b.ensures c.double-c.ensures c.double-d.ensures
