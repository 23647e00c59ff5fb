-- `checksum::continued` meets its contract: inverted at both ends. Assumes nothing.
use mathlib.Core.Path.{ap}
use Rattle.crc.specs.Crc.{update, inverted}
use Rattle.checksum.proofs.continued.Goals as goal

pub returns : goal.returns
unfolding update
returns c = ap inverted c.fed.ensures
