-- `checksum::crc32c` meets its contract: a sum that continues from 0 is the sum. Assumes nothing.
use mathlib.Core.Path.{◌∙◌}
use Rattle.crc.specs.Crc.{reflected}
use Rattle.crc.specs.declared.Polynomial.TheVariants.{Castagnoli}
use Rattle.crc.proofs.Feeding.{update-none}
use Rattle.checksum.proofs.crc32c.Goals as goal

pub returns : goal.returns
returns c = c.continued.ensures ∙ update-none (reflected Castagnoli) c.args.s.now
