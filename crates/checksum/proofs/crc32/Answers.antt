-- `checksum::crc32` meets its contract: a sum that continues from 0 is the sum. Assumes nothing.
use mathlib.Core.Path.{◌∙◌}
use Rattle.crc.specs.Crc.{reflected}
use Rattle.crc.specs.declared.Polynomial.TheVariants.{Ieee}
use Rattle.crc.proofs.Feeding.{update-none}
use Rattle.checksum.proofs.crc32.Goals as goal

pub returns : goal.returns
returns c = c.continued.ensures ∙ update-none (reflected Ieee) c.args.s.now
