-- `checksum_check::main` meets its contract: the published values hold. Assumes nothing.
use mathlib.Core.Path.{◌∙◌}
use Rattle.crc.proofs.CheckValues.{crc32-of-digits, crc32c-of-digits}
use Rattle.checksum_check.proofs.main.Goals as goal

pub prove-unreachable-requires : goal.prove-unreachable-requires
prove-unreachable-requires c = c.if-prove.true (c.crc32-ieee.ensures ∙ crc32-of-digits)

pub prove-unreachable-requires-2 : goal.prove-unreachable-requires-2
prove-unreachable-requires-2 c = c.if-prove-2.true (c.crc32c-castagnoli.ensures ∙ crc32c-of-digits)
