-- `wire::u16_at` meets its contract: the number that its bytes spell. Assumes nothing.
use Rattle.std.proofs.Common.{rules}
use mathlib.Core.Path.{◌∙◌}
use Rattle.wire.proofs.ByteLaws.{library_le}
use Rattle.wire.proofs.read.u16_at.Goals as goal

pub returns : goal.returns
returns c = c.from_le_bytes.ensures ∙ library_le c.bytes_at.result 1 (search rules) ∙ c.bytes_at.ensures
