-- The number that eight bytes spell. Assumes nothing.
use mathlib.Core.Path.{◌∙◌}
use mir.Syntax.{w64}
use Rattle.wire.proofs.SignLaws.{back}
use Rattle.walk_events.specs.Events.{front_number}
use Rattle.walk_events.proofs.events.front_number.Goals as goal

pub returns : goal.returns
unfolding front_number
returns c = rw (back w64 c.i64_at.result c.i64_at.type_inv ∙ c.i64_at.ensures)
