-- Where there is no event no call is made. Assumes nothing.
use Rattle.std.proofs.Common.{refl}
use Rattle.refusal.specs.Numbers.{number}
use Rattle.walk_turn.specs.Turn.{lines_of, after_event}
use Rattle.walk_turn.proofs.turns.lines_turn.Goals as goal

pub returns-in-Err : goal.returns-in-Err
unfolding lines_of after_event number
returns-in-Err c = rw c.in-Err.is (record { table = refl; lines = c.refused.ensures })
