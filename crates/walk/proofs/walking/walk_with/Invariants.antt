-- A walk with room for the lines of one event: what it has done so far is `Came`; each turn and each way out add to it.
-- Assumes nothing.
use Rattle.std.proofs.Common.{◌-◌}
use Rattle.walk.proofs.WalkLaws.{Came}
use Rattle.walk.proofs.walking.walk_with.Given as goal

abbrev pub invariant-loop : goal.invariant-loop
invariant-loop l =
    Came l.initial.table l.events l.initial.out l.last l.table l.at l.to (l.end - l.counter) l.out
