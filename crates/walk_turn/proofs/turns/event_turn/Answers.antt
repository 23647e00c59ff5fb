-- An event of kind 1 is one of kind 6 with time 0 and timeout 0. Assumes nothing.
use Rattle.walk_turn.specs.Turn.{lines_of, after_event}
use Rattle.walk_turn.proofs.turns.event_turn.Goals as goal

pub returns-in-Ask : goal.returns-in-Ask
unfolding lines_of after_event
returns-in-Ask c =
    let h = c.ask_turn.ensures in
    rw c.in-Ask.is (record { table = h.table; lines = h.lines })
