-- One event of the relay walk (document 01, "Program: relay walk"), on any contents of the table: its lines, and the
-- table after it. Assumes nothing.
use Rattle.std.specs.Prelude.{ℕ, List, ℤ, pos, length, replicate, Result, Ok, Err}
use Rattle.inflight.specs.Calls.{ask, old_ask, reply, cancel, gone, run_out, table_heard, table_after}
use Rattle.inflight.specs.declared.Table.{Table}
use Rattle.walk_turn.specs.Lines.{call_lines, refused_line}
use Rattle.walk_turn.specs.declared.Event.{Event}
use Rattle.walk_turn.specs.declared.Event.TheVariants.{Ask, Reply, Cancel, Gone, AskBy, RunOut}
use Rattle.walk_turn.specs.declared.NoEvent.{NoEvent}

-- the slice that gone and run out are lent: two numbers for each of 64 requests
abbrev pub lent_slice : List ℤ
lent_slice = replicate 128 (pos 0)

-- the lines of an event: of its call on a table, and `no 35` where there is none. "Kind 6 prints as kind 1" (document
-- 02, A2), which is an old ask
unfoldable pub lines_of : Table → Result Event NoEvent → List ℕ
lines_of t (Ok (Ask l n p)) = call_lines (old_ask l n p) (table_heard t (old_ask l n p))
lines_of t (Ok (Reply p n)) = call_lines (reply p n) (table_heard t (reply p n))
lines_of t (Ok (Cancel l n)) = call_lines (cancel l n) (table_heard t (cancel l n))
lines_of t (Ok (Gone peer)) = call_lines (gone peer lent_slice) (table_heard t (gone peer lent_slice))
lines_of t (Ok (AskBy l n p time timeout)) =
    call_lines (ask l n p time timeout) (table_heard t (ask l n p time timeout))
lines_of t (Ok (RunOut time)) = call_lines (run_out time lent_slice) (table_heard t (run_out time lent_slice))
lines_of t (Err why) = refused_line 35

-- the table after an event
unfoldable pub after_event : Table → Result Event NoEvent → Table
after_event t (Ok (Ask l n p)) = table_after t (old_ask l n p)
after_event t (Ok (Reply p n)) = table_after t (reply p n)
after_event t (Ok (Cancel l n)) = table_after t (cancel l n)
after_event t (Ok (Gone peer)) = table_after t (gone peer lent_slice)
after_event t (Ok (AskBy l n p time timeout)) = table_after t (ask l n p time timeout)
after_event t (Ok (RunOut time)) = table_after t (run_out time lent_slice)
after_event t (Err why) = t

-- the table after an event, and the size of its lines
pub record Turned : Type 0 where
  pub table : Table
  pub size : ℕ

unfoldable pub turn_of : Table → Result Event NoEvent → Turned
turn_of t e = record { table = after_event t e; size = length (lines_of t e) }
