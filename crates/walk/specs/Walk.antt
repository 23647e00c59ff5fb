-- The relay walk (document 01, "Program: relay walk"), on any contents of the table and any bytes, into a room of any
-- size. Assumes nothing.
use Rattle.std.specs.Prelude.{◌≡◌, ℕ, zero, suc, ◌+◌, ◌-◌, Bool, true, false, List, [], ◌++◌, eqb, ltb, length, drop}
use Rattle.std.proofs.lemmas.List.Edits.{sets}
use Rattle.wire.specs.Choice.{pick}
use Rattle.inflight.specs.declared.Table.{Table}
use Rattle.walk_turn.specs.Turn.{lines_of, after_event}
use Rattle.walk_events.specs.Events.{event_of, record_size, waits}
use Rattle.walk.specs.declared.Walked.{Walked}

-- how far a walk comes, and its text
pub record Outcome : Type 0 where
  pub table : Table
  pub consumed : ℕ
  pub text : List ℕ
  pub stopped : Bool

-- it comes no further
abbrev pub ends : Table → List ℕ → Bool → Outcome
ends t text stopped = record { table = t; consumed = 0; text = text; stopped = stopped }

-- what a walk goes on to do after some bytes and some text
unfoldable pub after : ℕ → List ℕ → Outcome → Outcome
after size text o = record { table = o.table; consumed = size + o.consumed; text = text ++ o.text; stopped = o.stopped }

-- a walk of at most `turns` events. With less room than 4,096 bytes, which the lines of any event fit, an event is
-- left, and so is one that waits; "`no 35` stops the walk"; else its call is made, its lines are written, and the
-- walk goes on behind it
unfoldable pub walk_from : ℕ → Table → List ℕ → ℕ → Bool → Outcome
walk_from zero t es room last = ends t [] false
walk_from (suc turns) t es room last =
    pick (waits (event_of es) last)
    (ends t [] false)
    (pick (ltb room 4096)
    (ends t [] false)
    (pick (eqb (record_size (event_of es)) 0)
    (ends t (lines_of t (event_of es)) true)
    (after (record_size (event_of es)) (lines_of t (event_of es))
    (walk_from turns (after_event t (event_of es)) (drop (record_size (event_of es)) es) (room - length (lines_of t (event_of es))) last))))

-- "it reads events until they end": an event has a byte at least, so as many turns as bytes are enough
unfoldable pub walk_of : Table → List ℕ → ℕ → Bool → Outcome
walk_of t es room last = walk_from (length es) t es room last

-- the answer of `walk`: the text is in the lent slice, and its size here
abbrev pub walked_of : Outcome → Walked
walked_of o = record { consumed = o.consumed; written = length o.text; stopped = o.stopped }

-- what `walk` leaves: its answer, the table, and the text at the front of the lent slice; what lies past it stays
pub record Told (o : Outcome) (before : List ℕ) (t : Table) (r : Walked) (out : List ℕ) : Type 0 where
  pub answer : r ≡ walked_of o
  pub table : t ≡ o.table
  pub text : out ≡ sets before 0 o.text
