-- What the event kinds print. "Event kinds 4 and 5 print as before" (document 02, A4): they name the one call for a
-- gone peer now; their lines, and the table after them, are still those of closed and lost as they were while they were
-- two calls. Kind 1 prints as before asks brought a time, and "kind 6 prints as kind 1" (A2): its line is an ask's too.
-- Kind 7 prints `out`, with the answer of a run-out.
-- Assumes nothing.
use Rattle.std.specs.Prelude.{◌≡◌, ℕ, ◌≤◌, List, ◌∷◌, length, get_or, Result}
use Rattle.wire.specs.Bytes.{le, part}
use Rattle.inflight.specs.Tables.{Dropped, ask_of, run_out_of}
use Rattle.inflight.specs.declared.Table.{Table}
use Rattle.inflight_claims.specs.TwoCalls.{closed_of, lost_of}
use Rattle.inflight_claims.specs.OldAsks.{old_ask_of}
use Rattle.inflight.specs.declared.PublisherNumber.{PublisherNumber}
use Rattle.refusal.specs.declared.Refusal.{Refusal}
use Rattle.walk_turn.specs.Lines.{closed_word, lost_word, out_word, ask_line, dropped_lines}
use Rattle.walk_turn.specs.Turn.{lines_of, after_event, lent_slice}
use Rattle.walk_turn.specs.declared.Event.{Event}
use Rattle.walk_turn.specs.declared.NoEvent.{NoEvent}
use Rattle.walk_events.specs.Events.{event_of, record_size, front_number}

-- an event whose record is of n bytes, whose lines are a word and what a call answered, and after which the table is
-- that call's
pub record Printed (t : Table) (e : Result Event NoEvent) (n : ℕ) (word : List ℕ) (r : Dropped) : Type 0 where
  pub size : record_size e ≡ n
  pub lines : lines_of t e ≡ dropped_lines word r.answer r.slice
  pub after : after_event t e ≡ r.table

-- the claim: on any contents of the table, for every number and whatever bytes come behind
pub record KindsAsBefore : Type 0 where
  pub closed : (t : Table) (l : ℕ) (rest : List ℕ)
      → Printed t (event_of (4 ∷ l ∷ rest)) 2 closed_word (closed_of t l lent_slice)
  pub lost : (t : Table) (p : ℕ) (rest : List ℕ)
      → Printed t (event_of (5 ∷ p ∷ rest)) 2 lost_word (lost_of t p lent_slice)

-- an event whose record is of n bytes, whose line is an ask's answer, and after which the table is u
pub record AskPrinted (t : Table) (e : Result Event NoEvent) (n : ℕ) (a : Result PublisherNumber Refusal) (u : Table) : Type 0 where
  pub size : record_size e ≡ n
  pub line : lines_of t e ≡ ask_line a
  pub after : after_event t e ≡ u

-- the claim: on any contents of the table, whatever the fields and the bytes behind them
pub record KindsOfTime : Type 0 where
  -- kind 1, link, number and publisher: what ask answered before it brought a time, and the table of an ask with none
  pub one : (t : Table) (es : List ℕ) → 10 ≤ length es
      → AskPrinted t (event_of (1 ∷ es)) 11
      (old_ask_of t (get_or es 0 0) (front_number (1 ∷ es)) (get_or es 9 0)).answer
      (ask_of t (get_or es 0 0) (front_number (1 ∷ es)) (get_or es 9 0) 0 0).table
  -- kind 6: the same three, then time and timeout
  pub six : (t : Table) (es : List ℕ) → 22 ≤ length es
      → AskPrinted t (event_of (6 ∷ es)) 23
      (ask_of t (get_or es 0 0) (front_number (6 ∷ es)) (get_or es 9 0) (le (part es 10 8)) (le (part es 18 4))).answer
      (ask_of t (get_or es 0 0) (front_number (6 ∷ es)) (get_or es 9 0) (le (part es 10 8)) (le (part es 18 4))).table
  -- kind 7: the time
  pub seven : (t : Table) (es : List ℕ) → 8 ≤ length es
      → Printed t (event_of (7 ∷ es)) 9 out_word (run_out_of t (le (part es 0 8)) lent_slice)
