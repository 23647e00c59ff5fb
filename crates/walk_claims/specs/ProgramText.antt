-- The program's text is the model's. For a table started afresh, whatever it held, from a first number from 1 on, and
-- every list of event bytes, the text that the walk gives is: the events decoded into calls, the model run on them, and
-- what is heard rendered; and `no 35` at an unknown kind or a cut record.
-- Assumes nothing.
use Rattle.std.specs.Prelude.{◌≡◌, ℕ, zero, suc, ◌+◌, ◌≤◌, Bool, true, false, ◌||◌, List, [], ◌∷◌, ◌++◌, eqb, pos, length, drop, replicate, Result, Ok, Err}
use Rattle.wire.specs.Choice.{pick}
use Rattle.inflight.specs.Model.{empty}
use Rattle.inflight.specs.Calls.{Call, Heard, ask, old_ask, reply, cancel, gone, run_out, model_run}
use Rattle.inflight.specs.declared.PublisherNumber.{PublisherNumber}
use Rattle.inflight.specs.Tables.{Sized, fresh_of}
use Rattle.inflight.specs.declared.Table.{Table}
use Rattle.walk_turn.specs.Lines.{call_lines, refused_line}
use Rattle.walk_turn.specs.Turn.{lent_slice}
use Rattle.walk_turn.specs.declared.Event.{Event}
use Rattle.walk_turn.specs.declared.Event.TheVariants.{Ask, Reply, Cancel, Gone, AskBy, RunOut}
use Rattle.walk_turn.specs.declared.NoEvent.{NoEvent}
use Rattle.walk_turn.specs.declared.NoEvent.TheVariants.{End, Cut, Unknown}
use Rattle.walk_events.specs.Events.{event_of, record_size}
use Rattle.walk.specs.Walk.{Outcome, walk_of}

-- ---- the events decoded

-- the call of an event, before the calls behind it; none at the end, at a cut record and at an unknown kind
abbrev pub call_before : Result Event NoEvent → List Call → List Call
call_before (Ok (Ask l n p)) cs = old_ask l n p ∷ cs
call_before (Ok (Reply p n)) cs = reply p n ∷ cs
call_before (Ok (Cancel l n)) cs = cancel l n ∷ cs
call_before (Ok (Gone peer)) cs = gone peer lent_slice ∷ cs
call_before (Ok (AskBy l n p time timeout)) cs = ask l n p time timeout ∷ cs
call_before (Ok (RunOut time)) cs = run_out time lent_slice ∷ cs
call_before (Err why) cs = []

-- the calls that some bytes name, at most `turns` of them
unfoldable pub calls_from : ℕ → List ℕ → List Call
calls_from zero es = []
calls_from (suc turns) es = call_before (event_of es) (calls_from turns (drop (record_size (event_of es)) es))

-- whether they end at an unknown kind or a cut record
abbrev pub fault_before : Result Event NoEvent → Bool → Bool
fault_before (Ok e) b = b
fault_before (Err End) b = false
fault_before (Err Cut) b = true
fault_before (Err Unknown) b = true

unfoldable pub fault_from : ℕ → List ℕ → Bool
fault_from zero es = false
fault_from (suc turns) es = fault_before (event_of es) (fault_from turns (drop (record_size (event_of es)) es))

-- ---- the model's text

-- what is heard of some calls, rendered
unfoldable pub rendered : List Call → List Heard → List ℕ
rendered [] hs = []
rendered (c ∷ cs) [] = []
rendered (c ∷ cs) (h ∷ hs) = call_lines c h ++ rendered cs hs

-- an event has a byte at least, so as many turns as bytes are enough
unfoldable pub model_text : PublisherNumber → List ℕ → List ℕ
model_text first es =
    rendered (calls_from (length es) es) (model_run (empty first) (calls_from (length es) es))
    ++ pick (fault_from (length es) es) (refused_line 35) []

-- ---- a caller that feeds the events in pieces

-- what it keeps: the table, the bytes that were not consumed, the text so far, and whether the walk stopped
pub record Fed : Type 0 where
  pub table : Table
  pub left : List ℕ
  pub text : List ℕ
  pub stopped : Bool

abbrev pub fed_first : Table → Fed
fed_first t = record { table = t; left = []; text = []; stopped = false }

abbrev pub fed_next : Fed → List ℕ → Outcome → Fed
fed_next s es o = record { table = o.table; left = drop o.consumed es; text = s.text ++ o.text; stopped = o.stopped }

-- a call of `walk` on the bytes left and a new piece, with some room; none after the walk stopped
unfoldable pub feed : Bool → Fed → List ℕ → ℕ → Fed
feed last s piece room = pick s.stopped s (fed_next s (s.left ++ piece) (walk_of s.table (s.left ++ piece) room last))

-- a piece of the events, and the room for the text of its call
pub record Piece : Type 0 where
  pub bytes : List ℕ
  pub room : ℕ

-- all pieces, one after another
unfoldable pub feed_all : Fed → List Piece → Fed
feed_all s [] = s
feed_all s (p ∷ ps) = feed_all (feed false s p.bytes p.room) ps

-- then, with no more bytes, as many calls as the caller likes
unfoldable pub finish : Fed → List ℕ → Fed
finish s [] = s
finish s (room ∷ rooms) = finish (feed true s [] room) rooms

-- the bytes of all pieces
unfoldable pub joined : List Piece → List ℕ
joined [] = []
joined (p ∷ ps) = p.bytes ++ joined ps

-- the walk stopped, or all bytes are consumed
abbrev pub over : Fed → Bool
over s = s.stopped || eqb (length s.left) 0

-- ---- the claim

pub record ProgramText (t : Table) (first : PublisherNumber) : Type 0 where
  -- one call with all bytes and room enough: of the text, and the 4,096 bytes without which no event is begun
  pub whole : (es : List ℕ) (room : ℕ) → length (model_text first es) + 4096 ≤ room
      → (walk_of (fresh_of t first).table es room true).text ≡ model_text first es
  -- any pieces, any room: once the walk is over, its text is the model's
  pub pieces : (ps : List Piece) (rooms : List ℕ)
      → over (finish (feed_all (fed_first (fresh_of t first).table) ps) rooms) ≡ true
      → (finish (feed_all (fed_first (fresh_of t first).table) ps) rooms).text ≡ model_text first (joined ps)
  -- and it is over after as many calls more as there are bytes, each with room for the lines of any event
  pub ends : (ps : List Piece)
      → over (finish (feed_all (fed_first (fresh_of t first).table) ps) (replicate (length (joined ps)) 4096)) ≡ true

-- for every table whose arrays have their sizes, and every first number from 1 to the largest
abbrev pub ProgramTexts : Type 0
ProgramTexts = (t : Table) → Sized t → (n : ℕ) → 1 ≤ n → n ≤ 9223372036854775807 → ProgramText t (record { 0 = pos n })
