-- One step of the relay walk's program: a read, a call of `walk`, a write (document 01, "Program: relay walk").
-- Assumes nothing.
use Rattle.std.specs.Prelude.{◌≡◌, ℕ, ◌+◌, ◌≤◌, min, Bool, true, false, not, ◌&&◌, ◌||◌, List, [], eqb, ltb, length, take}
use Rattle.std.proofs.lemmas.List.Edits.{sets}
use Rattle.wire.specs.Bytes.{part}
use Rattle.inflight.specs.declared.Table.{Table}
use Rattle.walk_claims.specs.ProgramText.{Fed, feed}
use Rattle.walk_progress.specs.declared.Progress.{Progress}

-- ---- a read

-- what a read behind the first `have` bytes leaves, with how many bytes there are then; which bytes came is the world's
pub record Filled (have : ℕ) (before : List ℕ) (end : ℕ) (after : List ℕ) : Type 0 where
  pub size : length after ≡ length before
  pub kept : take have after ≡ take have before
  pub least : have ≤ end
  pub fits : end ≤ length before

-- the same, but that nothing is read once the events have ended
pub record FilledUnless (ended : Bool) (have : ℕ) (before : List ℕ) (end : ℕ) (after : List ℕ) : Type 0 where
  pub filled : Filled have before end after
  pub none : ended ≡ true → (end ≡ have) × (after ≡ before)

-- ---- a step

-- how many bytes of events wait at the buffer's front
abbrev pub held_of : Progress → List ℕ → ℕ
held_of p events = min p.have (length events)

-- what a step starts from, in the words of the walk's pieces
abbrev pub fed_of : Table → Progress → List ℕ → Fed
fed_of t p events = record { table = t; left = take (held_of p events) events; text = []; stopped = false }

-- whether these are the last bytes: the events had ended, or a read that had room brought nothing
abbrev pub last_of : Progress → List ℕ → ℕ → Bool
last_of p events count = p.ended || (ltb (held_of p events) (length events) && eqb count 0)

-- what a step leaves, on any table, any progress and any buffers: u and r are the table and the progress after it
pub record Stepped (t : Table) (p : Progress) (events out : List ℕ) (u : Table) (r : Progress)
    (events_after out_after : List ℕ) : Type 0 where
  -- what the world decides: the buffer after the read, how many bytes were read, and whether the text was written whole
  pub filled : List ℕ
  pub count : ℕ
  pub written : Bool
  pub size : length filled ≡ length events
  pub kept : take (held_of p events) filled ≡ take (held_of p events) events
  pub fits : held_of p events + count ≤ length events
  pub none : p.ended ≡ true → (count ≡ 0) × (filled ≡ events)
  -- one call of the walk on what waited and what was read, with all of `out` as room
  pub fed : Fed
  pub is : fed ≡ feed (last_of p events count) (fed_of t p events) (part filled (held_of p events) count) (length out)
  pub table : u ≡ fed.table
  pub have : r.have ≡ length fed.left
  pub ended : r.ended ≡ last_of p events count
  -- there is a next step unless the walk stopped, or all was read and consumed, or the text could not be written
  pub more : r.more ≡ (written && not (fed.stopped || (last_of p events count && eqb (length fed.left) 0)))
  -- every lent byte: what was not consumed stands at the front of the events, the text at the front of `out`
  pub events_is : events_after ≡ sets filled 0 fed.left
  pub out_is : out_after ≡ sets out 0 fed.text
