-- A run of steps, from a table started at 1: what it has printed is the walk's text over the pieces that it read.
-- Assumes nothing.
use Rattle.std.specs.Prelude.{◌≡◌, ℕ, ◌≤◌, true, false, List, [], ◌∷◌, ◌++◌, length, take}
use Rattle.wire.specs.Bytes.{part}
use Rattle.inflight.specs.Tables.{Sized, fresh_of}
use Rattle.inflight.specs.declared.Table.{Table}
use Rattle.walk_claims.specs.ProgramText.{Fed, fed_first, Piece, feed_all, finish, joined, model_text}
use Rattle.walk_progress.specs.declared.Progress.{Progress}
use Rattle.walk_progress.specs.Start.{one, start_of}
use Rattle.walk_steps.specs.Step.{held_of, Stepped}

-- t, p and the events' buffer are what some pieces, and after the end some calls with no more bytes, led to; `text` is
-- their text
pub record Run (t : Table) (p : Progress) (events : List ℕ) (text : List ℕ) : Type 0 where
  -- the table that was started at 1, whatever it held
  pub former : Table
  pub sized : Sized former
  pub pieces : List Piece
  pub rooms : List ℕ
  pub fed : Fed
  pub is : fed ≡ finish (feed_all (fed_first (fresh_of former one).table) pieces) rooms
  -- while events are read there is no call without them
  pub reading : p.ended ≡ false → rooms ≡ []
  pub table : t ≡ fed.table
  pub left : take p.have events ≡ fed.left
  pub within : p.have ≤ length events
  pub going : fed.stopped ≡ false
  pub text_is : text ≡ fed.text

module _ {t u : Table} {p r : Progress} {events out events_after out_after : List ℕ} where
  -- the piece that a step read, and the room for its text
  abbrev pub piece_of : Stepped t p events out u r events_after out_after → Piece
  piece_of s = record { bytes = part s.filled (held_of p events) s.count; room = length out }

-- ---- the claim

pub record Runs : Type 0 where
  -- the start is a run, with no text, on every table whose arrays have their sizes
  pub begins : (z : Table) → Sized z → (events : List ℕ) → Run (fresh_of z one).table start_of events []
  -- and so is a run with one step more, while there is a next one
  pub goes_on : (t u : Table) (p r : Progress) (events out text events_after out_after : List ℕ) → Run t p events text
      → (s : Stepped t p events out u r events_after out_after) → r.more ≡ true
      → Run u r events_after (text ++ s.fed.text)
  -- at the last step, if all was written, the whole text is the model's over all bytes that were read
  pub ends_as_model : (t u : Table) (p r : Progress) (events out text events_after out_after : List ℕ)
      → (run : Run t p events text) (s : Stepped t p events out u r events_after out_after)
      → s.written ≡ true → r.more ≡ false
      → text ++ s.fed.text ≡ model_text one (joined (run.pieces ++ piece_of s ∷ []))
