-- What a caller may rely on, of every table, every list of bytes and any room.
-- Assumes nothing.
use Rattle.std.specs.Prelude.{◌≡◌, ℕ, ◌≤◌, ◌<◌, Bool, false, List, length}
use Rattle.inflight.specs.declared.Table.{Table}
use Rattle.walk_events.specs.Events.{event_of, waits}
use Rattle.walk.specs.Walk.{walk_of}

pub record Bounds (t : Table) (es : List ℕ) (room : ℕ) (last : Bool) : Type 0 where
  -- no more is consumed than there is
  pub consumed : (walk_of t es room last).consumed ≤ length es
  -- no more is written than there is room for
  pub written : length (walk_of t es room last).text ≤ room
  -- with room for the lines of any event, an event that does not wait for more bytes is consumed, unless the walk stops at it
  pub moves : waits (event_of es) last ≡ false → 4096 ≤ room → (walk_of t es room last).stopped ≡ false → 0 < (walk_of t es room last).consumed
