-- What a writer of lines leaves, and what an event leaves with it. Assumes nothing.
use Rattle.std.specs.Prelude.{◌≡◌, ◌+◌, ℕ, List, length, Result}
use Rattle.std.proofs.lemmas.List.Edits.{sets}
use Rattle.inflight.specs.declared.Table.{Table}
use Rattle.walk_turn.specs.Turn.{lines_of, after_event}
use Rattle.walk_turn.specs.declared.Event.{Event}
use Rattle.walk_turn.specs.declared.NoEvent.{NoEvent}
use Rattle.walk_turn.specs.declared.lines.Lines.{Lines}

-- some bytes behind the text so far, in the same slice; what lies past its end is left out
pub record Wrote (before after : Lines) (bytes : List ℕ) : Type 0 where
  pub text : after.text.now ≡ sets before.text.now before.size bytes
  pub same : after.text.ghost_name ≡ before.text.ghost_name
  pub size : after.size ≡ before.size + length bytes

-- the table after an event, and its lines
pub record Turns (t u : Table) (e : Result Event NoEvent) (before after : Lines) : Type 0 where
  pub table : u ≡ after_event t e
  pub lines : Wrote before after (lines_of t e)
