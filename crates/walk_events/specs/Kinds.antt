-- The kinds of events by their numbers, and what it means to read one. Assumes nothing.
use Rattle.std.specs.Prelude.{◌≡◌, ℕ, Result, MatchResult}
use Rattle.walk_turn.specs.declared.NoEvent.{NoEvent}
use Rattle.walk_turn.specs.declared.NoEvent.TheVariants.{Unknown}
use Rattle.walk_events.specs.declared.kind.Kind.{Kind}
use Rattle.walk_events.specs.declared.kind.Kind.TheVariants.{Ask, Reply, Cancel, Closed, Lost, AskBy, RunOut}
use Rattle.walk_events.specs.Events.{body_size}

-- the number of a kind
abbrev pub number : Kind → ℕ
number Ask = 1
number Reply = 2
number Cancel = 3
number Closed = 4
number Lost = 5
number AskBy = 6
number RunOut = 7

-- the kind with this number, or that none has it: then it is an unknown kind's, of which a body has no length
abbrev pub Decodes : ℕ → Result Kind NoEvent → Type 0
Decodes code r = MatchResult r (λ k. number k ≡ code) (λ e. (e ≡ Unknown) × (body_size code ≡ 0))
