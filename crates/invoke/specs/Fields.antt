-- The fields of an invoke that may be absent (document 01: "number, actor or none, timeout or none, TL2 or not, rest").
-- Assumes nothing.
use Rattle.std.specs.Prelude.{ℕ, ℤ, Bool, eqb, Option, Some, None, is_some}
use Rattle.wire.specs.Choice.{pick}

-- an actor is given
abbrev pub is_given : Option ℤ → Bool
is_given a = is_some a

-- the timeout that is meant (document 02, A1): "a field of 0 and no field have one meaning, no timeout"
abbrev pub effective_timeout : Option ℕ → Option ℕ
effective_timeout None = None
effective_timeout (Some ms) = pick (eqb ms 0) None (Some ms)
