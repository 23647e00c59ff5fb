-- A clock difference, handed back or not (document 01, "Opening"), as a struct for C. Assumes nothing.
use Rattle.std.specs.Prelude.{true, false, ℤ, pos, Option, Some, None}
use Rattle.link_c.specs.declared.RelayClock.{RelayClock}

unfoldable pub clock_fields : Option ℤ → RelayClock
-- their time minus ours
clock_fields (Some d) = record { near = true; difference = d }
-- "handed back when it is from -30 to 30"
clock_fields None = record { near = false; difference = pos 0 }
