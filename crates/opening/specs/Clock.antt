-- The clock difference (document 01, "Opening": "a signed number, their time minus ours, handed back when it is from -30
-- to 30"). Assumes nothing.
use Rattle.std.specs.Prelude.{ℕ, Bool, ◌&&◌, List, ℤ, pos, negsuc, ◌-ℤ◌, Option, Some, None, is_some}
use Rattle.std.specs.Int.Signed.{le_z}
use Rattle.wire.specs.Bytes.{le, part}
use Rattle.wire.specs.Choice.{pick}
use Rattle.link_state.specs.declared.Moment.{Moment}

-- a difference that is from -30 to 30
abbrev pub within30 : ℤ → Option ℤ
within30 d = pick (le_z (negsuc 29) d && le_z d (pos 30)) (Some d) None

-- their time minus ours: the plain difference of two numbers
unfoldable pub clock_of : ℕ → ℕ → Option ℤ
clock_of theirs ours = within30 (pos theirs -ℤ pos ours)

-- the same of a Nonce's body: the time is 4 bytes after KeyID 4, encryption 1, version 1, flags 2
unfoldable pub nonce_clock : List ℕ → Moment → Option ℤ
nonce_clock b m = clock_of (le (part b 8 4)) m.time

-- a Nonce's difference is handed back
unfoldable pub near_of : List ℕ → Moment → Bool
near_of b m = is_some (nonce_clock b m)
