-- Four slots from slot i on: whether none of them has a front number, and the first that passes a test.
-- Assumes nothing.
use Rattle.std.specs.Prelude.{ℕ, ◌+◌, ◌/◌, ◌%◌, Bool, not, ◌&&◌, ◌||◌, List, eqb, ℤ, pos, get_or}
use Rattle.wire.specs.Choice.{pick}
use Rattle.inflight.specs.Numbers.{same}
use Rattle.inflight.specs.declared.FrontNumber.{FrontNumber}

abbrev pub none_of : List ℤ → FrontNumber → ℕ → Bool
none_of ns n i =
    not
    (((same (get_or ns i (pos 0)) n.0 || same (get_or ns (i + 1) (pos 0)) n.0)
    || same (get_or ns (i + 2) (pos 0)) n.0)
    || same (get_or ns (i + 3) (pos 0)) n.0)

-- the first of four slots that the lowest bits of m have and that passes a test, and 64 where there is none
abbrev pub first_of_four : (ℕ → Bool) → ℕ → ℕ → ℕ
first_of_four f m i =
    pick (eqb (m % 2) 1 && f i) i
    (pick (eqb (m / 2 % 2) 1 && f (i + 1)) (i + 1)
    (pick (eqb (m / 4 % 2) 1 && f (i + 2)) (i + 2)
    (pick (eqb (m / 8 % 2) 1 && f (i + 3)) (i + 3) 64)))
