-- Signed numbers: the test of equality, and the publisher number after one.
-- Assumes nothing.
use Rattle.std.specs.Prelude.{Bool, false, eqb, ℤ, pos, negsuc, ◌+ℤ◌}
use Rattle.wire.specs.Choice.{pick}
use Rattle.inflight.specs.declared.PublisherNumber.{PublisherNumber}

-- whether two signed numbers are the same
unfoldable pub same : ℤ → ℤ → Bool
same (pos m) (pos n) = eqb m n
same (pos m) (negsuc n) = false
same (negsuc m) (pos n) = false
same (negsuc m) (negsuc n) = eqb m n

-- "the last plus one, after 9,223,372,036,854,775,807 comes 1"
unfoldable pub after : PublisherNumber → PublisherNumber
after n = record { 0 = pick (same n.0 (pos 9223372036854775807)) (pos 1) (n.0 +ℤ pos 1) }
