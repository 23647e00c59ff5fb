-- Both sides of the one call are the definitions that the two calls had.
-- Assumes nothing.
use mathlib.Core.Path.{refl}
use Rattle.inflight.specs.Tables.{gone_of}
use Rattle.inflight_claims.specs.TwoCalls.{closed_of, lost_of, ForBoth}

pub for-both : ForBoth
unfolding gone_of closed_of lost_of
for-both = record { closed = λ t l out. refl; lost = λ t p out. refl }
