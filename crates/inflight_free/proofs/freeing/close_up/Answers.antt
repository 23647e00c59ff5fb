-- The 64 places, one by one.
-- Assumes nothing.
use mathlib.Core.Path.{ap, ◌∙◌}
use Prim.Native.Nat.{ℕ}
use native.Mathlib.Omega.{arith}
use lib.ListN.{set}
use Rattle.inflight.specs.Masks.{closed_up}
use Rattle.inflight.proofs.OrderLaws.{map-turn}
use Rattle.inflight_free.proofs.freeing.close_up.Goals as goal

pub loop-x-preserved : goal.loop-x-preserved
loop-x-preserved c =
    let i : ℕ = c.loop-x.x-index in
    ap (set c.loop-x.order i) c.closed_up.ensures ∙ map-turn (closed_up c.args.a) c.args.order.now c.loop-x.order i (omega arith) c.loop-x.invariant
