-- A bit by a shift.
-- Assumes nothing.
use mathlib.Core.Path.{sym, ap}
use Prim.Native.Nat.{ℕ, ◌%◌}
use lib.Dec.{eqb}
use Rattle.inflight.proofs.MaskLaws.{bit-div}
use Rattle.inflight_slots.proofs.bits.holds.Goals as goal

pub returns : goal.returns
returns c = ap (λ (x : ℕ). eqb x 1) (sym (bit-div (c.args.x % 64) c.args.m))
