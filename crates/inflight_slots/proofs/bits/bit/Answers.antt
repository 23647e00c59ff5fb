-- One shifted by a slot is its power of two.
-- Assumes nothing.
use Prim.Native.Nat.{ℕ, ◌%◌, ◌<◌}
use native.Mathlib.Omega.{arith}
use Rattle.inflight.proofs.MaskLaws.{one_bit}
use Rattle.inflight_slots.proofs.bits.bit.Goals as goal

pub returns : goal.returns
returns c = let i : ℕ = c.args.i in let h : i % 64 < 64 = omega arith in one_bit (i % 64) h
