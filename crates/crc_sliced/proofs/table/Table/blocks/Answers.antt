-- `crc_sliced::Table::blocks` meets its contract: a turn of the four registers leaves what they stand for together.
-- Assumes nothing.
use mathlib.Core.Path.{refl, ap, ◌∙◌}
use native.Mathlib.Omega.{arith}
use Rattle.wire.proofs.ByteLaws.{Small, small-drop}
use Rattle.crc.specs.Crc.{reflected}
use Rattle.crc.specs.Interleaved.{merged}
use Rattle.crc.specs.declared.Lanes.{Lanes}
use Rattle.crc.proofs.Joining.{alone, turned-front}
use Rattle.crc_sliced.proofs.table.Table.blocks.Goals as goal

pub loop-w-init : goal.loop-w-init
loop-w-init c =
    let s = c.args.s.now in
    let h : Small s = λ i. (c.type_inv.s i).fits in
    record { bytes = h; same = alone (reflected c.args.self.kind) c.args.from s h refl refl refl refl }

pub loop-w-preserved : goal.loop-w-preserved
loop-w-preserved c =
    let p = reflected c.args.self.kind in
    let l = c.loop-w in
    let s = l.rest.now in
    let parts = c.in-Some.ensures.cases in
    let m : Lanes = record { first = c.lane.result; second = c.lane-in-Some.result; third = c.lane-in-Some-2.result; fourth = c.lane-in-Some-3.result } in
    record {
      bytes = rw parts.1 (small-drop s 32 l.invariant.bytes);
      same = ap (merged p m) parts.1
          ∙ turned-front p s l.invariant.bytes l.r m (omega (arith, parts.2, c.if-after-lt32.false)) parts.0
          c.lane.ensures c.lane-in-Some.ensures c.lane-in-Some-2.ensures c.lane-in-Some-3.ensures
          ∙ l.invariant.same;
    }
