-- `crc_short::Table::run` meets its contract: what is still to be fed gives what the whole would. Assumes nothing.
use mathlib.Core.Path.{ap, ◌∙◌}
use Rattle.crc.specs.Crc.{reflected, feeds}
use Rattle.crc.proofs.Feeding.{turn, done, one_byte}
use Rattle.crc_short.proofs.table.Table.run.Goals as goal

pub loop-eight-preserved : goal.loop-eight-preserved
loop-eight-preserved c =
    let l = c.loop-eight in
    let p = reflected c.args.self.kind in
    let parts = c.in-Some.ensures.cases in
    ap (feeds p c.step-c.result) parts.1 ∙ turn p l.rest.now l.c 0 8 l.invariant (c.step-c.ensures ∙ ap (feeds p l.c) parts.0)

pub loop-b-init : goal.loop-b-init
loop-b-init c = c.loop-eight.invariant

pub loop-b-preserved : goal.loop-b-preserved
loop-b-preserved c =
    let l = c.loop-b in
    let p = reflected c.args.self.kind in
    let rest = c.loop-eight.rest.now in
    turn p rest l.c l.b-index 1 l.invariant (one_byte p rest l.c l.b-index c.loop-b-test.true c.one-c.ensures)

pub returns : goal.returns
returns c = done (reflected c.args.self.kind) c.loop-eight.rest.now c.loop-b-test.false c.loop-b.invariant
