-- `walk_steps::steps::step` meets its contract. Assumes nothing.
use native.Mathlib.Omega.{arith}
use Rattle.walk_steps.proofs.StepLaws.{told-consumed, told-written, stepped}
use Rattle.walk_steps.proofs.steps.step.Goals as goal

pub slice_bounds-write_all-end : goal.slice_bounds-write_all-end
slice_bounds-write_all-end g c = told-written _ _ _ _ c.walk-r.ensures

pub move_front-requires : goal.move_front-requires
move_front-requires g c =
    let f = c.fill-end.ensures.filled in
    (told-consumed _ _ _ _ _ c.walk-r.ensures, omega (arith, f.fits, f.size))

pub overflow_sub-left : goal.overflow_sub-left
overflow_sub-left g c = told-consumed _ _ _ _ _ c.walk-r.ensures

pub returns : goal.returns
returns g c =
    let a = c.args in
    let w = c.walk-r.new in
    stepped a.table.now a.p a.events.now
    a.out.now c.fill-end.new.buf c.min-from.result c.fill-end.result c.no_more-last.result
    c.is_ok-written.result c.goes_on.result
    w.table c.walk-r.result c.move_front.new.buf
    w.out c.min-from.ensures c.fill-end.ensures c.no_more-last.ensures
    c.walk-r.ensures c.move_front.ensures c.goes_on.ensures
