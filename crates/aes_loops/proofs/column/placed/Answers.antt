-- `aes_loops::column::placed` meets its contract. Assumes nothing.
use Rattle.std.proofs.Common.{◌≡◌, ◌%◌, arith}
use Rattle.aes_loops.proofs.Turns.{placed-0, placed-1, placed-2, placed-3}
use Rattle.aes_loops.proofs.column.placed.Goals as goal

pub returns-in-0 : goal.returns-in-0
returns-in-0 c = rw (c.from-x.ensures, c.in-0.is) (placed-0 c.ranges.b.fits)

pub returns-in-1 : goal.returns-in-1
returns-in-1 c = rw (c.from-x.ensures, c.in-1.is) (placed-1 c.ranges.b.fits)

pub returns-in-2 : goal.returns-in-2
returns-in-2 c = rw (c.from-x.ensures, c.in-2.is) (placed-2 c.ranges.b.fits)

pub returns-in_default : goal.returns-in_default
returns-in_default c =
    let e : c.args.r % 4 ≡ 3 = omega arith in
    rw (c.from-x.ensures, e) (placed-3 c.ranges.b.fits)
