-- `message_out::place::place_body` meets its contract. Assumes nothing.
use native.Mathlib.Omega.{arith}
use mathlib.Core.Path.{◌≡◌}
use Prim.Native.Nat.{ℕ, ◌-◌}
use Rattle.message_out.proofs.PlaceLaws.{answer-without-room, answer-in-part, part-back, nothing-back, usable-bound}
use Rattle.message_out.proofs.place.place_body.Goals as goal

pub returns-then-n-lt16 : goal.returns-then-n-lt16
returns-then-n-lt16 c =
    (answer-without-room _ _ _ _ _ c.usable-n.ensures c.if-n-lt16.true c.write_body-r.ensures.0 c.and.ensures, nothing-back _ _ _ c.write_body-r.result c.and.result c.and.ensures c.write_body-r.ensures.1)

pub slice_bounds-write_body-end-2 : goal.slice_bounds-write_body-end-2
slice_bounds-write_body-end-2 c = omega (arith, usable-bound _ _ c.usable-n.ensures)

pub returns : goal.returns
returns c =
    let b = c.args.buf.now in
    let u : ℕ = c.usable-n.result in
    let m : ℕ = u - 4 - 12 in
    let i : m ≡ u - 16 = omega arith in (
      answer-in-part _ _ _ b m c.usable-n.ensures c.if-n-lt16.false i c.write_body.ensures.0,
      part-back _ _ _ b m c.write_body.result c.usable-n.ensures c.if-n-lt16.false i c.write_body.ensures.0 c.write_body.ensures.1,
    )
