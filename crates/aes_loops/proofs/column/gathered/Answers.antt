-- `aes_loops::column::gathered` meets its contract. Assumes nothing.
use Rattle.std.proofs.Common.{◌≡◌, ◌%◌, refl, sym, ap, ap₂, ◌∙◌, add-one, arith}
use Rattle.aes.specs.Aes.{add}
use Rattle.aes.specs.Words.{bytes4, slant}
use Rattle.aes.proofs.Words.{bytes4-xor}
use Rattle.aes_loops.specs.Rows.{turns, sums}
use Rattle.aes_loops.proofs.Turns.{ahead-next}
use Rattle.aes_loops.proofs.column.gathered.Goals as goal

pub loop-r-preserved : goal.loop-r-preserved
loop-r-preserved g c =
    let s = c.args.s in
    let row = slant s.a s.b s.c s.d in
    let r = c.loop-r.r in
    let i = c.loop-r.invariant in
    let e : r % 4 ≡ r = omega (arith, c.loop-r-test.true) in
    let f = g.L.TotalLook.adds in (
      ahead-next row r c.loop-r.q refl i.0,
      bytes4-xor c.loop-r.x c.look-y.result
          ∙ ap₂ add i.1 (c.look-y.ensures ∙ ap₂ (λ n v. turns n (f v)) e i.0.0)
          ∙ ap (sums f row (bytes4 c.args.k)) (sym (add-one r)),
    )
