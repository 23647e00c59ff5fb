-- `wire::padded_at` meets its contract: what is there, then zeros. Assumes nothing.
use mathlib.Core.Path.{ap, ◌∙◌}
use mathlib.Core.List.{List, ◌++◌}
use Prim.Native.Nat.{ℕ, ◌-◌, ◌<◌}
use native.Mathlib.Omega.{arith}
use lib.ListN.{length, take, drop, replicate, length-take, length-drop}
use Rattle.wire.specs.Bytes.{le}
use Rattle.wire.proofs.ByteLaws.{le-padded, cut-rest}
use Rattle.wire.proofs.read.padded_at.Goals as goal

pub returns : goal.returns
returns g c =
    let a = c.args in
    let n = g.row.N in
    let s = a.s.now in
    let r = take (length s - c.min.result) (drop c.min.result s) in
    let h : length r < n = simp (length-take, length-drop) (omega (arith, c.requires, c.min.ensures)) in
    ap (λ (l : List ℕ). le (l ++ drop (length r) (replicate n 0))) c.copy_from_slice.ensures.after
    ∙ le-padded r n (omega (arith, h))
    ∙ ap (λ (l : List ℕ). le (take n l)) (cut-rest s a.at c.min.ensures)
