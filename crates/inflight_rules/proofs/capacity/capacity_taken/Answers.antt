-- Publisher by publisher: the sum of the loads so far, each at least 4.
-- Assumes nothing.
use Rattle.inflight.specs.Matching.{sum_below}
use Rattle.inflight_rules.proofs.SumLaws.{sum_more}
use borrow.Author.Rules.{rules}
use borrow.Rule.Slice.PartMut.{mid_of}
use mathlib.Core.Path.{◌≡◌, sym, ap, ◌∙◌}
use Prim.Native.Nat.{ℕ, ◌+◌, max}
use native.Mathlib.Omega.{arith}
use lib.ListN.{get_or, length, drop, length-drop}
use lib.Seq.{get_or-drop, length-take-le}
use lib.Count.{ones}
use Rattle.std.proofs.lemmas.List.{get_or-take}
use Rattle.inflight_rules.proofs.capacity.capacity_taken.Goals as goal

pub loop-m-init : goal.loop-m-init
unfolding sum_below
loop-m-init c = search rules

pub loop-m-preserved : goal.loop-m-preserved
loop-m-preserved c =
    let ms = c.args.masks.now in
    let p : ℕ = c.loop-m.m-index in
    let l : length ms ≡ 9 = search rules in
    let k : length (mid_of 1 8 ms) ≡ 8 = length-take-le 8 (drop 1 ms) (let d = length-drop 1 ms in omega arith) in
    let e : get_or (mid_of 1 8 ms) p 0 ≡ get_or ms (1 + p) 0 = get_or-take 8 (drop 1 ms) p 0 (omega arith) ∙ get_or-drop 1 ms p 0 in
    let n = c.count.ensures.0 ∙ ap ones e in
    let m = c.max-sum.ensures in
    let t = sum_more p (λ q. max 4 (ones (get_or ms (1 + q) 0))) in
    let inv = c.loop-m.invariant in
    (omega arith, ap (λ (x : ℕ). x + c.max-sum.result) inv.1 ∙ sym (t ∙ omega arith))
