-- A pass over the line: after some of its slots those that stay among them have the places below k.
-- Assumes nothing.
use borrow.Author.Rules.{rules}
use mathlib.Core.Path.{◌≡◌, sym, ap, ◌∙◌}
use mathlib.Core.List.{List, [], ◌∷◌, ◌++◌}
use Prim.Native.Nat.{ℕ, ◌+◌, ◌%◌}
use native.Mathlib.Omega.{arith}
use lib.Seq.{length-take-le}
use Rattle.std.proofs.lemmas.List.{get_or-take}
use lib.ListN.{length, take, get_or, set, length-append}
use Rattle.inflight.specs.Masks.{has, outside, placed_anew}
use Rattle.inflight.proofs.OrderLaws.{outside-yes, outside-no, placed_anew-snoc}
use Rattle.inflight_free.proofs.freeing.place_anew.Goals as goal
use Rattle.inflight_free.proofs.freeing.place_anew.Goals.{then-not-holds, else-not-holds}

pub loop-x-init : goal.loop-x-init
unfolding outside placed_anew
loop-x-init c = search rules

pub loop-x-preserved : goal.loop-x-preserved
loop-x-preserved c =
    let a = c.args in
    let os = a.order.now in
    let xs = a.line.now in
    let g : ℕ = a.mask in
    let o = c.loop-x.order in
    let i : ℕ = c.loop-x.x-index in
    let k : ℕ = c.loop-x.k in
    let inv = c.loop-x.invariant in
    let x : ℕ = get_or xs i 0 in
    let ys : List ℕ = outside g (take i xs) in
    let l : length xs ≡ 64 = search rules in
    let m : length (take a.n xs) ≡ a.n = length-take-le a.n xs (omega arith) in
    let e : get_or (take a.n xs) i 0 ≡ x = get_or-take a.n xs i 0 (omega arith) in
    let h : c.holds.result ≡ has g x = c.holds.ensures ∙ ap (has g) e in
    elim c.if-not-holds.branch [
      | then-not-holds w ↦
          let y : outside g (take (i + 1) xs) ≡ ys ++ x ∷ [] = outside-no g xs i (omega arith) (sym h ∙ w.if-not-holds.true) in
          let n : length (ys ++ x ∷ []) ≡ length ys + 1 = length-append ys (x ∷ []) in
          let z : k ≡ 0 + length ys = omega (arith, inv.kept) in
          record {
            below = omega arith;
            kept = rw y (omega (arith, n, inv.kept, w.k-is));
            order =
                w.order-is ∙ ap (λ (j : ℕ). set o (j % 64) k) e ∙ ap (λ (p : List ℕ). set p (x % 64) k) inv.order
                ∙ ap (set (placed_anew ys 0 os) (x % 64)) z ∙ sym (placed_anew-snoc ys x 0 os) ∙ ap (λ (p : List ℕ). placed_anew p 0 os) (sym y);
          }
      | else-not-holds w ↦
          let y = outside-yes g xs i (omega arith) (sym h ∙ w.if-not-holds.false) in
          record { below = omega arith; kept = rw y (w.k-is ∙ inv.kept); order = rw y (w.order-is ∙ inv.order) }
    ]
