-- The other ends, two numbers a request: after some bytes of the line the slice holds those of the leaving ones among
-- them. Assumes nothing.
use borrow.Author.Rules.{rules}
use mathlib.Core.Path.{◌≡◌, sym, ap, ◌∙◌}
use mathlib.Core.List.{[], ◌∷◌, ◌++◌}
use Prim.Native.Nat.{ℕ, ◌+◌, ◌%◌}
use native.Mathlib.Omega.{arith}
use lib.IntN.{pos}
use lib.ListN.{length, take, get_or, length-append, length-set}
use mir.Syntax.{w64}
use mir.Val.{SFits, of_z, to_z}
use mir.Facts.{to_z-of_z}
use Rattle.inflight.specs.Masks.{within}
use Rattle.inflight.specs.Tables.{ends_of}
use Rattle.inflight_drop.proofs.EndLaws.{within-yes, within-no, room_for, ends-append, length-ends, over-two}
use Rattle.inflight_drop.proofs.ends.write_ends.Goals as goal
use Rattle.inflight_drop.proofs.ends.write_ends.Goals.{then-holds, else-holds}

pub loop-x-init : goal.loop-x-init
unfolding within ends_of
loop-x-init c = search rules

pub offset_bounds-out-at : goal.offset_bounds-out-at
offset_bounds-out-at c = let r = room_for c.args.mask c.args.line.now c.loop-x.x-index c.loop-x.at (length c.args.out.now) (omega arith) (sym c.holds.ensures ∙ c.if-holds.true) c.loop-x.invariant.at c.requires.1 in search rules

pub bounds-out-at : goal.bounds-out-at
bounds-out-at c = let r = room_for c.args.mask c.args.line.now c.loop-x.x-index c.loop-x.at (length c.args.out.now) (omega arith) (sym c.holds.ensures ∙ c.if-holds.true) c.loop-x.invariant.at c.requires.1 in search rules

pub offset_bounds-out-at-then-holds : goal.offset_bounds-out-at-then-holds
offset_bounds-out-at-then-holds c = let r = room_for c.args.mask c.args.line.now c.loop-x.x-index c.loop-x.at (length c.args.out.now) (omega arith) (sym c.holds.ensures ∙ c.if-holds.true) c.loop-x.invariant.at c.requires.1 in search rules

pub bounds-out-at-then-holds : goal.bounds-out-at-then-holds
bounds-out-at-then-holds c = let r = room_for c.args.mask c.args.line.now c.loop-x.x-index c.loop-x.at (length c.args.out.now) (omega arith) (sym c.holds.ensures ∙ c.if-holds.true) c.loop-x.invariant.at c.requires.1 in simp length-set (omega arith)

pub overflow_add-at-then-holds : goal.overflow_add-at-then-holds
overflow_add-at-then-holds c = let r = room_for c.args.mask c.args.line.now c.loop-x.x-index c.loop-x.at (length c.args.out.now) (omega arith) (sym c.holds.ensures ∙ c.if-holds.true) c.loop-x.invariant.at c.requires.1 in search rules

pub loop-x-preserved : goal.loop-x-preserved
unfolding ends_of
loop-x-preserved c =
    let a = c.args in
    let ns = a.numbers.now in
    let ps = a.places.now in
    let xs = a.line.now in
    let g : ℕ = a.mask in
    let i : ℕ = c.loop-x.x-index in
    let inv = c.loop-x.invariant in
    let o = a.out.now in
    let es = within g (take i xs) in
    let x : ℕ = get_or xs i 0 in
    let s : ℕ = a.base + x % 64 in
    elim c.if-holds.branch [
      | then-holds w ↦
          let h = sym c.holds.ensures ∙ w.if-holds.true in
          let y = within-yes g xs i (omega arith) h in
          let r = room_for g xs i c.loop-x.at (length o) (omega arith) h inv.at c.requires.1 in
          let l : length (within g (take (i + 1) xs)) ≡ length es + 1 = ap length y ∙ length-append es (x ∷ []) in
          let at : c.loop-x.at ≡ length (ends_of ns ps a.base es) = inv.at ∙ sym (length-ends ns ps a.base es) in
          let f : SFits w64 (get_or ns s (pos 0)) = search rules in
          let q : ends_of ns ps a.base (within g (take (i + 1) xs)) ≡ ends_of ns ps a.base es ++ pos (get_or ps s 0) ∷ get_or ns s (pos 0) ∷ [] = ap (ends_of ns ps a.base) y ∙ ends-append ns ps a.base es (x ∷ []) in
          let p : to_z w64 (of_z w64 w.from.result) ≡ pos (get_or ps s 0) = to_z-of_z {w = w64} (record { sfits = w.from.type_inv }) ∙ w.from.ensures in
          record { at = omega (arith, l, w.at-is); out = w.out-is ∙ rw (p, to_z-of_z f, inv.out, at, q) (over-two (ends_of ns ps a.base es) o (pos (get_or ps s 0)) (get_or ns s (pos 0)) (omega arith)) }
      | else-holds w ↦
          let y = within-no g xs i (omega arith) (sym c.holds.ensures ∙ w.if-holds.false) in
          record { at = rw y (w.at-is ∙ inv.at); out = rw y (w.out-is ∙ inv.out) }
    ]
