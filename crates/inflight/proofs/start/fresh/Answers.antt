-- A fresh table: a first number below 1 is refused.
-- Assumes nothing.
use mathlib.Core.Path.{◌≡◌, sym, ap, ◌∙◌}
use mathlib.Core.Bool.{true, false}
use lib.IntN.{ℤ, pos}
use mir.Syntax.{w64}
use mir.Val.{SFits, of_z, to_z}
use mir.Facts.{to_z-of_z}
use Prim.Native.Nat.{ℕ, ◌+◌}
use native.Mathlib.Omega.{arith}
use mathlib.Core.List.{List, [], ◌++◌, append-nil}
use borrow.Rule.Slice.PartMut.{put_mid, mid_of}
use lib.ListN.{length, take, drop, replicate, drop_of_length-le, length-drop}
use lib.Seq.{length-take-le}
use lib.Signed.{lt_z}
use Rattle.inflight.specs.Tables.{fresh_of, fresh_answer, fresh_masks, fresh_numbers, fresh_times}
use borrow.Author.Rules.{rules}
use Rattle.inflight.proofs.start.fresh.Goals as goal

pub returns-then-first-lt1 : goal.returns-then-first-lt1
unfolding fresh_of fresh_answer fresh_masks fresh_numbers fresh_times
returns-then-first-lt1 c =
    let z : ℤ = c.args.first.0 in
    let f : SFits w64 z = search rules in
    let t : lt_z z (pos 1) ≡ true = ap (λ (x : ℤ). lt_z x (pos 1)) (sym (to_z-of_z f)) ∙ c.if-first-lt1.true in
    (rw t, rw t)

-- a write over the tail of a list
tail : {A : Type 0} (a k : ℕ) (xs ys : List A) → length xs ≡ a + k → put_mid a k xs ys ≡ take a xs ++ ys
tail a k xs ys e =
    let z : drop k (drop a xs) ≡ [] = drop_of_length-le (drop a xs) {i = k} (rw length-drop (omega arith)) in
    rw (z, append-nil)

pub returns : goal.returns
unfolding fresh_of fresh_answer fresh_masks fresh_numbers fresh_times
returns c =
    let z : ℤ = c.args.first.0 in
    let f : SFits w64 z = search rules in
    let t : lt_z z (pos 1) ≡ false = ap (λ (x : ℤ). lt_z x (pos 1)) (sym (to_z-of_z f)) ∙ c.if-first-lt1.false in
    let xs = c.args.table.now.masks in
    let ns = c.args.table.now.numbers in
    let l : length xs ≡ 9 = search rules in
    let n : length ns ≡ 136 = search rules in
    let m : length (mid_of 128 8 ns) ≡ 8 = length-take-le 8 (drop 128 ns) (let d = length-drop 128 ns in omega arith) in
    let a = c.fill.ensures.after (λ y e. e) ∙ ap (λ (k : ℕ). replicate k 0) l in
    let b = c.fill-2.ensures.after (λ y e. e) ∙ ap (λ (k : ℕ). replicate k (to_z w64 (of_z w64 z))) m ∙ ap (replicate 8) (to_z-of_z f) in
    (rw t, rw (t, tail 128 8 ns _ n, a, b))
