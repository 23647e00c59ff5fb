-- `text_out::put_zeros` meets its contract: a part that is filled is a run of stores. Assumes nothing.
use mathlib.Core.Path.{◌≡◌, sym, ap, ◌∙◌}
use mathlib.Core.List.{List, ◌++◌, append_assoc}
use Prim.Native.Nat.{ℕ, ◌+◌, ◌-◌, ◌≤◌}
use native.Mathlib.Omega.{arith}
use borrow.Rule.Slice.PartMut.{put_mid}
use lib.ListN.{length, take, drop, replicate, length-replicate, length-drop}
use lib.Seq.{sets, sets-eq, drop-drop, length-take-le}
use Rattle.text_out.proofs.put_zeros.Goals as goal

part_stored : (d b : List ℕ) (at n : ℕ) → length b ≡ n → at + n ≤ length d → put_mid at n d b ≡ sets d at b
part_stored d b at n l g =
    ap (λ (k : List ℕ). take at d ++ (b ++ k)) (drop-drop n at d)
    ∙ sym (rw l at (sets-eq b d at (rw l g)) ∙ append_assoc (take at d) b (drop (at + n) d))

pub returns : goal.returns
returns c =
    let a = c.args in
    let d = a.d.now in
    let e : a.at + a.n - a.at ≡ a.n = omega arith in
    let l : length (take (a.at + a.n - a.at) (drop a.at d)) ≡ a.n =
    rw e (length-take-le a.n (drop a.at d) (omega (arith, length-drop a.at d, c.requires))) in
    let f : c.fill.new.self ≡ replicate a.n 0 = c.fill.ensures.after (λ y e. e) ∙ ap (λ (k : ℕ). replicate k 0) l in
    rw (f, e) (part_stored d (replicate a.n 0) a.at a.n (length-replicate a.n 0) c.requires)
