-- `store_bytes::copy` meets its contract: what it leaves out is past the end. Assumes nothing.
use mathlib.Core.Path.{◌≡◌, refl, ap, ◌∙◌}
use mathlib.Core.Bool.{Bool, true, false}
use mathlib.Core.List.{List}
use Prim.Native.Nat.{ℕ, ◌-◌, min}
use native.Mathlib.Omega.{arith}
use lib.Dec.{leb}
use borrow.Author.Tests.{leb-true, leb-false}
use lib.ListN.{length, take}
use lib.Seq.{sets, take_all}
use Rattle.wire.proofs.StoreLaws.{sets-cut}
use Rattle.store_bytes.proofs.copy.Goals as goal

-- what there is no room for is past the end
all_stored : (d t : List ℕ) (at n : ℕ) → n ≡ min (length t) (length d - at) → sets d at (take n t) ≡ sets d at t
all_stored d t at n e = go (leb (length t) n) refl
  where
    go : (b : Bool) → leb (length t) n ≡ b → sets d at (take n t) ≡ sets d at t
    go true f = ap (sets d at) (take_all n t (leb-true (length t) n f))
    go false f = let h = leb-false (length t) n f in sets-cut d at t n (omega arith) (omega arith)

pub returns-then-n-t : goal.returns-then-n-t
returns-then-n-t c =
    let a = c.args in
    c.put.ensures ∙ ap (sets a.d.now a.at) (take_all (length a.t.now) a.t.now (omega arith))

pub returns-else-n-t : goal.returns-else-n-t
returns-else-n-t c =
    let a = c.args in
    let n = c.min-n.result in
    c.put-else-n-t.ensures
    ∙ all_stored a.d.now a.t.now a.at n (c.min-n.ensures ∙ ap (min (length a.t.now)) c.left.ensures)

pub returns-else-n-gt0 : goal.returns-else-n-gt0
returns-else-n-gt0 c =
    let a = c.args in
    all_stored a.d.now a.t.now a.at 0 (omega (arith, c.min-n.ensures, c.left.ensures, c.if-n-gt0.false))
