-- `wire::part` meets its contract. Assumes nothing.
use mathlib.Core.Path.{ap}
use Prim.Native.Nat.{ℕ, ◌+◌}
use native.Mathlib.Nat.{add-sub_cancel_left}
use native.Mathlib.Omega.{arith}
use lib.ListN.{length, take, drop}
use borrow.Author.Tests.{le-leb, lt-leb}
use Rattle.wire.proofs.slice.part.Goals as goal

pub returns-then-len-s : goal.returns-then-len-s
returns-then-len-s c =
    let a = c.args in
    simp (le-leb (a.at + a.len) (length a.s.now) (omega arith))
    (ap (λ (k : ℕ). take k (drop a.at a.s.now)) (add-sub_cancel_left a.at a.len))

pub returns-else-len-s : goal.returns-else-len-s
returns-else-len-s c =
    let a = c.args in
    simp (lt-leb (a.at + a.len) (length a.s.now) (omega arith))

pub returns-else-at-s : goal.returns-else-at-s
returns-else-at-s c =
    let a = c.args in
    simp (lt-leb (a.at + a.len) (length a.s.now) (omega arith))
