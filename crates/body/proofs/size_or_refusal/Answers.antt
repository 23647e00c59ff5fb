-- `body::size_or_refusal` meets its contract: one return for each row. Assumes nothing.
use Prim.Native.Nat.{◌+◌}
use native.Mathlib.Omega.{arith}
use borrow.Author.Tests.{le-ltb, lt-ltb, eq-eqb, ne_eqb}
use Rattle.body.specs.Written.{size_or_refusal}
use Rattle.body.proofs.size_or_refusal.Goals as goal

pub returns-then-number-eq0 : goal.returns-then-number-eq0
unfolding size_or_refusal
returns-then-number-eq0 c = simp (eq-eqb _ _ c.if-number-eq0.true)

pub returns-then-header : goal.returns-then-header
unfolding size_or_refusal
returns-then-header c = simp (ne_eqb _ _ c.if-number-eq0.false, c.if-header.true)

pub returns-then-size-gt-LARGEST_BODY : goal.returns-then-size-gt-LARGEST_BODY
unfolding size_or_refusal
returns-then-size-gt-LARGEST_BODY c =
    let a = c.args in
    simp (ne_eqb _ _ c.if-number-eq0.false, c.if-header.false, lt-ltb 16777215 (a.size + 16) (omega arith))

pub returns-then-room-size : goal.returns-then-room-size
unfolding size_or_refusal
returns-then-room-size c =
    let a = c.args in
    simp (ne_eqb _ _ c.if-number-eq0.false, c.if-header.false, le-ltb 16777215 (a.size + 16) (omega arith), lt-ltb _ _ c.if-room-size.true)

pub returns : goal.returns
unfolding size_or_refusal
returns c =
    let a = c.args in
    simp (ne_eqb _ _ c.if-number-eq0.false, c.if-header.false, le-ltb 16777215 (a.size + 16) (omega arith), le-ltb _ _ c.if-room-size.false)
