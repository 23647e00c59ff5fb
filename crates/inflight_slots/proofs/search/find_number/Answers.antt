-- A search over the slots of a mask: the lowest is looked at, and the rest is left.
-- Assumes nothing.
use borrow.Author.Rules.{rules}
use mathlib.Core.Path.{◌≡◌, sym, ◌∙◌}
use Prim.Native.Nat.{ℕ, ◌+◌}
use native.Mathlib.Omega.{arith}
use lib.IntN.{pos}
use lib.ListN.{get_or}
use mir.Syntax.{w64}
use mir.Val.{SFits}
use Rattle.inflight.proofs.NumberLaws.{read-same}
use Rattle.inflight.specs.Tables.{is_number}
use Rattle.inflight.proofs.MaskLaws.{popped, seek-none, seek_hit, seek-pass}
use Rattle.inflight_slots.proofs.search.find_number.Goals as goal

pub bounds-numbers-i : goal.bounds-numbers-i
bounds-numbers-i c = let m : ℕ = c.loop-m.m in let p = popped m (omega arith) (omega arith) in omega arith

pub returns-then-eq : goal.returns-then-eq
returns-then-eq c =
    let m : ℕ = c.loop-m.m in
    let p = popped m (omega arith) (omega arith) in
    let q = c.lowest-i.ensures.0 in
    let ns = c.args.numbers.now in
    let n = c.args.n in
    let i : ℕ = c.lowest-i.result in
    let f : SFits w64 (get_or ns (64 + i) (pos 0)) = search rules in
    let e : c.eq.result ≡ is_number ns n i = c.eq.ensures ∙ read-same _ n.0 f in
    seek_hit (is_number ns n) m i p q (sym e ∙ c.if-eq.true) ∙ c.loop-m.invariant.1

pub loop-m-smaller : goal.loop-m-smaller
loop-m-smaller c =
    let m : ℕ = c.loop-m.m in
    let p = popped m (omega arith) (omega arith) in
    let q = c.lowest-i.ensures.0 in
    omega (arith, p.less, c.rest-m.ensures)

pub loop-m-preserved : goal.loop-m-preserved
loop-m-preserved c =
    let m : ℕ = c.loop-m.m in
    let p = popped m (omega arith) (omega arith) in
    let q = c.lowest-i.ensures.0 in
    let ns = c.args.numbers.now in
    let n = c.args.n in
    let i : ℕ = c.lowest-i.result in
    let f : SFits w64 (get_or ns (64 + i) (pos 0)) = search rules in
    let e : c.eq.result ≡ is_number ns n i = c.eq.ensures ∙ read-same _ n.0 f in
    let r = c.rest-m.ensures in
    (omega (arith, p.less), seek-pass (is_number ns n) m i p q _ r (sym e ∙ c.if-eq.false) ∙ c.loop-m.invariant.1)

pub returns : goal.returns
returns c = sym (seek-none (is_number c.args.numbers.now c.args.n) _ c.loop-m-test.false) ∙ c.loop-m.invariant.1
