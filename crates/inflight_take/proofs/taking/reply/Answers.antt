-- A reply: the refusals in their order, then the slot that is found.
-- Assumes nothing.
use borrow.Author.Rules.{rules}
use borrow.Author.Tests.{le-leb, lt-leb}
use mathlib.Core.Path.{◌≡◌, refl, sym, ap, ◌∙◌}
use Prim.Native.Nat.{ℕ}
use native.Mathlib.Omega.{arith}
use lib.IntN.{pos}
use lib.ListN.{get_or}
use mir.Syntax.{w64}
use mir.Val.{SFits}
use mir.Facts.{to_z-of_z}
use Rattle.inflight.specs.Numbers.{same}
use Rattle.inflight.proofs.MaskLaws.{slot-low}
use Rattle.inflight.proofs.NumberLaws.{int-same}
use Rattle.inflight.specs.Tables.{freed, reply_of}
use Rattle.inflight_take.proofs.taking.reply.Goals as goal

pub returns-then-publisher-ge8 : goal.returns-then-publisher-ge8
unfolding reply_of
returns-then-publisher-ge8 c = rw (le-leb _ _ c.if-publisher-ge8.true) (refl, refl)

pub returns-then-eq : goal.returns-then-eq
unfolding reply_of
returns-then-eq c =
    let n = c.args.number.0 in
    let z : c.eq.result ≡ same n (pos 0) = c.eq.ensures ∙ int-same n (pos 0) in
    rw (lt-leb _ _ c.if-publisher-ge8.false, sym z ∙ c.if-eq.true) (refl, refl)

pub returns-then-s-ge64 : goal.returns-then-s-ge64
unfolding reply_of
returns-then-s-ge64 c =
    let n = c.args.number.0 in
    let z : c.eq.result ≡ same n (pos 0) = c.eq.ensures ∙ int-same n (pos 0) in
    rw (lt-leb _ _ c.if-publisher-ge8.false, sym z ∙ c.if-eq.false, ← c.find_number-s.ensures, le-leb _ _ c.if-s-ge64.true) (refl, refl)

pub returns : goal.returns
unfolding reply_of
returns c =
    let t = c.args.table.now in
    let n = c.args.number.0 in
    let z : c.eq.result ≡ same n (pos 0) = c.eq.ensures ∙ int-same n (pos 0) in
    let s : ℕ = c.find_number-s.result in
    let f : SFits w64 (get_or t.numbers s (pos 0)) = search rules in
    let w = c.free.ensures ∙ ap (freed t) (slot-low s (omega arith)) in
    rw (lt-leb _ _ c.if-publisher-ge8.false, sym z ∙ c.if-eq.false, ← c.find_number-s.ensures, lt-leb _ _ c.if-s-ge64.false, w, to_z-of_z f) (refl, refl)
