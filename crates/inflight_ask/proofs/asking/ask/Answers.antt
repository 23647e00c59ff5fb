-- An ask that is refused changes nothing; else the table is that of `placed`, part by part.
-- Assumes nothing.
use Rattle.inflight_ask.proofs.AskingLaws.{ask-range}
use borrow.Author.Rules.{rules}
use borrow.Author.Tests.{le-leb, lt-leb}
use mathlib.Core.Path.{◌≡◌, refl, sym, ap, ◌∙◌}
use Prim.Native.Nat.{ℕ, ◌+◌, ◌^◌}
use native.Mathlib.Omega.{arith}
use lib.IntN.{ℤ, pos}
use lib.ListN.{get_or}
use lib.Count.{ones}
use mir.Syntax.{w64}
use mir.Val.{SFits, of_z, to_z}
use mir.Facts.{to_z-of_z}
use Rattle.refusal.proofs.Passing.{passed}
use Rattle.inflight.specs.Masks.{lowest_free}
use Rattle.inflight.proofs.MaskLaws.{slot-low}
use Rattle.inflight.specs.Tables.{timed_of, free_of, ask_of, used, mine, given_of}
use Rattle.inflight_ask.proofs.asking.ask.Goals as goal

pub returns-in_err-check_ask : goal.returns-in_err-check_ask
unfolding ask_of
returns-in_err-check_ask c =
    let e = sym c.check_ask.ensures ∙ c.in_err-check_ask.was in
    rw e (passed c.from_residual.result _ c.from_residual.ensures.1, refl)

pub returns-then-s-ge64 : goal.returns-then-s-ge64
unfolding ask_of
returns-then-s-ge64 c =
    let e = sym c.check_ask.ensures ∙ c.in_ok-check_ask.was in
    rw (e, ← c.lowest_free-s.ensures.0, le-leb _ _ c.if-s-ge64.true) (refl, refl)

pub bounds-table-p : goal.bounds-table-p
bounds-table-p c = let r = (ask-range _ _ _ _ _ (sym c.check_ask.ensures ∙ c.in_ok-check_ask.was)).1 in omega arith

pub bounds-table-p-2 : goal.bounds-table-p-2
bounds-table-p-2 c = let r = (ask-range _ _ _ _ _ (sym c.check_ask.ensures ∙ c.in_ok-check_ask.was)).1 in omega arith

pub bounds-table-p-3 : goal.bounds-table-p-3
bounds-table-p-3 c = let r = (ask-range _ _ _ _ _ (sym c.check_ask.ensures ∙ c.in_ok-check_ask.was)).1 in omega arith

pub bounds-table-p-4 : goal.bounds-table-p-4
bounds-table-p-4 c = let r = (ask-range _ _ _ _ _ (sym c.check_ask.ensures ∙ c.in_ok-check_ask.was)).1 in omega arith

pub returns : goal.returns
unfolding ask_of
returns c =
    let a = c.args in
    let t = a.table.now in
    let p : ℕ = a.publisher in
    let s : ℕ = c.lowest_free-s.result in
    let e = sym c.check_ask.ensures ∙ c.in_ok-check_ask.was in
    let q : s ≡ lowest_free (used t) = c.lowest_free-s.ensures.0 in
    let low = slot-low s (omega arith) in
    let f1 : SFits w64 a.number.0 = search rules in
    let f2 : SFits w64 c.free_number-given.result.0 = search rules in
    let f3 : SFits w64 c.step-next.result.0 = search rules in
    let f4 : SFits w64 (get_or t.numbers (128 + p) (pos 0)) = search rules in
    let g : c.free_number-given.result ≡ given_of t p =
    c.free_number-given.ensures
    ∙ ap (λ (x : ℕ). free_of x (mine t p) t.numbers (record { 0 = to_z w64 (of_z w64 (get_or t.numbers (128 + p) (pos 0))) })) c.count-n.ensures.0
    ∙ ap (λ (z : ℤ). free_of (ones (used t)) (mine t p) t.numbers (record { 0 = z })) (to_z-of_z f4)
    in
    let b : c.bit-b.result ≡ 2 ^ s = c.bit-b.ensures ∙ ap (λ (i : ℕ). 2 ^ i) low in
    let d = c.set_deadline.ensures ∙ ap (λ (i : ℕ). timed_of t.times i a.time a.timeout) low in
    rw (e, ← q, lt-leb _ _ c.if-s-ge64.false, ← g, b, c.count-n.ensures.0, d, to_z-of_z f1, to_z-of_z f2, to_z-of_z f3, c.step-next.ensures) (refl, refl)
