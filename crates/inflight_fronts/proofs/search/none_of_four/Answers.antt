-- The four numbers, each compared.
-- Assumes nothing.
use borrow.Author.Rules.{rules}
use mathlib.Core.Path.{◌∙◌}
use Prim.Native.Nat.{ℕ, ◌+◌}
use lib.IntN.{ℤ, pos}
use lib.ListN.{get_or}
use mir.Syntax.{w64}
use mir.Val.{SFits}
use Rattle.inflight.proofs.NumberLaws.{read-same}
use Rattle.inflight_fronts.proofs.search.none_of_four.Goals as goal

pub returns : goal.returns
returns c =
    let a = c.args in
    let ns = a.numbers.now in
    let i : ℕ = a.i in
    let n : ℤ = a.n.0 in
    let f0 : SFits w64 (get_or ns i (pos 0)) = search rules in
    let f1 : SFits w64 (get_or ns (i + 1) (pos 0)) = search rules in
    let f2 : SFits w64 (get_or ns (i + 2) (pos 0)) = search rules in
    let f3 : SFits w64 (get_or ns (i + 3) (pos 0)) = search rules in
    let e0 = c.eq-first.ensures ∙ read-same _ n f0 in
    let e1 = c.eq-second.ensures ∙ read-same _ n f1 in
    let e2 = c.eq-third.ensures ∙ read-same _ n f2 in
    let e3 = c.eq-fourth.ensures ∙ read-same _ n f3 in
    rw (e0, e1, e2, e3)
