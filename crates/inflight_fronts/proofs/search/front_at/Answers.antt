-- The number, then the link, then the bit.
-- Assumes nothing.
use borrow.Author.Rules.{rules}
use borrow.Author.Tests.{eq-eqb}
use mathlib.Core.Path.{◌≡◌, refl, sym, ap, ◌∙◌}
use mathlib.Core.Bool.{Bool, true, false, not, ◌&&◌, false≢true}
use Prim.Native.Nat.{◌%◌}
use lib.Dec.{eqb}
use lib.IntN.{pos}
use lib.ListN.{get_or}
use mir.Syntax.{w64}
use mir.Val.{SFits}
use Rattle.inflight.proofs.NumberLaws.{read-same}
use Rattle.inflight_fronts.proofs.search.front_at.Goals as goal

-- three tests, of which the first looked at stands last

third-fails : (x y z : Bool) → not z ≡ true → false ≡ (x && (y && z))
third-fails true true false e = refl
third-fails true true true e = absurd (false≢true e)
third-fails true false z e = refl
third-fails false y z e = refl

first-left : (x y z : Bool) → y ≡ true → not z ≡ false → x ≡ (x && (y && z))
first-left true true true d e = refl
first-left true true false d e = absurd (false≢true (sym e))
first-left true false z d e = absurd (false≢true d)
first-left false y z d e = refl

pub returns-then-ne : goal.returns-then-ne
returns-then-ne c =
    let a = c.args in
    let f : SFits w64 (get_or a.numbers.now a.i (pos 0)) = search rules in
    third-fails (eqb (a.m % 2) 1) (eqb (get_or a.places.now a.i 0) a.link) _ (ap not (sym (read-same _ a.n.0 f)) ∙ sym c.ne.ensures ∙ c.if-ne.true)

pub returns : goal.returns
returns c =
    let a = c.args in
    let f : SFits w64 (get_or a.numbers.now a.i (pos 0)) = search rules in
    first-left (eqb (a.m % 2) 1) _ _ (eq-eqb _ _ c.if-places-i.false) (ap not (sym (read-same _ a.n.0 f)) ∙ sym c.ne.ensures ∙ c.if-ne.false)
