-- The number after one.
use borrow.Author.Rules.{rules}
use mathlib.Core.Path.{◌≡◌, ap, ◌∙◌}
use lib.IntN.{ℤ, pos, ◌+ℤ◌}
use mir.Syntax.{w64}
use mir.Val.{SFits, of_z, to_z}
use mir.Facts.{to_z-of_z}
use Rattle.inflight.specs.Numbers.{after}
use Rattle.inflight.proofs.NumberLaws.{eq-same, ne_same}
use Rattle.inflight_rules.proofs.NumberingLaws.{largest, next_fits}
use Rattle.inflight_rules.proofs.numbering.step.Goals as goal

pub returns-then-n-eq9223372036854775807 : goal.returns-then-n-eq9223372036854775807
unfolding after
returns-then-n-eq9223372036854775807 c =
    let n : ℤ = c.args.n.0 in
    let f : SFits w64 n = search rules in
    rw (eq-same n (pos 9223372036854775807) (largest n f c.if-n-eq9223372036854775807.true))

pub overflow_add-result : goal.overflow_add-result
overflow_add-result c =
    let n : ℤ = c.args.n.0 in
    let f : SFits w64 n = search rules in
    rw (to_z-of_z f) (next_fits n f (λ e. c.if-n-eq9223372036854775807.false (ap (of_z w64) e)))

pub returns : goal.returns
unfolding after
returns c =
    let n : ℤ = c.args.n.0 in
    let f : SFits w64 n = search rules in
    let g : (n ≡ pos 9223372036854775807 → ⊥) = λ e. c.if-n-eq9223372036854775807.false (ap (of_z w64) e) in
    rw (ne_same n (pos 9223372036854775807) g) (ap (λ (z : ℤ). record { 0 = z }) (ap (λ (z : ℤ). to_z w64 (of_z w64 (z +ℤ pos 1))) (to_z-of_z f) ∙ to_z-of_z (next_fits n f g)))
