-- The lines of dropped requests: after i turns those of the first i. Assumes nothing.
use Rattle.std.proofs.Common.{◌≡◌, ℕ, ap, arith, add-one, ◌∙◌}
use mir.Syntax.{w64}
use Rattle.wire.proofs.SignLaws.{back}
use Rattle.walk_turn.specs.Lines.{drop_lines, drop_line, drop_word}
use Rattle.walk_turn.proofs.WroteLaws.{pair_is, then, wrote_is, none-yet}
use Rattle.walk_turn.proofs.lines.Lines.drops.Goals as goal

pub loop-i-init : goal.loop-i-init
unfolding drop_lines
loop-i-init c = record { wrote = none-yet _; short = omega arith }

pub loop-i-preserved : goal.loop-i-preserved
unfolding drop_lines drop_line
loop-i-preserved c =
    let place = c.number_at-place in
    let number = c.number_at-number in
    let a = back w64 place.result place.type_inv ∙ place.ensures in
    let b = back w64 number.result number.type_inv ∙ number.ensures in
    record {
      wrote = rw add-one (then c.loop-i.invariant.wrote (wrote_is (pair_is drop_word a b) c.pair.ensures.wrote));
      short = omega (arith, c.pair.ensures.short, c.loop-i.invariant.short);
    }

pub returns : goal.returns
returns c =
    let i : c.loop-i.i ≡ c.args.n = omega arith in
    wrote_is (ap (λ (n : ℕ). drop_lines n c.args.ends.now) i) c.loop-i.invariant.wrote
