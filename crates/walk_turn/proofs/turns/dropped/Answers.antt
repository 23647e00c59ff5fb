-- The lines of requests that were freed: the count, then the other ends. Assumes nothing.
use Rattle.std.proofs.Common.{◌≤◌, ℕ, List, Result, sym, ap, subst, arith, pos}
use mir.Syntax.{w64}
use Rattle.refusal.specs.declared.Refusal.{Refusal}
use Rattle.wire.proofs.SignLaws.{back}
use Rattle.walk_turn.specs.Lines.{line, count_of, dropped_lines}
use Rattle.walk_turn.proofs.WroteLaws.{then, wrote_is}
use Rattle.walk_turn.proofs.turns.dropped.Goals as goal

pub returns-in-Ok : goal.returns-in-Ok
unfolding dropped_lines
returns-in-Ok c =
    let a = c.args in
    let lines : (Result ℕ Refusal → List ℕ) = λ r. dropped_lines a.word.now r a.ends.now in
    let few : c.in-Ok.n ≤ 64 = subst (λ (r : Result ℕ Refusal). count_of r ≤ 64) c.in-Ok.is c.requires.2 in
    let n = back w64 (pos c.in-Ok.n) (omega (arith, few)) in
    wrote_is (sym (ap lines c.in-Ok.is)) (then (wrote_is (ap (line a.word.now) n) c.line.ensures.wrote) c.drops.ensures)

pub returns-in-Err : goal.returns-in-Err
unfolding dropped_lines
returns-in-Err c =
    let a = c.args in
    let lines : (Result ℕ Refusal → List ℕ) = λ r. dropped_lines a.word.now r a.ends.now in
    wrote_is (sym (ap lines c.in-Err.is)) c.refused.ensures
