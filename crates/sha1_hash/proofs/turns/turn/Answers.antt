-- `sha1_hash::turns::turn` meets its contract. Assumes nothing.
use Rattle.std.proofs.Common.{ℕ, sym, ap, ◌∙◌, add-one, arith}
use Rattle.sha1_hash.specs.Sha1.{schedule, step, steps}
use Rattle.sha1_hash.proofs.Words.{fill-next, step-word}
use Rattle.sha1_hash.proofs.turns.turn.Goals as goal

pub returns : goal.returns
unfolding steps
returns c = λ m e.
    let a = c.args in
    let b = a.b.now in
    let t = a.t in
    let v = schedule b 80 in
    let n = fill-next b t a.w.now c.word.result (omega arith) c.word.ensures e.words in record {
      words = n;
      state =
          c.step.ensures ∙ step-word b t _ a.q c.requires n ∙ ap (step v t) e.state
          ∙ ap (λ (n : ℕ). steps v n m) (sym (add-one t));
    }
