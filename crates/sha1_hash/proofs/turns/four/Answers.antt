-- `sha1_hash::turns::four` meets its contract: each turn leaves what the next wants. Assumes nothing.
use Rattle.std.proofs.Common.{add_assoc}
use Rattle.sha1_hash.proofs.turns.four.Goals as goal

pub returns : goal.returns
returns c = λ m e.
    let e2 = simp add_assoc at (c.turn-q-2.ensures m (c.turn-q.ensures m e)) in
    let e3 = simp add_assoc at (c.turn-q-3.ensures m e2) in
    simp add_assoc at (c.turn.ensures m e3)
