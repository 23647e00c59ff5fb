-- `aes_back_keys::rounds::all_rounds` meets its contract. Assumes nothing.
use Rattle.std.proofs.Common.{◌≡◌, ◌*◌, ◌+◌, ◌++◌, length, drop}
use Rattle.aes.specs.Back.{back_to}
use Rattle.aes_back_keys.proofs.rounds.all_rounds.Given as goal

abbrev pub invariant-loop-n : goal.invariant-loop-n
invariant-loop-n l =
    let w = l.initial.d in record {
      long : length (back_to l.n w) ≡ l.n * 16 + 16;
      held : l.d ≡ back_to l.n w ++ drop (l.n * 16 + 16) w;
    }
