-- What is so before step t of a block: the words before it are spread, and the steps before it are done. The proof of
-- the code goes by it. Assumes nothing.
use Rattle.std.specs.Prelude.{ℕ, List, ◌≡◌, take}
use Rattle.sha1_hash.specs.Sha1.{schedule, steps}
use Rattle.sha1_hash.specs.declared.State.{State}

pub record Turned (b : List ℕ) (m : State) (t : ℕ) (w : List ℕ) (q : State) : Type 0 where
  pub words : take t w ≡ schedule b t
  pub state : q ≡ steps (schedule b 80) t m
