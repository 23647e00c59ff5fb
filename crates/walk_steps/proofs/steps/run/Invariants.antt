use mathlib.Core.List.{List}
use Prim.Native.Nat.{ℕ}
use Rattle.walk_steps.specs.Runs.{Run}
use Rattle.walk_steps.proofs.steps.run.Given as goal

-- `walk_steps::steps::run`: each turn starts from what a run of steps left (`Run`), so nothing is lost between two steps. Assumes nothing.

abbrev pub invariant-loop : goal.invariant-loop
invariant-loop g l =
    (text : List ℕ) × Run l.table l.p l.events text
