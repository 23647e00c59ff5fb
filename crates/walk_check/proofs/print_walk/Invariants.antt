-- The text's slice keeps its length.
use Rattle.std.proofs.Common.{◌≡◌, length}
use Rattle.walk_check.proofs.print_walk.Given as goal

abbrev pub invariant-loop : goal.invariant-loop
invariant-loop g l = length l.text ≡ length l.initial.text
