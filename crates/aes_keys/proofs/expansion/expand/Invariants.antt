-- `aes_keys::expansion::expand` meets its contract. Assumes nothing.
use Rattle.std.proofs.Common.{◌≡◌, ◌-◌, ◌*◌, take}
use Rattle.aes.specs.Aes.{schedule}
use Rattle.aes_keys.proofs.expansion.expand.Given as goal

abbrev pub invariant-loop-i : goal.invariant-loop-i
invariant-loop-i l = take (l.i * 4) l.w ≡ schedule (l.i - 8) (take 32 l.initial.w)
