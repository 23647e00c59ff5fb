-- `aes_back_keys::rounds::back_keys` meets its contract. Assumes nothing.
use native.Mathlib.Omega.{arith}
use Rattle.aes_back_keys.proofs.rounds.back_keys.Goals as goal

pub all_rounds-requires : goal.all_rounds-requires
all_rounds-requires c = omega (arith, c.well_formed.0)
