-- `aes_keys::expansion::round_keys` meets its contract. Assumes nothing.
use mathlib.Core.Path.{refl, ap, ◌∙◌}
use native.Mathlib.Omega.{arith}
use lib.ListN.{replicate}
use Rattle.aes.specs.Aes.{keys}
use Rattle.aes_keys.proofs.Schedule.{key-first}
use Rattle.aes_keys.proofs.expansion.round_keys.Goals as goal

pub expand-requires : goal.expand-requires
expand-requires c = omega arith

pub returns : goal.returns
returns c = c.expand.ensures
    ∙ ap keys (key-first (replicate 240 0) _ (omega
    (arith, c.well_formed.0)) refl
    c.copy.ensures)
