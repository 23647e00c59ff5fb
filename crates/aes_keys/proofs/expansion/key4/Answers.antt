-- `aes_keys::expansion::key4` meets its contract. Assumes nothing.
use Rattle.aes_keys.proofs.Schedule.{read_word}
use Rattle.aes_keys.proofs.expansion.key4.Goals as goal

pub returns : goal.returns
returns c =
    let a = c.args in
    read_word a.k.now a.at c.requires (λ j. (c.type_inv.k j).fits) c.u32_at.ensures
