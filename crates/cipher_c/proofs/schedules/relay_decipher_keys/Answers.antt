-- `cipher_c::schedules::relay_decipher_keys` meets its contract. Assumes nothing.
use mathlib.Core.Path.{ap, ◌∙◌}
use Rattle.aes.specs.Back.{back_keys}
use Rattle.cipher_c.proofs.schedules.relay_decipher_keys.Goals as goal

pub returns : goal.returns
returns c = c.back_keys-bytes.ensures ∙ ap back_keys c.round_keys-w.ensures
