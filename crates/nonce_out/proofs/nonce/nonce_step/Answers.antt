-- `nonce_out::nonce::nonce_step` meets its contract. Assumes nothing.
use Rattle.nonce_out.specs.Nonce.{nonce_step, nonce_buffer}
use Rattle.nonce_out.proofs.nonce.nonce_step.Goals as goal

pub returns : goal.returns
unfolding nonce_step nonce_buffer
returns c = c.control_body_step.ensures
