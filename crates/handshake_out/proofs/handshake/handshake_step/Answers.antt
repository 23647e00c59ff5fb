-- `handshake_out::handshake::handshake_step` meets its contract. Assumes nothing.
use Rattle.handshake_out.specs.Handshake.{handshake_step, handshake_buffer}
use Rattle.handshake_out.proofs.handshake.handshake_step.Goals as goal

pub returns : goal.returns
unfolding handshake_step handshake_buffer
returns c = rw (← c.flags.ensures) c.control_body_step.ensures
