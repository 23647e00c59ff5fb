-- `keep_alive_out::control::pong_step` meets its contract. Assumes nothing.
use Rattle.keep_alive_out.specs.KeepAlive.{pong_step, pong_buffer}
use Rattle.keep_alive_out.proofs.control.pong_step.Goals as goal

pub returns : goal.returns
unfolding pong_step pong_buffer
returns c = c.control_body_step.ensures
