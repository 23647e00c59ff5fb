-- `keep_alive_out::control::ping_step` meets its contract. Assumes nothing.
use Rattle.keep_alive_out.specs.KeepAlive.{ping_step, ping_buffer}
use Rattle.keep_alive_out.proofs.control.ping_step.Goals as goal

pub returns : goal.returns
unfolding ping_step ping_buffer
returns c = c.control_body_step.ensures
