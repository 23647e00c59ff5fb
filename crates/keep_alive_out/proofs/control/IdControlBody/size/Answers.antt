-- `keep_alive_out::control::Id` has 8 bytes. Assumes nothing.
use mathlib.Core.Path.{sym}
use Rattle.wire.proofs.ByteLaws.{length-bytes}
use Rattle.keep_alive_out.proofs.control.IdControlBody.size.Goals as goal

pub returns : goal.returns
returns c = sym (length-bytes 8 _)
