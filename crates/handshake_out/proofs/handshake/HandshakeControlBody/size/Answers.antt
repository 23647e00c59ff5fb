-- `handshake_out::handshake::Handshake` has 28 bytes. Assumes nothing.
use mathlib.Core.Path.{sym}
use Rattle.handshake_out.proofs.BodyLaws.{length-handshake}
use Rattle.handshake_out.proofs.handshake.HandshakeControlBody.size.Goals as goal

pub returns : goal.returns
returns c = sym (length-handshake _ _ _)
