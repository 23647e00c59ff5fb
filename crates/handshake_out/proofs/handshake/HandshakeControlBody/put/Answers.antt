-- `handshake_out::handshake::Handshake` stores its bytes. Assumes nothing.
use Rattle.handshake_out.proofs.BodyLaws.{handshake-stored}
use Rattle.handshake_out.proofs.handshake.HandshakeControlBody.put.Goals as goal

pub returns : goal.returns
returns c =
    handshake-stored _ _ _ _ c.put_u32.ensures c.put_pid.ensures c.put_pid-2.ensures
