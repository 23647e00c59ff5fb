-- `handshake_out::handshake::put_pid` meets its contract. Assumes nothing.
use Rattle.handshake_out.proofs.BodyLaws.{pid-stored}
use Rattle.handshake_out.proofs.handshake.put_pid.Goals as goal

pub returns : goal.returns
returns c =
    pid-stored _ _ _ c.put_u32.ensures c.put_u16.ensures c.put_u16-2.ensures c.put_u32-2.ensures
