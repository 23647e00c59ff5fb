-- `packet_out::sealing::put_head` meets its contract. Assumes nothing.
use Rattle.packet_out.proofs.PacketLaws.{head-stored}
use Rattle.packet_out.proofs.sealing.put_head.Goals as goal

pub returns : goal.returns
returns c =
    head-stored _ _ _ _ c.put_u32.ensures c.put_u32-2.ensures c.put_u32-3.ensures
