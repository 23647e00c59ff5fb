-- `nonce_out::nonce::put_fields` meets its contract. Assumes nothing.
use Rattle.nonce_out.proofs.BodyLaws.{fields-stored}
use Rattle.nonce_out.proofs.nonce.put_fields.Goals as goal

pub returns : goal.returns
returns c =
    fields-stored _ _ _ _ _ c.put_u32.ensures c.put_u8.ensures c.put_u8-2.ensures c.put_u16.ensures c.put_u32-2.ensures
