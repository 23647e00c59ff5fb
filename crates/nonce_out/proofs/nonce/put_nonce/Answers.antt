-- `nonce_out::nonce::put_nonce` meets its contract. Assumes nothing.
use Rattle.nonce_out.proofs.BodyLaws.{nonce-stored}
use Rattle.nonce_out.proofs.nonce.put_nonce.Goals as goal

pub returns : goal.returns
returns c =
    nonce-stored _ _ _ _ c.well_formed.1.1.0.1.1.0.1.0.1 c.key_id.ensures c.encryption.ensures c.version.ensures c.point.ensures c.put_fields.ensures c.copy.ensures c.copy-2.ensures
