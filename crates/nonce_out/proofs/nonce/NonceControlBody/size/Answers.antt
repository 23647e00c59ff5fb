-- `nonce_out::nonce::Nonce` has 60 bytes. Assumes nothing.
use mathlib.Core.Path.{sym}
use Rattle.std.proofs.Common.{rules}
use Rattle.nonce_out.proofs.BodyLaws.{length-ours}
use Rattle.nonce_out.proofs.nonce.NonceControlBody.size.Goals as goal

pub returns : goal.returns
returns c = sym (length-ours _ _ _ (search rules) (search rules))
