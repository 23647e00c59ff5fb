-- `sha1_hash::schedule::high_word` meets its contract. Assumes nothing.
use Rattle.std.proofs.Common.{◌∙◌, arith}
use Rattle.sha1_hash.proofs.Words.{be-4}
use Rattle.sha1_hash.proofs.schedule.high_word.Goals as goal

pub returns : goal.returns
returns c = c.from_be_bytes.ensures ∙ be-4 c.args.b.now c.args.at (omega arith)
