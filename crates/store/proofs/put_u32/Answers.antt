-- `store::put_u32` meets its contract: its bytes, as many as fit. Assumes nothing.
use mathlib.Core.Path.{ap, ◌∙◌}
use lib.Seq.{sets}
use Rattle.wire.proofs.ByteLaws.{library_bytes}
use Rattle.store.proofs.put_u32.Goals as goal

pub returns : goal.returns
returns c = let a = c.args in c.copy.ensures ∙ ap (sets a.d.now a.at) (c.to_le_bytes.ensures ∙ library_bytes 4 a.n)
