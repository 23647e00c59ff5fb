-- `store::put_u8` meets its contract. Assumes nothing.
use mathlib.Core.Path.{sym}
use native.Mathlib.Omega.{arith}
use Rattle.wire.specs.Bytes.{bytes}
use Rattle.wire.proofs.StoreLaws.{byte-stored, sets-past}
use Rattle.store.proofs.put_u8.Goals as goal

pub returns-then-at-d : goal.returns-then-at-d
returns-then-at-d c = byte-stored c.args.d.now c.args.at c.args.n (omega arith)

pub returns-else-at-d : goal.returns-else-at-d
returns-else-at-d c = sym (sets-past c.args.d.now c.args.at (bytes 1 c.args.n) c.if-at-d.false)
