-- `aes_loops::column::turned` meets its contract. Assumes nothing.
use Rattle.std.proofs.Common.{◌≡◌, ◌%◌, sym, ap, ◌∙◌, arith}
use Rattle.aes_loops.specs.Rows.{ending}
use Rattle.aes_loops.proofs.Turns.{ending-0, ending-1, ending-2, ending-3}
use Rattle.aes_loops.proofs.column.turned.Goals as goal

pub returns-in-0 : goal.returns-in-0
returns-in-0 c = ending-0 c.args.w ∙ ap (ending c.args.w) (sym c.in-0.is)

pub returns-in-1 : goal.returns-in-1
returns-in-1 c = ending-1 c.args.w ∙ ap (ending c.args.w) (sym c.in-1.is)

pub returns-in-2 : goal.returns-in-2
returns-in-2 c = ending-2 c.args.w ∙ ap (ending c.args.w) (sym c.in-2.is)

pub returns-in_default : goal.returns-in_default
returns-in_default c =
    let e : 3 ≡ c.args.r % 4 = omega arith in
    ending-3 c.args.w ∙ ap (ending c.args.w) e
