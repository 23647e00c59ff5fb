-- `walk_steps::moves::move_front` meets its contract. Assumes nothing.
use Rattle.std.proofs.Common.{◌∙◌, ◌-◌, arith}
use Rattle.walk_steps.proofs.MoveLaws.{moved}
use Rattle.walk_steps.proofs.moves.move_front.Goals as goal

pub returns : goal.returns
returns c =
    let a = c.args in
    c.copy_within.ensures.after ∙ moved a.buf.now a.from (a.end - a.from) (omega arith)
