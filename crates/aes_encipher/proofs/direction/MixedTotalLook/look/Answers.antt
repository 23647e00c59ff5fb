-- `aes_encipher::direction::Mixed` meets the contract of a look-up. Assumes nothing.
use Rattle.std.proofs.Common.{◌%◌, ap, ◌∙◌, arith}
use Rattle.aes_loops.specs.Rows.{turns}
use Rattle.aes_loops.proofs.Turns.{twice-ending}
use Rattle.aes_encipher.proofs.direction.MixedTotalLook.look.Goals as goal

pub returns : goal.returns
returns c =
    let w = c.column_of in
    let r = c.args.r % 4 in
    c.turned.ensures ∙ twice-ending w.result w.ensures.again r (omega arith) ∙ ap (turns r) w.ensures.word
