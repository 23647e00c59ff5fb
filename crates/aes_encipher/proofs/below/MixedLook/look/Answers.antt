-- `aes_encipher::below::Mixed` meets the contract of a look-up. Assumes nothing.
use Rattle.std.proofs.Common.{◌≡◌, ◌%◌, ap, ◌∙◌, arith}
use Rattle.aes_loops.specs.Rows.{turns, ending}
use Rattle.aes_loops.proofs.Turns.{twice-ending}
use Rattle.aes_encipher.proofs.below.MixedLook.look.Goals as goal

pub returns : goal.returns
returns c =
    let w = c.column_of in
    let r = c.args.r in
    let e : r % 4 ≡ r = omega (arith, c.requires) in
    c.turned.ensures ∙ ap (ending w.result) e ∙ twice-ending w.result w.ensures.again r c.requires
    ∙ ap (turns r) w.ensures.word
