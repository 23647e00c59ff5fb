-- `text_out::put_head` meets its contract. Assumes nothing.
use mathlib.Core.Path.{ap, ◌∙◌}
use lib.Seq.{sets}
use Rattle.text.proofs.TextLaws.{head-short, head-long}
use Rattle.text_out.proofs.put_head.Goals as goal

pub returns-then-n-lt254 : goal.returns-then-n-lt254
returns-then-n-lt254 c =
    let a = c.args in
    c.put_u8.ensures ∙ ap (sets a.d.now a.at) (head-short a.n c.if-n-lt254.true)

pub returns-else-n-lt254 : goal.returns-else-n-lt254
returns-else-n-lt254 c =
    let a = c.args in
    c.put_u32.ensures ∙ ap (sets a.d.now a.at) (head-long a.n c.if-n-lt254.false)
