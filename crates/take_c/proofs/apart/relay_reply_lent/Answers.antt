-- Reply, of members that lie apart: the times play no part, and masks and order are stored back.
-- Assumes nothing.
use mathlib.Core.Path.{ap, ◌∙◌}
use mathlib.Core.List.{List}
use lib.IntN.{ℤ}
use lib.ListN.{replicate}
use Rattle.inflight.specs.Tables.{table_of, Replied, reply_of}
use Rattle.inflight.specs.declared.Table.{Table}
use Rattle.take_c.specs.TakeFields.{reply_fields}
use Rattle.take_c.proofs.TimesLaws.{kept, reply_kept, reply-times}
use Rattle.take_c.proofs.apart.relay_reply_lent.Goals as goal

pub returns : goal.returns
returns c =
    let a = c.args in
    let of : List ℤ → Table = λ ns. table_of a.masks.now ns a.places.now a.order.now (replicate 65 1) in
    let t : Table = of a.numbers.now in
    let r = c.relay_table_reply-a.ensures in
    λ ts. let e = ap (λ (ns : List ℤ). reply_kept t ts (reply_of (of ns) a.publisher a.number)) c.copy.ensures ∙ reply-times t ts a.publisher a.number in (
      r.0 ∙ ap (λ (x : Replied). reply_fields x.answer) e,
      ap (kept t ts) r.1 ∙ ap (λ (x : Replied). x.table) e,
    )
