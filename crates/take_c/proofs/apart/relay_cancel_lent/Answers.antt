-- Cancel, of members that lie apart: the times play no part, and masks and order are stored back.
-- Assumes nothing.
use mathlib.Core.Path.{ap, ◌∙◌}
use mathlib.Core.List.{List}
use lib.IntN.{ℤ}
use lib.ListN.{replicate}
use Rattle.inflight.specs.Tables.{table_of, Cancelled, cancel_of}
use Rattle.inflight.specs.declared.Table.{Table}
use Rattle.take_c.specs.TakeFields.{cancel_fields}
use Rattle.take_c.proofs.TimesLaws.{kept, cancel_kept, cancel-times}
use Rattle.take_c.proofs.apart.relay_cancel_lent.Goals as goal

pub returns : goal.returns
returns c =
    let a = c.args in
    let of : List ℤ → Table = λ ns. table_of a.masks.now ns a.places.now a.order.now (replicate 65 1) in
    let t : Table = of a.numbers.now in
    let r = c.relay_table_cancel-a.ensures in
    λ ts. let e = ap (λ (ns : List ℤ). cancel_kept t ts (cancel_of (of ns) a.link a.number)) c.copy.ensures ∙ cancel-times t ts a.link a.number in (
      r.0 ∙ ap (λ (x : Cancelled). cancel_fields x.answer) e,
      ap (kept t ts) r.1 ∙ ap (λ (x : Cancelled). x.table) e,
    )
