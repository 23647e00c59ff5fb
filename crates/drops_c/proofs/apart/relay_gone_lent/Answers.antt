-- A gone peer, of members that lie apart: the times play no part, and masks and order are stored back.
-- Assumes nothing.
use mathlib.Core.Path.{ap, ◌∙◌}
use mathlib.Core.List.{List}
use lib.IntN.{ℤ}
use lib.ListN.{replicate}
use Rattle.inflight.specs.Tables.{table_of, Dropped, gone_of}
use Rattle.inflight.specs.declared.Table.{Table}
use Rattle.drops_c.specs.DropFields.{peer_of, drop_fields}
use Rattle.drops_c.proofs.TimesLaws.{kept, gone_kept, gone-times}
use Rattle.drops_c.proofs.apart.relay_gone_lent.Goals as goal

pub returns : goal.returns
returns c =
    let a = c.args in
    let peer = peer_of a.publisher a.number in
    let of : List ℤ → Table = λ ns. table_of a.masks.now ns a.places.now a.order.now (replicate 65 1) in
    let t : Table = of a.numbers.now in
    let r = c.relay_table_gone-a.ensures in
    λ ts. let e = ap (λ (ns : List ℤ). gone_kept t ts (gone_of (of ns) peer a.out.now)) c.copy.ensures ∙ gone-times t ts peer a.out.now in (
      r.0 ∙ ap (λ (x : Dropped). drop_fields x.answer) e,
      ap (kept t ts) r.1 ∙ ap (λ (x : Dropped). x.table) e,
      r.2 ∙ ap (λ (x : Dropped). x.slice) e,
    )
