-- Run out, of members that lie apart: masks, order and times are stored back, and nothing else would change.
-- Assumes nothing.
use mathlib.Core.Path.{ap, ◌∙◌}
use mathlib.Core.List.{List}
use Prim.Native.Nat.{ℕ}
use lib.IntN.{ℤ}
use Rattle.inflight.specs.Tables.{table_of, Dropped, run_out_of}
use Rattle.inflight.specs.declared.Table.{Table}
use Rattle.drops_c.specs.DropFields.{drop_fields}
use Rattle.drops_c.proofs.TimesLaws.{kept, run-out-keeps}
use Rattle.drops_c.proofs.apart.relay_run_out_lent.Goals as goal

pub returns : goal.returns
returns c =
    let a = c.args in
    let of : List ℤ → List ℕ → Table = λ ns ts. table_of a.masks.now ns a.places.now a.order.now ts in
    let t : Table = of a.numbers.now a.times.now in
    let r = c.relay_table_run_out-a.ensures in
    let u = c.relay_table_run_out-a.new.table in
    let e =
    ap (λ (ns : List ℤ). run_out_of (of ns c.copy-2.new.to) a.time a.out.now) c.copy.ensures
    ∙ ap (λ (ts : List ℕ). run_out_of (of a.numbers.now ts) a.time a.out.now) c.copy-2.ensures
    in (
      r.0 ∙ ap (λ (x : Dropped). drop_fields x.answer) e,
      ap (λ (ts : List ℕ). kept t ts u) c.copy-3.ensures ∙ ap (λ (x : Table). kept t x.times x) (r.1 ∙ ap (λ (x : Dropped). x.table) e)
          ∙ run-out-keeps t a.time a.out.now,
      r.2 ∙ ap (λ (x : Dropped). x.slice) e,
    )
