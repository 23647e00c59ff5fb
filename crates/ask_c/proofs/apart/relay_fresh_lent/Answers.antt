-- A fresh table of members that lie apart: masks, numbers and times are stored back.
-- Assumes nothing.
use mathlib.Core.Path.{ap, ◌∙◌}
use Rattle.inflight.specs.Tables.{fresh_numbers, fresh_times, fresh_of}
use Rattle.inflight.specs.declared.Table.{Table}
use Rattle.ask_c.proofs.apart.relay_fresh_lent.Goals as goal

pub returns : goal.returns
unfolding fresh_of
returns c =
    let n = c.args.first in
    let r = c.relay_table_fresh-a.ensures in (
      r.0,
      ap (λ (t : Table). t.masks) r.1,
      c.copy-3.ensures ∙ ap (λ (t : Table). t.numbers) r.1 ∙ ap (fresh_numbers n) c.copy.ensures,
      c.copy-4.ensures ∙ ap (λ (t : Table). t.times) r.1 ∙ ap (fresh_times n) c.copy-2.ensures,
    )
