-- A call in range frees the requests in the due slots, and its time is seen.
-- Assumes nothing.
use mathlib.Core.Path.{◌≡◌, refl}
use mathlib.Core.Bool.{Bool, true, false}
use mathlib.Core.List.{List}
use Prim.Native.Nat.{ℕ, ◌*◌}
use lib.Dec.{ltb}
use lib.IntN.{ℤ}
use lib.ListN.{length, set}
use Rattle.std.specs.Prelude.{Ok, Err}
use Rattle.refusal.specs.declared.Refusal.{Refusal}
use Rattle.inflight.specs.Model.{no_time}
use Rattle.inflight.specs.Tables.{table_of, latest_of, ends_at, leaving, struck, Dropped, drop_of, due_of, dropped_at, run_out_of}
use Rattle.inflight.specs.declared.Table.{Table}

-- freeing slots leaves the times
pub drop-times : (t : Table) (mask base : ℕ) (out : List ℤ) → (drop_of t mask base out).table.times ≡ t.times
unfolding drop_of struck
drop-times t mask base out = go (ltb (length out) (2 * length (leaving t mask))) refl
  where
    go : (b : Bool) → ltb (length out) (2 * length (leaving t mask)) ≡ b → (drop_of t mask base out).table.times ≡ t.times
    go true e = rw e
    go false e = rw e

pub run-out-eq : (t : Table) (time : ℕ) (out : List ℤ) (now mask : ℕ) → no_time time ≡ false → now ≡ latest_of t.times time → mask ≡ due_of t.masks t.times now
    → dropped_at t.times now (drop_of t mask (ends_at false) out) ≡ run_out_of t time out
unfolding run_out_of
run-out-eq t time out now mask r l m = rw (r, m, l)

-- what freeing the slots leaves of a table, with the time seen or not
module _ (ts : List ℕ) (now : ℕ) (d : Dropped) (same : d.table.times ≡ ts) where
  pub unseen : (r : Refusal) → d.answer ≡ Err r → d.table ≡ (dropped_at ts now d).table
  unseen r e = rw (e, ← same)

  pub seen : (k : ℕ) → d.answer ≡ Ok k
      → table_of d.table.masks d.table.numbers d.table.places d.table.order (set d.table.times 64 now) ≡ (dropped_at ts now d).table
  seen k e = rw (e, same)
