-- Gone neither reads the times nor changes numbers, places or times, and run out changes neither numbers nor places.
-- Assumes nothing.
use mathlib.Core.Path.{◌≡◌, refl}
use Prim.Native.Nat.{ℕ, ◌*◌}
use mathlib.Core.Bool.{Bool, true, false}
use mathlib.Core.List.{List}
use lib.Dec.{ltb}
use lib.IntN.{ℤ}
use lib.ListN.{length}
use Rattle.std.specs.Prelude.{Ok, Err}
use Rattle.wire.specs.Choice.{pick}
use Rattle.refusal.specs.declared.Refusal.TheVariants.{OutOfRange, BufferTooSmall}
use Rattle.inflight.specs.Matching.{over_front}
use Rattle.inflight.specs.Model.{no_peer, no_time}
use Rattle.inflight.specs.Tables.{table_of, slots_of, other_at, leaving, line, ends_at, ends_of, struck, Dropped, drop_of, gone_of, latest_of, due_of, dropped_at, run_out_of}
use Rattle.inflight.specs.declared.Peer.{Peer}
use Rattle.inflight.specs.declared.Table.{Table}

-- a function of one of three
of-three : {A B : Type 0} (f : A → B) (a b : Bool) (x y z : A) → f (pick a x (pick b y z)) ≡ pick a (f x) (pick b (f y) (f z))
of-three f true b x y z = refl
of-three f false true x y z = refl
of-three f false false x y z = refl

-- two functions that agree on each of three
same-of-three : {A B : Type 0} (f g : A → B) (h : A → A) (a b : Bool) (x y z : A) → f x ≡ g x → f (h y) ≡ g (h y) → f (h z) ≡ g (h z)
    → f (pick a x (h (pick b y z))) ≡ g (pick a x (h (pick b y z)))
same-of-three f g h true b x y z p q r = p
same-of-three f g h false true x y z p q r = q
same-of-three f g h false false x y z p q r = r

-- a table with the numbers and places of another, and any times
abbrev pub kept : Table → List ℕ → Table → Table
kept t ts u = table_of u.masks t.numbers t.places u.order ts

abbrev pub gone_kept : Table → List ℕ → Dropped → Dropped
gone_kept t ts r = record { table = kept t ts r.table; answer = r.answer; slice = r.slice }

pub gone-times : (t : Table) (ts : List ℕ) (peer : Peer) (out : List ℤ) → gone_kept t ts (gone_of t peer out) ≡ gone_of (kept t ts t) peer out
unfolding gone_of drop_of struck line
gone-times t ts peer out =
    let m = slots_of t.masks t.places peer in
    of-three (gone_kept t ts) (no_peer peer) (ltb (length out) (2 * length (leaving t m)))
    (record { table = t; answer = Err OutOfRange; slice = out })
    (record { table = t; answer = Err BufferTooSmall; slice = out })
    (record {
      table = struck t m;
      answer = Ok (length (leaving t m));
      slice = over_front (ends_of t.numbers t.places (other_at peer) (leaving t m)) out;
    })

pub run-out-keeps : (t : Table) (time : ℕ) (out : List ℤ) → kept t (run_out_of t time out).table.times (run_out_of t time out).table ≡ (run_out_of t time out).table
unfolding run_out_of drop_of struck
run-out-keeps t time out =
    let now = latest_of t.times time in
    let m = due_of t.masks t.times now in
    same-of-three (λ (r : Dropped). kept t r.table.times r.table) (λ (r : Dropped). r.table) (dropped_at t.times now) (no_time time) (ltb (length out) (2 * length (leaving t m)))
    (record { table = t; answer = Err OutOfRange; slice = out })
    (record { table = t; answer = Err BufferTooSmall; slice = out })
    (record {
      table = struck t m;
      answer = Ok (length (leaving t m));
      slice = over_front (ends_of t.numbers t.places (ends_at false) (leaving t m)) out;
    })
    refl
    refl
    refl
