-- Reply and cancel neither read the times nor change numbers, places or times.
-- Assumes nothing.
use mathlib.Core.Path.{◌≡◌, refl}
use Prim.Native.Nat.{ℕ}
use mathlib.Core.Bool.{Bool, true, false}
use mathlib.Core.List.{List}
use lib.Dec.{leb}
use lib.IntN.{pos}
use Rattle.std.specs.Prelude.{Ok, Err}
use Rattle.wire.specs.Choice.{pick}
use Rattle.refusal.specs.declared.Refusal.TheVariants.{OutOfRange, NumberZero, NoSuchRequest}
use Rattle.inflight.specs.Masks.{slots, seek}
use Rattle.inflight.specs.Model.{no_link, no_publisher}
use Rattle.inflight.specs.Numbers.{same}
use Rattle.inflight.specs.Tables.{table_of, used, mine, is_number, is_front, freed, front_end, publisher_end, Replied, reply_of, Cancelled, cancel_of}
use Rattle.inflight.specs.declared.FrontNumber.{FrontNumber}
use Rattle.inflight.specs.declared.PublisherNumber.{PublisherNumber}
use Rattle.inflight.specs.declared.Table.{Table}

-- a function of one of four
of-four : {A B : Type 0} (f : A → B) (a b c : Bool) (w x y z : A)
    → f (pick a w (pick b x (pick c y z))) ≡ pick a (f w) (pick b (f x) (pick c (f y) (f z)))
of-four f true b c w x y z = refl
of-four f false true c w x y z = refl
of-four f false false true w x y z = refl
of-four f false false false w x y z = refl

-- a table with the numbers and places of another, and any times
abbrev pub kept : Table → List ℕ → Table → Table
kept t ts u = table_of u.masks t.numbers t.places u.order ts

abbrev pub reply_kept : Table → List ℕ → Replied → Replied
reply_kept t ts r = record { table = kept t ts r.table; answer = r.answer }

abbrev pub cancel_kept : Table → List ℕ → Cancelled → Cancelled
cancel_kept t ts r = record { table = kept t ts r.table; answer = r.answer }

pub reply-times : (t : Table) (ts : List ℕ) (p : ℕ) (n : PublisherNumber) → reply_kept t ts (reply_of t p n) ≡ reply_of (kept t ts t) p n
unfolding reply_of freed
reply-times t ts p n =
    let s = seek (is_number t.numbers n) (slots (mine t p)) in
    of-four (reply_kept t ts) (no_publisher p) (same n.0 (pos 0)) (leb 64 s)
    (record { table = t; answer = Err OutOfRange })
    (record { table = t; answer = Err NumberZero })
    (record { table = t; answer = Err NoSuchRequest })
    (record { table = freed t s; answer = Ok (front_end t s) })

pub cancel-times : (t : Table) (ts : List ℕ) (l : ℕ) (n : FrontNumber) → cancel_kept t ts (cancel_of t l n) ≡ cancel_of (kept t ts t) l n
unfolding cancel_of freed
cancel-times t ts l n =
    let s = seek (is_front t.numbers t.places l n) (slots (used t)) in
    of-four (cancel_kept t ts) (no_link l) (same n.0 (pos 0)) (leb 64 s)
    (record { table = t; answer = Err OutOfRange })
    (record { table = t; answer = Err NumberZero })
    (record { table = t; answer = Err NoSuchRequest })
    (record { table = freed t s; answer = Ok (publisher_end t s) })
