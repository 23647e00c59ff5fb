-- On a tied table that has seen times in range, a run-out is answered, its slice written and the table left as the model
-- does.
-- Assumes nothing.
use mathlib.Core.Path.{◌≡◌, refl, sym, ap, ◌∙◌}
use Prim.Native.Nat.{ℕ, ◌*◌, ◌^◌, ◌<◌}
use native.Mathlib.Omega.{arith}
use mathlib.Core.Bool.{Bool, true, false}
use mathlib.Core.List.{List, [], ◌∷◌, map}
use lib.Dec.{ltb}
use lib.IntN.{ℤ}
use lib.ListN.{length, get_or, set}
use lib.Seq.{get_or-set_same, get_or-set_other}
use borrow.Author.Tests.{leb-false}
use Rattle.wire.specs.Choice.{pick}
use Rattle.inflight.specs.Masks.{bit_at}
use Rattle.inflight.specs.Matching.{matches, matching, without, other_ends, over_front}
use Rattle.inflight.specs.Requests.{Request, Due, Lost}
use Rattle.inflight.specs.declared.Peer.TheVariants as P
use Rattle.inflight.specs.Model.{Model, no_time, check_drop, drop_answer, drop_slice}
use Rattle.inflight.specs.Model.{run_out_key, run_out_answer, run_out_slice, run_out}
use Rattle.inflight.specs.Tables.{Sized, table_of, line, used, leaving, ends_at, ends_of, struck, Dropped, drop_of}
use Rattle.inflight.specs.declared.Table.{Table}
use Rattle.inflight.specs.Tables.{latest_of, is_due, due_of, run_out_of}
use Rattle.inflight_tied.proofs.Tied.{Below, Tied, entry, in_flight, model_of}
use Rattle.inflight_tied.proofs.Cuts.{struck-tied}
use Rattle.inflight_tied.proofs.Drops.{gather-fits, gathered-bit, hit-has, within-below, peer-ends}
use Rattle.inflight_tied.proofs.Loads.{length-of-map}
use Rattle.inflight_tied.proofs.Struck.{struck-standing, leaving-matching}
use Rattle.inflight_tied.proofs.Asks.{latest-same}
use Rattle.std.specs.Prelude.{Ok}

-- ---- a table that sees a time: no request changes

abbrev pub seeing : Table → ℕ → Table
seeing w now = table_of w.masks w.numbers w.places w.order (set w.times 64 now)

module _ (w : Table) (now : ℕ) where
  entry-seeing : (x : ℕ) → x < 64 → entry (seeing w now) x ≡ entry w x
  unfolding entry
  entry-seeing x h = rw (get_or-set_other w.times 64 x now 0 (λ e. omega arith))

  map-seeing : (xs : List ℕ) → Below 64 xs → map (entry (seeing w now)) xs ≡ map (entry w) xs
  unfolding Below
  map-seeing [] b = refl
  map-seeing (x ∷ xs) b = rw (entry-seeing x b.0, map-seeing xs b.1)

  seeing-standing : Tied w → in_flight (seeing w now) ≡ in_flight w
  unfolding in_flight line
  seeing-standing t = map-seeing (line w) t.low

  pub seeing-tied : Tied w → Tied (seeing w now)
  unfolding line
  seeing-tied t =
      record {
        fits = t.fits;
        narrow = t.narrow;
        low = t.low;
        tie = t.tie;
        own = t.own;
        whole = t.whole;
        aged = t.aged;
      }

-- ---- the due slots

module _ (w : Table) (now : ℕ) where
  abbrev due : ℕ
  due = due_of w.masks w.times now

  -- they are among the 64
  pub due-fits : due < 2 ^ 64
  due-fits = gather-fits (is_due w.times now) 64 0 (used w) 0 (omega arith) (omega arith)

  -- they are the used ones whose request is due
  due-bit : (i : ℕ) → i < 64 → bit_at i due ≡ pick (matches (Due now) (entry w i)) (bit_at i (used w)) 0
  unfolding matches entry
  due-bit i h = gathered-bit (is_due w.times now) (used w) i h

-- the other ends are a lost publisher's
as-lost : (now p : ℕ) (es : List Request) → other_ends (Lost p) es ≡ other_ends (Due now) es
unfolding other_ends
as-lost now p [] = refl
as-lost now p (e ∷ es) = rw (as-lost now p es)

module _ (w : Table) (t : Tied w) (now : ℕ) where
  due-ends : ends_of w.numbers w.places (ends_at false) (leaving w (due w now))
      ≡ other_ends (Due now) (map (entry w) (leaving w (due w now)))
  due-ends =
      peer-ends w (P.Publisher 0) (leaving w (due w now)) (within-below (due w now) (line w) t.low)
      ∙ as-lost now 0 (map (entry w) (leaving w (due w now)))

  -- those that leave are those that are due
  due-leaving : matching (Due now) (in_flight w) ≡ map (entry w) (leaving w (due w now))
  due-leaving = leaving-matching w (Due now) (due w now) t (hit-has w t (Due now) (due w now) (due-bit w now))

  due-count : length (matching (Due now) (in_flight w)) ≡ length (leaving w (due w now))
  due-count =
      ap length due-leaving
      ∙ length-of-map w (leaving w (due w now))

  -- the table without them, which sees the time
  due-model : Sized w → model_of (seeing (struck w (due w now)) now)
      ≡ record { requests = without (Due now) (in_flight w); next = (model_of w).next; seen = now }
  unfolding struck
  due-model z =
      ap
      (λ (l : List Request). record {
        requests = l;
        next = (model_of w).next;
        seen = get_or (set w.times 64 now) 64 0;
      })
      (seeing-standing (struck w (due w now)) now (struck-tied w (due w now) (due-fits w now) t)
      ∙ struck-standing w (Due now) (due w now) t (hit-has w t (Due now) (due w now) (due-bit w now)) (due-fits w now))
      ∙ ap (λ (s : ℕ). record { requests = without (Due now) (in_flight w); next = (model_of w).next; seen = s })
      (get_or-set_same w.times 64 now 0 (let l = z.times in omega arith))

-- ---- the call against the model

pub record RunOutSame (w : Table) (time : ℕ) (out : List ℤ) (r : Dropped) (m : Model) : Type 0 where
  pub answer : r.answer ≡ run_out_answer (model_of w) time out
  pub slice : r.slice ≡ run_out_slice (model_of w) time out
  pub table : model_of r.table ≡ m
  pub kept : Tied r.table

pub run-out-same : (w : Table) → Tied w → Sized w → get_or w.times 64 0 < 4611686018427387904
    → (time : ℕ) (out : List ℤ) → RunOutSame w time out (run_out_of w time out) (run_out (model_of w) time out)
unfolding run_out_of run_out check_drop drop_answer drop_slice drop_of struck
run-out-same w t z seen time out = go (no_time time) refl
  where
    now : ℕ
    now = latest_of w.times time

    g : ℕ
    g = due_of w.masks w.times now

    short : no_time time ≡ false → (b : Bool) → ltb (length out) (2 * length (leaving w g)) ≡ b
        → ltb (length out) (2 * length (matching (run_out_key (model_of w) time) (in_flight w))) ≡ b
    short e b s =
        ap (λ (n : ℕ). ltb (length out) (2 * length (matching (Due n) (in_flight w))))
        (sym (latest-same w time seen (leb-false 4611686018427387904 time e)))
        ∙ ap (λ (n : ℕ). ltb (length out) (2 * n)) (due-count w t now)
        ∙ s

    told : no_time time ≡ false → (b : Bool) → ltb (length out) (2 * length (leaving w g)) ≡ b
        → RunOutSame w time out (run_out_of w time out) (run_out (model_of w) time out)
    told e true s =
        let k = short e true s in
        record { answer = rw (e, s, k); slice = rw (e, s, k); table = rw (e, s, k); kept = rw (e, s) t }
    told e false s =
        let k = short e false s in
        let l = latest-same w time seen (leb-false 4611686018427387904 time e) in
        let ends : ends_of w.numbers w.places (ends_at false) (leaving w g) ≡ other_ends (run_out_key (model_of w) time) (matching (run_out_key (model_of w) time) (in_flight w)) =
        due-ends w t now ∙ ap (other_ends (Due now)) (sym (due-leaving w t now)) ∙ ap (λ (n : ℕ). other_ends (Due n) (matching (Due n) (in_flight w))) l in
        record {
          answer = rw (e, s, k) (ap Ok (sym (ap (λ (n : ℕ). length (matching (Due n) (in_flight w))) (sym l) ∙ due-count w t now)));
          slice = rw (e, s, k) (ap (λ (ns : List ℤ). over_front ns out) ends);
          table = rw (e, s, k) (due-model w t now z ∙ ap (λ (n : ℕ). record { requests = without (Due n) (in_flight w); next = (model_of w).next; seen = n }) l);
          kept = rw (e, s) (seeing-tied (struck w g) now (struck-tied w g (due-fits w now) t));
        }

    go : (x : Bool) → no_time time ≡ x
        → RunOutSame w time out (run_out_of w time out) (run_out (model_of w) time out)
    go true e = record { answer = rw e; slice = rw e; table = rw e; kept = rw e t }
    go false e = told e (ltb (length out) (2 * length (leaving w g))) refl
