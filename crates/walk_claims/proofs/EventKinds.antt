-- The two kinds name the one call, and that call is what the two were; the kinds with a time, and an ask without one.
-- Assumes nothing.
use mathlib.Core.Path.{◌≡◌, refl, sym, ap, subst}
use Prim.Native.Nat.{ℕ, ◌≤◌, ◌<◌}
use native.Mathlib.Omega.{arith}
use mathlib.Core.List.{List, ◌∷◌}
use lib.ListN.{length, get_or}
use borrow.Author.Tests.{ne_eqb, lt-leb}
use Rattle.wire.specs.Bytes.{le, part}
use Rattle.inflight.specs.Tables.{Asked, Dropped, ask_of, gone_of, run_out_of}
use Rattle.inflight.specs.declared.Table.{Table}
use Rattle.inflight.specs.declared.Peer.{Peer}
use Rattle.inflight.specs.declared.Peer.TheVariants as P
use Rattle.inflight_claims.proofs.TwoCalls.{for-both}
use Rattle.inflight_claims.specs.OldAsks.{old_ask_of}
use Rattle.inflight_claims.proofs.OldAsks.{old-asks}
use Rattle.walk_turn.specs.Lines.{gone_word, out_word, ask_line, call_lines}
use Rattle.walk_turn.specs.Turn.{lines_of, after_event, lent_slice}
use Rattle.walk_turn.specs.declared.Event.{Event}
use Rattle.walk_turn.specs.declared.NoEvent.{NoEvent}
use Rattle.std.specs.Prelude.{Result, Ok}
use Rattle.walk_turn.specs.declared.Event.TheVariants.{Ask, Gone, AskBy, RunOut}
use Rattle.walk_events.specs.Events.{event_of, body_of, body_size, front_number}
use Rattle.walk_claims.specs.EventKinds.{Printed, KindsAsBefore, AskPrinted, KindsOfTime}

module _ (n : ℕ) (rest : List ℕ) where
  whole : (kind : ℕ) → 1 < length (kind ∷ n ∷ rest)
  whole kind = omega arith

  some : (kind : ℕ) → length (kind ∷ n ∷ rest) ≡ 0 → ⊥
  some kind e = omega arith

  kind-4 : event_of (4 ∷ n ∷ rest) ≡ Ok (Gone (P.Front n))
  unfolding event_of body_of body_size
  kind-4 = rw (ne_eqb _ 0 (some 4), lt-leb _ 1 (whole 4))

  kind-5 : event_of (5 ∷ n ∷ rest) ≡ Ok (Gone (P.Publisher n))
  unfolding event_of body_of body_size
  kind-5 = rw (ne_eqb _ 0 (some 5), lt-leb _ 1 (whole 5))

-- an event that is a gone peer is printed as what its call answers
printed : (t : Table) (peer : Peer) {e : Result Event NoEvent} {r : Dropped} → e ≡ Ok (Gone peer) → gone_of t peer lent_slice ≡ r
    → Printed t e 2 (gone_word peer) r
unfolding lines_of after_event call_lines
printed t peer {e} {r} p q =
    subst (λ (x : Result Event NoEvent). Printed t x 2 (gone_word peer) r) (sym p)
    (subst (λ (x : Dropped). Printed t (Ok (Gone peer)) 2 (gone_word peer) x) q
    (record { size = refl; lines = refl; after = refl }))

pub kinds-as-before : KindsAsBefore
kinds-as-before =
    record {
      closed = λ t l rest. printed t (P.Front l) (kind-4 l rest) (for-both.closed t l lent_slice);
      lost = λ t p rest. printed t (P.Publisher p) (kind-5 p rest) (for-both.lost t p lent_slice);
    }

-- ---- kinds 1, 6 and 7

-- a whole record of a kind
module _ (kind : ℕ) (es : List ℕ) where
  whole-event : (body_size kind ≡ 0 → ⊥) → body_size kind ≤ length es → event_of (kind ∷ es) ≡ Ok (body_of kind (kind ∷ es))
  unfolding event_of
  whole-event z h =
      rw (ne_eqb (length (kind ∷ es)) 0 (λ e. omega arith), ne_eqb (body_size kind) 0 z, lt-leb _ _ (long h))
    where
      long : body_size kind ≤ length es → body_size kind < length (kind ∷ es)
      long k = omega arith

module _ (es : List ℕ) where
  kind_1 : 10 ≤ length es → event_of (1 ∷ es) ≡ Ok (Ask (get_or es 0 0) (front_number (1 ∷ es)) (get_or es 9 0))
  unfolding body_size body_of
  kind_1 h = whole-event 1 es (λ e. omega arith) h

  kind-6 : 22 ≤ length es
      → event_of (6 ∷ es)
      ≡ Ok (AskBy (get_or es 0 0) (front_number (6 ∷ es)) (get_or es 9 0) (le (part es 10 8)) (le (part es 18 4)))
  unfolding body_size body_of
  kind-6 h = whole-event 6 es (λ e. omega arith) h

  kind-7 : 8 ≤ length es → event_of (7 ∷ es) ≡ Ok (RunOut (le (part es 0 8)))
  unfolding body_size body_of
  kind-7 h = whole-event 7 es (λ e. omega arith) h

module _ (t : Table) (es : List ℕ) where
  abbrev link : ℕ
  link = get_or es 0 0

  abbrev publisher : ℕ
  publisher = get_or es 9 0

  one-printed : 10 ≤ length es
      → AskPrinted t (event_of (1 ∷ es)) 11 (old_ask_of t link (front_number (1 ∷ es)) publisher).answer
      (ask_of t link (front_number (1 ∷ es)) publisher 0 0).table
  unfolding lines_of after_event call_lines
  one-printed h =
      subst
      (λ (e : Result Event NoEvent). AskPrinted t e 11 (old_ask_of t link (front_number (1 ∷ es)) publisher).answer
      (ask_of t link (front_number (1 ∷ es)) publisher 0 0).table)
      (sym (kind_1 es h))
      (record {
        size = refl;
        line = ap ask_line (old-asks t link (front_number (1 ∷ es)) publisher).answer;
        after = refl;
      })

  abbrev timed : Asked
  timed = ask_of t link (front_number (6 ∷ es)) publisher (le (part es 10 8)) (le (part es 18 4))

  six-printed : 22 ≤ length es → AskPrinted t (event_of (6 ∷ es)) 23 timed.answer timed.table
  unfolding lines_of after_event call_lines
  six-printed h =
      subst (λ (e : Result Event NoEvent). AskPrinted t e 23 timed.answer timed.table) (sym (kind-6 es h))
      (record { size = refl; line = refl; after = refl })

  seven-printed : 8 ≤ length es
      → Printed t (event_of (7 ∷ es)) 9 out_word (run_out_of t (le (part es 0 8)) lent_slice)
  unfolding lines_of after_event call_lines
  seven-printed h =
      subst (λ (e : Result Event NoEvent). Printed t e 9 out_word (run_out_of t (le (part es 0 8)) lent_slice)) (sym (kind-7 es h))
      (record { size = refl; lines = refl; after = refl })

pub kinds-of-time : KindsOfTime
kinds-of-time = record { one = one-printed; six = six-printed; seven = seven-printed }
