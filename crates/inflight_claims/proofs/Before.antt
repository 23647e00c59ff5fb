-- The table as it was answers every list of calls as the model, and so as the table does.
-- Assumes nothing.
use mathlib.Core.Path.{◌≡◌, refl, sym, ap, ◌∙◌, subst}
use Prim.Native.Nat.{ℕ, ◌<◌}
use mathlib.Core.Bool.{Bool, true, false}
use mathlib.Core.List.{List, [], ◌∷◌}
use lib.Dec.{leb}
use lib.IntN.{ℤ, pos}
use lib.Signed.{lt_z}
use lib.ListN.{length, drop}
use lib.Seq.{take-append_seam}
use borrow.Author.Tests.{lt-leb}
use Rattle.wire.specs.Choice.{pick}
use Rattle.inflight.specs.Requests.{Request, Key, Reply, Cancel, Closed, Lost}
use Rattle.inflight.specs.declared.Peer.TheVariants as P
use Rattle.inflight.specs.Matching.{without}
use Rattle.inflight.specs.Model.{Model}
use Rattle.inflight.specs.Model as M
use Rattle.inflight.specs.Calls.{Call, Heard, ask, reply, cancel, gone, run_out, model_heard, model_after, model_run}
use Rattle.inflight.specs.declared.FrontNumber.{FrontNumber}
use Rattle.inflight.specs.declared.PublisherNumber.{PublisherNumber}
use Rattle.inflight.specs.Tables as N
use Rattle.inflight_model.proofs.Capacity.{accepts, bounded-space}
use Rattle.inflight_model.proofs.Invariant.{Invariant, inv-call, inv-empty}
use Rattle.inflight_tied.proofs.Simulated.{ready-not-below}
use Rattle.inflight_claims.specs.Before.{Table, in_flight, model_of, store, table_heard, table_after, table_run}
use Rattle.inflight_claims.specs.Before.{AsBefore}
use Rattle.inflight_claims.specs.Before as T
use Rattle.inflight_claims.proofs.ListClaim.{ready-ranged, all_firsts}
use Rattle.std.specs.Prelude.{Result, Ok, Err, is_ok, ⊤}
use Rattle.refusal.specs.declared.Refusal.{Refusal}
use Rattle.refusal.specs.declared.Refusal.TheVariants.{OutOfRange, CapacityGone}
use Rattle.inflight.specs.declared.Table as D

-- a call on a table is the call on the model that the table reads as
record AsModel (t : Table) (c : Call) : Type 0 where
  answer : table_heard t c ≡ model_heard (model_of t) c
  table : model_of (table_after t c) ≡ model_after (model_of t) c

-- a model that is stored over a table is read back
model_of-store : (t : Table) (m : Model) → model_of (store t m) ≡ m
unfolding store in_flight
model_of-store t m =
    ap (λ (es : List Request). record { requests = es; next = m.next; seen = m.seen })
    (take-append_seam m.requests (drop (length m.requests) t.requests))

model_of-pick : (b : Bool) (t : Table) (m : Model) → model_of (pick b (store t m) t) ≡ pick b m (model_of t)
model_of-pick true t m = model_of-store t m
model_of-pick false t m = refl

-- where an ask that the model accepts finds a place, asks are refused as the model refuses them
place : (a b : ℕ) → b < a → ◌≡◌ {A = Result ⊤ Refusal} (pick (leb a b) (Err CapacityGone) (Ok tt)) (Ok tt)
place a b h = rw (lt-leb a b h)

module _ (t : Table) (l : ℕ) (n : FrontNumber) (p time timeout : ℕ)
    (room : M.check_ask (model_of t) l n p time ≡ Ok tt → length (in_flight t) < 64) where
  refusal-same : T.check_ask_of t l n p time ≡ M.check_ask (model_of t) l n p time
  unfolding T.check_ask_of
  refusal-same = go (M.check_ask (model_of t) l n p time) refl
    where
      go : (y : Result ⊤ Refusal) → M.check_ask (model_of t) l n p time ≡ y
          → T.check_ask_of t l n p time ≡ M.check_ask (model_of t) l n p time
      go (Ok x) e = rw e (place _ _ (room e))
      go (Err x) e = rw e

  ask-same : AsModel t (ask l n p time timeout)
  unfolding T.ask_of M.ask M.ask_answer
  ask-same =
      record {
        answer = rw refusal-same;
        table = model_of-pick (is_ok (T.check_ask_of t l n p time)) t (M.accept (model_of t) l n p time timeout) ∙ rw refusal-same;
      }

-- reply and cancel, closed and lost, over the key
taken-same : (t : Table) (range : Bool) (n : ℤ) (k : Key)
    → model_of (T.taken_of t range n k) ≡ M.taken (model_of t) range n k
unfolding T.taken_of M.taken
taken-same t range n k = model_of-pick (is_ok (M.check_take (model_of t) range n k)) t (M.remove (model_of t) k)

dropped-same : (t : Table) (range : Bool) (k : Key) (out : List ℤ)
    → model_of (T.drop_of t range k out).table ≡ M.dropped (model_of t) range k out
unfolding T.drop_of M.dropped
dropped-same t range k out = model_of-pick (is_ok (M.check_drop (model_of t) range k out)) t (M.remove (model_of t) k)

-- run out, whose model after it is the old one where it is refused
run-out-table : (t : Table) (time : ℕ) (out : List ℤ)
    → model_of (T.run_out_of t time out).table ≡ M.run_out (model_of t) time out
unfolding T.run_out_of M.run_out
run-out-table t time out =
    model_of-pick no t (M.run_out (model_of t) time out) ∙ twice no
  where
    no : Bool
    no = is_ok (M.check_drop (model_of t) (M.no_time time) (M.run_out_key (model_of t) time) out)

    after : Model
    after =
        record {
          requests = without (M.run_out_key (model_of t) time) (in_flight t);
          next = t.next;
          seen = M.latest (model_of t) time;
        }

    twice : (b : Bool) → pick b (pick b after (model_of t)) (model_of t) ≡ pick b after (model_of t)
    twice true = refl
    twice false = refl

same-call : (t : Table) (c : Call) → Invariant (model_of t) → AsModel t c
unfolding T.reply_of T.cancel_of T.closed_of T.closed_slice_of T.lost_of T.lost_slice_of T.drop_of T.drop_slice_of T.run_out_of
    T.run_out_slice_of
same-call t (ask l n p time timeout) f =
    ask-same t l n p time timeout
    (λ e. bounded-space (in_flight t) p f.bounded (accepts (model_of t) l n p time e))
same-call t (reply p n) f = record { answer = refl; table = taken-same t (M.no_publisher p) n.0 (Reply p n) }
same-call t (cancel l n) f = record { answer = refl; table = taken-same t (M.no_link l) n.0 (Cancel l n) }
same-call t (gone (P.Front l) out) f = record { answer = refl; table = dropped-same t (M.no_link l) (Closed l) out }
same-call t (gone (P.Publisher p) out) f =
    record { answer = refl; table = dropped-same t (M.no_publisher p) (Lost p) out }
same-call t (run_out time out) f = record { answer = refl; table = run-out-table t time out }

inv-after : (t : Table) (c : Call) → Invariant (model_of t) → Invariant (model_of (table_after t c))
inv-after t c f = subst Invariant (sym (same-call t c f).table) (inv-call (model_of t) c f)

run-same : (cs : List Call) (t : Table) → Invariant (model_of t) → table_run t cs ≡ model_run (model_of t) cs
unfolding table_run model_run
run-same [] t f = refl
run-same (c ∷ cs) t f =
    let m = same-call t c f in
    let i : table_run (table_after t c) cs ≡ model_run (model_after (model_of t) c) cs =
    run-same cs (table_after t c) (inv-after t c f) ∙ ap (λ (b : Model). model_run b cs) m.table in
    ap (λ (h : Heard). h ∷ table_run (table_after t c) cs) m.answer
    ∙ ap (λ (hs : List Heard). model_heard (model_of t) c ∷ hs) i

-- a fresh table reads as the empty model
fresh-model : (first : PublisherNumber) → lt_z first.0 (pos 1) ≡ false
    → model_of (T.fresh_of first).table ≡ M.empty first
unfolding T.fresh_of T.empty_table M.empty in_flight
fresh-model first h =
    let q : (T.fresh_of first).table ≡ T.empty_table first = rw h in
    ap model_of q

fresh-same : (t : D.Table) (first : PublisherNumber) → (N.fresh_of t first).answer ≡ (T.fresh_of first).answer
unfolding N.fresh_of N.fresh_answer T.fresh_of
fresh-same t first = go (lt_z first.0 (pos 1))
  where
    go : (b : Bool) → pick {A = Result ⊤ Refusal} b (Err OutOfRange) (Ok tt)
        ≡ (pick {A = T.Started} b (record { table = T.empty_table (record { 0 = pos 1 }); answer = Err OutOfRange })
        (record { table = T.empty_table first; answer = Ok tt })).answer
    go true = refl
    go false = refl

pub as_before : AsBefore
as_before =
    record {
      fresh = fresh-same;
      runs = λ t z first f r cs.
          let e = fresh-model first (ready-not-below t first r) in
          let i = inv-empty first (ready-ranged t first f r) in
          (all_firsts t z first f r cs).heard
          ∙ sym (run-same cs (T.fresh_of first).table (rw e i) ∙ ap (λ (m : Model). model_run m cs) e);
    }
