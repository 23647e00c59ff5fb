-- The rows, each by its own test and those before it.
-- Assumes nothing.
use mathlib.Core.Path.{◌≡◌, refl}
use Prim.Native.Nat.{ℕ, ◌*◌, ◌≤◌}
use mathlib.Core.Bool.{Bool, true, false}
use mathlib.Core.List.{List}
use lib.Dec.{leb}
use lib.IntN.{ℤ, pos}
use lib.ListN.{length}
use borrow.Author.Tests.{eq-eqb, ne_eqb, le-leb, lt-leb, le-ltb, lt-ltb}
use Rattle.inflight.specs.Requests.{key_of}
use Rattle.inflight.specs.Matching.{matching}
use Rattle.inflight.specs.Model.{Model, check_ask, ask_answer, check_take, reply_answer, cancel_answer, check_drop}
use Rattle.inflight.specs.Model.{drop_answer, no_peer, run_out_key}
use Rattle.inflight.specs.declared.FrontNumber.{FrontNumber}
use Rattle.inflight.specs.declared.PublisherNumber.{PublisherNumber}
use Rattle.inflight.specs.declared.Peer.{Peer}
use Rattle.inflight.specs.declared.Peer.TheVariants as P
use Rattle.inflight.proofs.NumberLaws.{eq-same, ne_same}
use Rattle.inflight.proofs.AskLaws.{ask-own}
use Rattle.inflight_claims.proofs.ListClaim.{capacity}
use Rattle.inflight_claims.specs.Rows.{AskRows, ReplyRows, CancelRows, GoneRows, RunOutRows, Rows}
use Rattle.std.specs.Prelude.{Err}
use Rattle.refusal.specs.declared.Refusal.TheVariants.{OutOfRange}

ask-rows : (m : Model) (l : ℕ) (n : FrontNumber) (p time : ℕ) → AskRows m l n p time
unfolding ask_answer check_ask
ask-rows m l n p time =
    record {
      link = λ h. rw (le-leb 32 l h);
      publisher = λ h. out (leb 32 l) refl h;
      clock = λ h. late (leb 32 l) (leb 8 p) refl refl h;
      zero = λ a b t e.
          rw (lt-leb 32 l a, lt-leb 8 p b, lt-leb 4611686018427387904 time t, eq-same n.0 (pos 0) e);
      own = λ a b t c d. rw (ask-own m l n p time a b t (ne_same n.0 (pos 0) c) d);
      valid = capacity m l n p time;
    }
  where
    out : (t : Bool) → leb 32 l ≡ t → 8 ≤ p → ask_answer m l n p time ≡ Err OutOfRange
    out true e h = rw e
    out false e h = rw (e, le-leb 8 p h)

    late : (t u : Bool) → leb 32 l ≡ t → leb 8 p ≡ u → 4611686018427387904 ≤ time
        → ask_answer m l n p time ≡ Err OutOfRange
    late true u d e h = rw d
    late false true d e h = rw (d, e)
    late false false d e h = rw (d, e, le-leb 4611686018427387904 time h)

reply-rows : (m : Model) (p : ℕ) (n : PublisherNumber) → ReplyRows m p n
unfolding reply_answer check_take
reply-rows m p n =
    record {
      range = λ h. rw (le-leb 8 p h);
      zero = λ h e. rw (lt-leb 8 p h, eq-same n.0 (pos 0) e);
      none = λ h e d. rw (lt-leb 8 p h, ne_same n.0 (pos 0) e, eq-eqb _ 0 d);
      one = λ h e d. rw (lt-leb 8 p h, ne_same n.0 (pos 0) e, ne_eqb _ 0 d);
    }

cancel-rows : (m : Model) (l : ℕ) (n : FrontNumber) → CancelRows m l n
unfolding cancel_answer check_take
cancel-rows m l n =
    record {
      range = λ h. rw (le-leb 32 l h);
      zero = λ h e. rw (lt-leb 32 l h, eq-same n.0 (pos 0) e);
      none = λ h e d. rw (lt-leb 32 l h, ne_same n.0 (pos 0) e, eq-eqb _ 0 d);
      one = λ h e d. rw (lt-leb 32 l h, ne_same n.0 (pos 0) e, ne_eqb _ 0 d);
    }

gone-rows : (m : Model) (peer : Peer) (limit x : ℕ) (out : List ℤ) → no_peer peer ≡ leb limit x
    → GoneRows m peer limit x out
unfolding drop_answer check_drop
gone-rows m peer limit x out q =
    let need : ℕ = 2 * length (matching (key_of peer) m.requests) in
    record {
      range = λ h. rw (q, le-leb limit x h);
      short = λ h l. rw (q, lt-leb limit x h, lt-ltb (length out) need l);
      all = λ h l. rw (q, lt-leb limit x h, le-ltb (length out) need l);
    }

run-out-rows : (m : Model) (time : ℕ) (out : List ℤ) → RunOutRows m time out
unfolding drop_answer check_drop
run-out-rows m time out =
    let need : ℕ = 2 * length (matching (run_out_key m time) m.requests) in
    record {
      clock = λ h. rw (le-leb 4611686018427387904 time h);
      short = λ h l. rw (lt-leb 4611686018427387904 time h, lt-ltb (length out) need l);
      all = λ h l. rw (lt-leb 4611686018427387904 time h, le-ltb (length out) need l);
    }

pub rows : (m : Model) → Rows m
rows m =
    record {
      ask = ask-rows m;
      reply = reply-rows m;
      cancel = cancel-rows m;
      front = λ l out. gone-rows m (P.Front l) 32 l out refl;
      publisher = λ p out. gone-rows m (P.Publisher p) 8 p out refl;
      run_out = run-out-rows m;
    }
