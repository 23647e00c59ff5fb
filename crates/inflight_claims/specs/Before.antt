-- The table as it was before it was kept in fixed slots by masks: its requests stood oldest first in one array, with a
-- count, and a call took it and handed it back by value. These are the definitions that its calls were proved to meet,
-- word for word, where closed and lost were two calls: one call stands for both now. What came later they have got
-- since, as the model has it: an ask's time and timeout, each request's deadline, the latest time seen, and run out
-- (document 02, A2). `AsBefore` says that the table answers, and leaves the lent slice, as that one does.
-- Assumes nothing.
use Rattle.std.specs.Prelude.{◌≡◌, ℕ, Bool, List, [], ◌∷◌, ◌++◌, leb, ℤ, pos, length, take, drop, replicate}
use Rattle.std.specs.Int.Signed.{lt_z}
use Rattle.std.specs.Int.{w64}
use Rattle.std.proofs.Common.{SFits}
use Rattle.wire.specs.Choice.{pick}
use Rattle.inflight.specs.Requests.{Request, Key, Reply, Cancel, Closed, Lost}
use Rattle.inflight.specs.Matching.{blank}
use Rattle.inflight.specs.Model.{Model}
use Rattle.inflight.specs.Model as M
use Rattle.inflight.specs.Calls.{Call, Heard, ask, reply, cancel, gone, run_out, asked, replied, cancelled, dropped}
use Rattle.inflight.specs.Tables as T
use Rattle.inflight.specs.Calls as K
use Rattle.inflight.specs.declared.FrontNumber.{FrontNumber}
use Rattle.inflight.specs.declared.PublisherNumber.{PublisherNumber}
use Rattle.inflight.specs.declared.Peer.TheVariants as P
use Rattle.std.specs.Prelude.{Result, Ok, Err, is_ok, ⊤}
use Rattle.refusal.specs.declared.Refusal.{Refusal}
use Rattle.refusal.specs.declared.Refusal.TheVariants.{OutOfRange, CapacityGone}
use Rattle.std.specs.Result.{result_and}
use Rattle.inflight.specs.declared.FrontEnd.{FrontEnd}
use Rattle.inflight.specs.declared.PublisherEnd.{PublisherEnd}
use Rattle.inflight.specs.declared.Table as D

-- its first `count` requests are in flight, oldest accepted first; `next` is the number after each publisher's last
-- one, `seen` the latest time seen
pub record Table : Type 0 where
  pub requests : List Request
  pub count : ℕ
  pub next : List PublisherNumber
  pub seen : ℕ

pub record Started : Type 0 where
  pub table : Table
  pub answer : Result ⊤ Refusal

pub record Asked : Type 0 where
  pub table : Table
  pub answer : Result PublisherNumber Refusal

pub record Replied : Type 0 where
  pub table : Table
  pub answer : Result FrontEnd Refusal

pub record Cancelled : Type 0 where
  pub table : Table
  pub answer : Result PublisherEnd Refusal

pub record Dropped : Type 0 where
  pub table : Table
  pub answer : Result ℕ Refusal

-- the requests in flight in a table, oldest first
unfoldable pub in_flight : Table → List Request
in_flight t = take t.count t.requests

-- a table read as a model
abbrev pub model_of : Table → Model
model_of t = record { requests = in_flight t; next = t.next; seen = t.seen }

-- a model stored over a table's places: those past its requests stay
unfoldable pub store : Table → Model → Table
store t m =
    record {
      requests = m.requests ++ drop (length m.requests) t.requests;
      count = length m.requests;
      next = m.next;
      seen = m.seen;
    }

-- a table with no request, whose publishers' next number is n
unfoldable pub empty_table : PublisherNumber → Table
empty_table n = record { requests = replicate 64 blank; count = 0; next = replicate 8 n; seen = 0 }

-- fresh: a first number below 1 is 30, and the table handed back with it starts at 1
unfoldable pub fresh_of : PublisherNumber → Started
fresh_of n =
    pick (lt_z n.0 (pos 1))
    (record { table = empty_table (record { 0 = pos 1 }); answer = Err OutOfRange })
    (record { table = empty_table n; answer = Ok tt })

-- ask: as the model, but that a table whose 64 places are all taken, which no fresh one leads to, refuses with 33
unfoldable pub check_ask_of : Table → ℕ → FrontNumber → ℕ → ℕ → Result ⊤ Refusal
check_ask_of t l n p time =
    result_and (M.check_ask (model_of t) l n p time)
    (pick (leb 64 (length (in_flight t))) (Err CapacityGone) (Ok tt))

unfoldable pub ask_of : Table → ℕ → FrontNumber → ℕ → ℕ → ℕ → Asked
ask_of t l n p time timeout =
    record {
      table = pick (is_ok (check_ask_of t l n p time)) (store t (M.accept (model_of t) l n p time timeout)) t;
      answer = result_and (check_ask_of t l n p time) (Ok (M.given (model_of t) p));
    }

-- reply and cancel: what the key matches is removed, unless refused
unfoldable pub taken_of : Table → Bool → ℤ → Key → Table
taken_of t range n k = pick (is_ok (M.check_take (model_of t) range n k)) (store t (M.remove (model_of t) k)) t

unfoldable pub reply_of : Table → ℕ → PublisherNumber → Replied
reply_of t p n = record { table = taken_of t (M.no_publisher p) n.0 (Reply p n); answer = M.reply_answer (model_of t) p n }

unfoldable pub cancel_of : Table → ℕ → FrontNumber → Cancelled
cancel_of t l n = record { table = taken_of t (M.no_link l) n.0 (Cancel l n); answer = M.cancel_answer (model_of t) l n }

-- closed and lost: what the key matches is removed, unless refused; and the slice afterwards
unfoldable pub drop_of : Table → Bool → Key → List ℤ → Dropped
drop_of t range k out =
    record {
      table = pick (is_ok (M.check_drop (model_of t) range k out)) (store t (M.remove (model_of t) k)) t;
      answer = M.drop_answer (model_of t) range k out;
    }

unfoldable pub drop_slice_of : Table → Bool → Key → List ℤ → List ℤ
drop_slice_of t range k out = M.drop_slice (model_of t) range k out

unfoldable pub closed_of : Table → ℕ → List ℤ → Dropped
closed_of t l out = drop_of t (M.no_link l) (Closed l) out

unfoldable pub closed_slice_of : Table → ℕ → List ℤ → List ℤ
closed_slice_of t l out = drop_slice_of t (M.no_link l) (Closed l) out

unfoldable pub lost_of : Table → ℕ → List ℤ → Dropped
lost_of t p out = drop_of t (M.no_publisher p) (Lost p) out

unfoldable pub lost_slice_of : Table → ℕ → List ℤ → List ℤ
lost_slice_of t p out = drop_slice_of t (M.no_publisher p) (Lost p) out

-- run out: what is due is removed, and the time seen, unless refused; and the slice afterwards
unfoldable pub run_out_of : Table → ℕ → List ℤ → Dropped
run_out_of t time out =
    record {
      table =
          pick (is_ok (M.check_drop (model_of t) (M.no_time time) (M.run_out_key (model_of t) time) out))
          (store t (M.run_out (model_of t) time out))
          t;
      answer = M.run_out_answer (model_of t) time out;
    }

unfoldable pub run_out_slice_of : Table → ℕ → List ℤ → List ℤ
run_out_slice_of t time out = M.run_out_slice (model_of t) time out

-- the table: what the contracts of its five functions said, with closed and lost as a link that is gone and a publisher
-- that is; and run out
abbrev pub table_heard : Table → Call → Heard
table_heard t (ask l n p time timeout) = asked (ask_of t l n p time timeout).answer
table_heard t (reply p n) = replied (reply_of t p n).answer
table_heard t (cancel l n) = cancelled (cancel_of t l n).answer
table_heard t (gone (P.Front l) out) = dropped (closed_of t l out).answer (closed_slice_of t l out)
table_heard t (gone (P.Publisher p) out) = dropped (lost_of t p out).answer (lost_slice_of t p out)
table_heard t (run_out time out) = dropped (run_out_of t time out).answer (run_out_slice_of t time out)

abbrev pub table_after : Table → Call → Table
table_after t (ask l n p time timeout) = (ask_of t l n p time timeout).table
table_after t (reply p n) = (reply_of t p n).table
table_after t (cancel l n) = (cancel_of t l n).table
table_after t (gone (P.Front l) out) = (closed_of t l out).table
table_after t (gone (P.Publisher p) out) = (lost_of t p out).table
table_after t (run_out time out) = (run_out_of t time out).table

unfoldable pub table_run : Table → List Call → List Heard
table_run t [] = []
table_run t (c ∷ cs) = table_heard t c ∷ table_run (table_after t c) cs

-- the claim, of a table that is started afresh, whatever it held
pub record AsBefore : Type 0 where
  -- every first number is answered as it was: accepted, or refused with 30
  pub fresh : (t : D.Table) (first : PublisherNumber) → (T.fresh_of t first).answer ≡ (fresh_of first).answer
  -- from every first number that is accepted on, for every table of the types' sizes and every list of calls, every
  -- call's answer and the whole lent slice after it are what they were. After a refusal the table was one that starts
  -- at 1, and is now as it was before the call
  pub runs : (t : D.Table) → T.Sized t → (first : PublisherNumber) → SFits w64 first.0
      → (T.fresh_of t first).answer ≡ Ok tt → (cs : List Call)
      → K.table_run (T.fresh_of t first).table cs ≡ table_run (fresh_of first).table cs
