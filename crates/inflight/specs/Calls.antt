-- A list of calls, and what is heard of each: from the table, and from the model.
-- Assumes nothing.
use Rattle.std.specs.Prelude.{ℕ, List, [], ◌∷◌, ℤ, Result}
use Rattle.inflight.specs.Model.{Model}
use Rattle.inflight.specs.Model as M
use Rattle.inflight.specs.Tables as T
use Rattle.inflight.specs.declared.FrontNumber.{FrontNumber}
use Rattle.inflight.specs.declared.PublisherNumber.{PublisherNumber}
use Rattle.inflight.specs.declared.Table.{Table}
use Rattle.inflight.specs.declared.Peer.{Peer}
use Rattle.inflight.specs.declared.FrontEnd.{FrontEnd}
use Rattle.inflight.specs.declared.PublisherEnd.{PublisherEnd}
use Rattle.refusal.specs.declared.Refusal.{Refusal}

-- a call with its arguments; an ask's are link, number, publisher, time and timeout.
-- Gone, which stands for closed and lost, and run out, which brings its time, with the slice that they are lent
pub data Call : Type 0 where
  ask : ℕ → FrontNumber → ℕ → ℕ → ℕ → Call
  reply : ℕ → PublisherNumber → Call
  cancel : ℕ → FrontNumber → Call
  gone : Peer → List ℤ → Call
  run_out : ℕ → List ℤ → Call

-- an old ask: "old asks have no deadline", and see no time
abbrev pub old_ask : ℕ → FrontNumber → ℕ → Call
old_ask l n p = ask l n p 0 0

-- what a call hands back; of gone and run out also the whole slice afterwards
pub data Heard : Type 0 where
  asked : Result PublisherNumber Refusal → Heard
  replied : Result FrontEnd Refusal → Heard
  cancelled : Result PublisherEnd Refusal → Heard
  dropped : Result ℕ Refusal → List ℤ → Heard

-- the table: what the contracts of the five functions say
abbrev pub table_heard : Table → Call → Heard
table_heard t (ask l n p time timeout) = asked (T.ask_of t l n p time timeout).answer
table_heard t (reply p n) = replied (T.reply_of t p n).answer
table_heard t (cancel l n) = cancelled (T.cancel_of t l n).answer
table_heard t (gone peer out) = dropped (T.gone_of t peer out).answer (T.gone_of t peer out).slice
table_heard t (run_out time out) = dropped (T.run_out_of t time out).answer (T.run_out_of t time out).slice

abbrev pub table_after : Table → Call → Table
table_after t (ask l n p time timeout) = (T.ask_of t l n p time timeout).table
table_after t (reply p n) = (T.reply_of t p n).table
table_after t (cancel l n) = (T.cancel_of t l n).table
table_after t (gone peer out) = (T.gone_of t peer out).table
table_after t (run_out time out) = (T.run_out_of t time out).table

unfoldable pub table_run : Table → List Call → List Heard
table_run t [] = []
table_run t (c ∷ cs) = table_heard t c ∷ table_run (table_after t c) cs

-- the table after some calls
unfoldable pub table_at : Table → List Call → Table
table_at t [] = t
table_at t (c ∷ cs) = table_at (table_after t c) cs

-- the model: "what our rules give with the book's entries as the tickets"
abbrev pub model_heard : Model → Call → Heard
model_heard m (ask l n p time timeout) = asked (M.ask_answer m l n p time)
model_heard m (reply p n) = replied (M.reply_answer m p n)
model_heard m (cancel l n) = cancelled (M.cancel_answer m l n)
model_heard m (gone peer out) = dropped (M.gone_answer m peer out) (M.gone_slice m peer out)
model_heard m (run_out time out) = dropped (M.run_out_answer m time out) (M.run_out_slice m time out)

abbrev pub model_after : Model → Call → Model
model_after m (ask l n p time timeout) = M.ask m l n p time timeout
model_after m (reply p n) = M.reply m p n
model_after m (cancel l n) = M.cancel m l n
model_after m (gone peer out) = M.gone m peer out
model_after m (run_out time out) = M.run_out m time out

unfoldable pub model_run : Model → List Call → List Heard
model_run m [] = []
model_run m (c ∷ cs) = model_heard m c ∷ model_run (model_after m c) cs

-- the model at a point of the list, after the calls before it
unfoldable pub model_at : Model → List Call → Model
model_at m [] = m
model_at m (c ∷ cs) = model_at (model_after m c) cs
