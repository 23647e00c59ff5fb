-- Demand 3, one claim about the list. For every table of the types' sizes, first number from 1 on and list of ask,
-- reply, cancel, gone and run-out calls, refused ones included, where gone stands for closed and lost, and whatever
-- times they bring: every answer, refusal and whole slice of the table is the model's; and at every point of the
-- list the model keeps to the sentences on capacity, and holds no number twice.
-- Assumes nothing.
use Rattle.std.specs.Prelude.{◌≡◌, ℕ, ◌≤◌, ◌<◌, List, ◌++◌, true, pos, length}
use Rattle.std.specs.Int.Signed.{le_z}
use Rattle.std.specs.Int.{w64}
use Rattle.std.proofs.Common.{SFits}
use Rattle.inflight.specs.Matching.{matching, load, capacity_taken}
use Rattle.inflight.specs.Model.{Model, empty, ask_answer, given}
use Rattle.inflight.specs.Tables.{Sized, fresh_of}
use Rattle.inflight.specs.declared.Table.{Table}
use Rattle.inflight.specs.Calls.{Call, table_run, model_run, model_at}
use Rattle.inflight.specs.declared.FrontNumber.{FrontNumber}
use Rattle.inflight.specs.declared.PublisherNumber.{PublisherNumber}
use Rattle.inflight.specs.Requests.{Reply, Cancel}
use Rattle.std.specs.Prelude.{Ok, Err}
use Rattle.refusal.specs.declared.Refusal.TheVariants.{LoadAtLimit, CapacityGone}

-- "an ask is valid if 30, 12 and 31 don't apply"
pub record Valid (m : Model) (l : ℕ) (n : FrontNumber) (p time : ℕ) : Type 0 where
  pub link : l < 32
  pub publisher : p < 8
  pub clock : time < 4611686018427387904
  pub number : n.0 ≡ pos 0 → ⊥
  pub own : length (matching (Cancel l n) m.requests) ≡ 0

-- the sentences on capacity, of a valid ask
pub record Capacity (m : Model) (l : ℕ) (n : FrontNumber) (p time : ℕ) : Type 0 where
  -- load under 4: accepted
  pub under : load m.requests p < 4 → ask_answer m l n p time ≡ Ok (given m p)
  -- 4 to 15: refused with 33 exactly when the eight loads, each counted as at least 4, add up to 64
  pub taken : 4 ≤ load m.requests p → load m.requests p ≤ 15 → capacity_taken m.requests ≡ 64 → ask_answer m l n p time ≡ Err CapacityGone
  pub only : 4 ≤ load m.requests p → load m.requests p ≤ 15 → ask_answer m l n p time ≡ Err CapacityGone → capacity_taken m.requests ≡ 64
  pub left : 4 ≤ load m.requests p → load m.requests p ≤ 15 → (capacity_taken m.requests ≡ 64 → ⊥) → ask_answer m l n p time ≡ Ok (given m p)
  -- at 16: refused with 32
  pub full : load m.requests p ≡ 16 → ask_answer m l n p time ≡ Err LoadAtLimit

-- what holds of the model at every point
pub record Kept (m : Model) : Type 0 where
  pub capacity : (l : ℕ) (n : FrontNumber) (p time : ℕ) → Valid m l n p time → Capacity m l n p time
  -- "64 tickets"
  pub size : length m.requests ≤ 64
  -- no load is over 16
  pub most : (p : ℕ) → load m.requests p ≤ 16
  -- the eight loads, each counted as at least 4, never add up to more than 64
  pub within : capacity_taken m.requests ≤ 64
  -- no number is in flight twice with its publisher
  pub once : (p : ℕ) (n : PublisherNumber) → length (matching (Reply p n) m.requests) ≤ 1
  -- no front number is in flight twice with its link
  pub front_once : (l : ℕ) (n : FrontNumber) → length (matching (Cancel l n) m.requests) ≤ 1
  -- the number that an accepted ask is given is not in flight with its publisher
  pub new : (l : ℕ) (n : FrontNumber) (p time : ℕ) (x : PublisherNumber) → ask_answer m l n p time ≡ Ok x → length (matching (Reply p x) m.requests) ≡ 0
  -- and is at least 1
  pub from_one : (l : ℕ) (n : FrontNumber) (p time : ℕ) (x : PublisherNumber) → ask_answer m l n p time ≡ Ok x → le_z (pos 1) x.0 ≡ true
  -- every time seen is below 2^62
  pub seen : m.seen < 4611686018427387904

pub record ListClaim (t : Table) (first : PublisherNumber) (cs : List Call) : Type 0 where
  -- fresh accepts the first number
  pub ready : (fresh_of t first).answer ≡ Ok tt
  -- all that a caller gets: of every call its result or refusal, and of a gone peer and a run-out the whole
  -- lent slice after it, at every place of the list. The tables themselves are heard by the calls that follow, since the list is
  -- any
  pub heard : table_run (fresh_of t first).table cs ≡ model_run (empty first) cs
  -- at every point of the list
  pub kept : (before rest : List Call) → cs ≡ before ++ rest → Kept (model_at (empty first) before)

-- the claim: for every table whose arrays have their sizes, whatever they hold, every first number from 1 to the
-- largest, and every list of calls. A lower first number is refused with 30, and the table stays as it was
abbrev pub Listed : Type 0
Listed =
    (t : Table) → Sized t → (n : ℕ) → 1 ≤ n → n ≤ 9223372036854775807 → (cs : List Call)
    → ListClaim t (record { 0 = pos n }) cs

-- and that is every first number that fresh accepts
abbrev pub AllFirsts : Type 0
AllFirsts =
    (t : Table) → Sized t → (first : PublisherNumber) → SFits w64 first.0 → (fresh_of t first).answer ≡ Ok tt
    → (cs : List Call) → ListClaim t first cs
