-- Demand 2's delivery, one claim about the list. For every table of the types' sizes, first number from 1 on and list
-- of calls, a reply goes to the one ask that carried its number to that publisher, once, if that is still in flight,
-- which it is no longer once a run-out has freed it, and else nowhere; and a number comes to a publisher again only after its
-- numbering has gone right round. All of it is said of the calls of the list and of what was heard of them, or would be
-- heard of one call more; also which requests run out, and what a run-out tells of them.
-- Assumes nothing.
use Rattle.std.specs.Prelude.{◌≡◌, ℕ, zero, suc, ◌+◌, ◌≤◌, ◌<◌, max, Bool, true, false, not, ◌&&◌, ◌||◌, List, [], ◌∷◌, ◌++◌, eqb, ℤ, pos, drop, get_or}
use Rattle.wire.specs.Choice.{pick}
use Rattle.inflight.specs.Numbers.{same, after}
use Rattle.inflight.specs.Matching.{matches}
use Rattle.inflight.specs.Model.{deadline_at}
use Rattle.inflight.specs.Tables.{Sized, fresh_of}
use Rattle.inflight.specs.declared.Table.{Table}
use Rattle.inflight.specs.Calls.{Call, Heard, ask, reply, cancel, gone, run_out, asked, replied, cancelled, dropped}
use Rattle.inflight.specs.Calls.{table_heard, table_at}
use Rattle.inflight.specs.declared.FrontNumber.{FrontNumber}
use Rattle.inflight.specs.declared.PublisherNumber.{PublisherNumber}
use Rattle.inflight.specs.Requests.{Request}
use Rattle.inflight.specs.Requests.{Reply, Cancel, Due, key_of}
use Rattle.std.specs.Prelude.{Ok, Err, is_err}
use Rattle.refusal.specs.declared.Refusal.TheVariants.{NoSuchRequest}

-- what is heard of a call that is made after some calls, or would be heard if it were made
abbrev pub Answers : Type 0
Answers = List Call → Call → Heard

-- of a table that is started afresh
abbrev pub table_answers : Table → PublisherNumber → Answers
table_answers t first before c = table_heard (table_at (fresh_of t first).table before) c

-- whether a call was refused
abbrev pub refused : Heard → Bool
refused (asked a) = is_err a
refused (replied a) = is_err a
refused (cancelled a) = is_err a
refused (dropped a out) = is_err a

-- ---- times (document 02, A2)

-- the time that a call brings; 0, below which no time is, where it brings none
abbrev pub time_of : Call → ℕ
time_of (ask l f p time timeout) = time
time_of (reply p x) = 0
time_of (cancel l f) = 0
time_of (gone peer out) = 0
time_of (run_out time out) = time

-- the latest of a time and of those that calls bring which come after the calls `before`; the time of a refused call
-- is not seen
unfoldable pub seen_from : Answers → List Call → ℕ → List Call → ℕ
seen_from ans before s [] = s
seen_from ans before s (c ∷ cs) =
    seen_from ans (before ++ c ∷ []) (pick (refused (ans before c)) s (max s (time_of c))) cs

-- the latest time seen after some calls: "a fresh table has seen time 0"
abbrev pub latest_seen : Answers → List Call → ℕ
latest_seen ans cs = seen_from ans [] 0 cs

-- ---- still in flight

-- whether a call, with the latest time seen before it and what was heard of it, frees a request: a reply to its
-- publisher and number, a cancel of its link and front number, its link or its publisher gone, a run-out when its
-- deadline is at or before the latest time seen, the call's own among them; none of them refused
unfoldable pub frees : ℕ → Request → Call → Heard → Bool
frees s e (ask l f p time timeout) h = false
frees s e (reply p x) h = not (refused h) && matches (Reply p x) e
frees s e (cancel l f) h = not (refused h) && matches (Cancel l f) e
frees s e (gone peer out) h = not (refused h) && matches (key_of peer) e
frees s e (run_out time out) h = not (refused h) && matches (Due (max s time)) e

-- whether one of the calls that come after the calls `before` frees a request
unfoldable pub freed_since : Answers → Request → List Call → List Call → Bool
freed_since ans e before [] = false
freed_since ans e before (c ∷ cs) =
    frees (latest_seen ans before) e c (ans before c) || freed_since ans e (before ++ c ∷ []) cs

-- the ask for a request, with its time and timeout
abbrev pub ask_for : Request → ℕ → ℕ → Call
ask_for e time timeout = ask e.link e.front e.publisher time timeout

-- the deadline of an ask after some calls: "the latest time seen plus the timeout", its own time among those seen, and
-- none without a timeout
abbrev pub deadline_after : Answers → List Call → ℕ → ℕ → ℕ
deadline_after ans before time timeout = deadline_at (max (latest_seen ans before) time) timeout

-- an ask in the list, of that link and front number for that publisher, was accepted with that number and that
-- deadline, and no call after it has freed it
pub record Carried (ans : Answers) (cs : List Call) (e : Request) : Type 0 where
  pub before : List Call
  pub since : List Call
  pub time : ℕ
  pub timeout : ℕ
  pub place : cs ≡ before ++ ask_for e time timeout ∷ since
  pub accepted : ans before (ask_for e time timeout) ≡ asked (Ok e.number)
  pub deadline : e.deadline ≡ deadline_after ans before time timeout
  pub standing : freed_since ans e (before ++ ask_for e time timeout ∷ []) since ≡ false

-- whether a link and front number stand among the first k pairs of a slice
unfoldable pub among : ℕ → FrontNumber → ℕ → List ℤ → Bool
among l f zero out = false
among l f (suc k) out =
    (same (get_or out 0 (pos 0)) (pos l) && same (get_or out 1 (pos 0)) f.0) || among l f k (drop 2 out)

-- whether what was heard of a run-out tells that a request was freed: its link and front number were written
abbrev pub told : Request → Heard → Bool
told e (asked a) = false
told e (replied a) = false
told e (cancelled a) = false
told e (dropped (Ok k) out) = among e.link e.front k out
told e (dropped (Err k) out) = false

-- ---- numbering

-- the largest number, and so many numbers there are from 1 on: one round
abbrev pub round : ℕ
round = 9223372036854775807

-- the number s steps after n, where 1 comes after the largest
unfoldable pub steps : ℕ → PublisherNumber → PublisherNumber
steps zero n = n
steps (suc s) n = after (steps s n)

-- how many numbers in a row, from n on, are in flight with publisher p, that is a reply would be delivered; at most
-- `tries`
unfoldable pub in_row : Answers → ℕ → List Call → ℕ → PublisherNumber → ℕ
in_row ans p before zero n = 0
in_row ans p before (suc tries) n = pick (refused (ans before (reply p n))) 0 (suc (in_row ans p before tries (after n)))

-- how many numbers an ask for publisher p passes over, whose numbering has gone s steps: a table holds 64 requests
abbrev pub passed : Answers → PublisherNumber → ℕ → List Call → ℕ → ℕ
passed ans first p before s = in_row ans p before 64 (steps s first)

-- the steps of publisher p's numbering: an accepted ask for it goes one step, and one for each number passed over
unfoldable pub moved : Answers → PublisherNumber → ℕ → List Call → ℕ → Call → ℕ
moved ans first p before s (ask l f q time timeout) =
    pick (eqb q p && not (refused (ans before (ask l f q time timeout)))) (suc (passed ans first p before s + s)) s
moved ans first p before s (reply q x) = s
moved ans first p before s (cancel l f) = s
moved ans first p before s (gone peer out) = s
moved ans first p before s (run_out time out) = s

unfoldable pub stepped_from : Answers → PublisherNumber → ℕ → List Call → ℕ → List Call → ℕ
stepped_from ans first p before s [] = s
stepped_from ans first p before s (c ∷ cs) = stepped_from ans first p (before ++ c ∷ []) (moved ans first p before s c) cs

-- how many steps publisher p's numbering has gone after some calls
abbrev pub stepped : Answers → PublisherNumber → ℕ → List Call → ℕ
stepped ans first p cs = stepped_from ans first p [] 0 cs

-- ---- the claim

abbrev pub request : ℕ → FrontNumber → ℕ → PublisherNumber → ℕ → Request
request l f p x d = record { link = l; front = f; publisher = p; number = x; deadline = d }

pub record Delivery (ans : Answers) (first : PublisherNumber) (cs : List Call) : Type 0 where
  -- a reply for (publisher, number) after the calls is answered with (link, front number) exactly if an ask of that
  -- link and front number for that publisher was accepted with that number and is still in flight
  pub delivered : (l : ℕ) (f : FrontNumber) (p : ℕ) (x : PublisherNumber) → ans cs (reply p x) ≡ replied (Ok (record { link = l; number = f }))
      → (d : ℕ) × Carried ans cs (request l f p x d)
  pub carried : (l : ℕ) (f : FrontNumber) (p : ℕ) (x : PublisherNumber) (d : ℕ) → Carried ans cs (request l f p x d)
      → ans cs (reply p x) ≡ replied (Ok (record { link = l; number = f }))
  -- that ask is one: two that are in flight with one publisher and number stand at one place of the list
  pub one : (e d : Request) → e.publisher ≡ d.publisher → e.number ≡ d.number → (c : Carried ans cs e)
      (b : Carried ans cs d) → c.before ≡ b.before
  -- and of all asks that this publisher accepted with that number, freed since or not, it is the only one since the
  -- numbering last went round
  pub only : (e : Request) (c : Carried ans cs e) (d : Request) (time timeout : ℕ) (before since : List Call)
      → cs ≡ before ++ ask_for d time timeout ∷ since
      → ans before (ask_for d time timeout) ≡ asked (Ok d.number)
      → d.publisher ≡ e.publisher → d.number ≡ e.number
      → stepped ans first e.publisher cs
      < stepped ans first e.publisher (before ++ ask_for d time timeout ∷ []) + round
      → before ≡ c.before
  -- a second reply directly after it finds nothing
  pub twice : (l : ℕ) (f : FrontNumber) (p : ℕ) (x : PublisherNumber) → ans cs (reply p x) ≡ replied (Ok (record { link = l; number = f }))
      → ans (cs ++ reply p x ∷ []) (reply p x) ≡ replied (Err NoSuchRequest)
  -- a reply to which no such ask belongs, and to which 30 and 12 do not apply, finds nothing
  pub nowhere : (p : ℕ) (x : PublisherNumber) → p < 8 → (x.0 ≡ pos 0 → ⊥)
      → ((l : ℕ) (f : FrontNumber) (d : ℕ) → Carried ans cs (request l f p x d) → ⊥)
      → ans cs (reply p x) ≡ replied (Err NoSuchRequest)
  -- a late answer: a reply to an ask that was freed since finds nothing until the numbering of its publisher has gone
  -- right round
  pub overdue : (e : Request) (time timeout : ℕ) (before since : List Call)
      → cs ≡ before ++ ask_for e time timeout ∷ since
      → ans before (ask_for e time timeout) ≡ asked (Ok e.number)
      → e.deadline ≡ deadline_after ans before time timeout
      → freed_since ans e (before ++ ask_for e time timeout ∷ []) since ≡ true
      → stepped ans first e.publisher cs
      < stepped ans first e.publisher (before ++ ask_for e time timeout ∷ []) + round
      → ans cs (reply e.publisher e.number) ≡ replied (Err NoSuchRequest)
  -- an accepted ask gets the next number of its publisher, passing over any in flight with it
  pub numbered : (e : Request) (time timeout : ℕ) → ans cs (ask_for e time timeout) ≡ asked (Ok e.number)
      → e.number
      ≡ steps
      (passed ans first e.publisher cs (stepped ans first e.publisher cs) + stepped ans first e.publisher cs)
      first
  -- so a number comes to a publisher again only after its numbering has gone right round
  pub again : (e d : Request) (t u v w : ℕ) (before since : List Call) → cs ≡ before ++ ask_for e t u ∷ since
      → ans before (ask_for e t u) ≡ asked (Ok e.number)
      → ans cs (ask_for d v w) ≡ asked (Ok d.number)
      → d.publisher ≡ e.publisher → d.number ≡ e.number
      → stepped ans first e.publisher (before ++ ask_for e t u ∷ []) + round
      ≤ stepped ans first e.publisher (cs ++ ask_for d v w ∷ [])
  -- "and never while it is in flight"
  pub apart : (e d : Request) (time timeout : ℕ) → Carried ans cs e
      → ans cs (ask_for d time timeout) ≡ asked (Ok d.number)
      → d.publisher ≡ e.publisher → d.number ≡ e.number → ⊥
  -- of the requests in flight a run-out tells those that it frees and no other: link and front number are written
  -- exactly if the call is not refused and the deadline is at or before the latest time seen, its own among them. That
  -- nothing else is written, and the order, is in the list claim
  pub tells : (e : Request) → Carried ans cs e → (time : ℕ) (out : List ℤ)
      → told e (ans cs (run_out time out)) ≡ frees (latest_seen ans cs) e (run_out time out) (ans cs (run_out time out))

-- the claim: for every table whose arrays have their sizes, whatever they hold, every first number from 1 to the
-- largest, and every list of calls
abbrev pub Delivered : Type 0
Delivered =
    (t : Table) → Sized t → (n : ℕ) → 1 ≤ n → n ≤ round → (cs : List Call)
    → Delivery (table_answers t (record { 0 = pos n })) (record { 0 = pos n }) cs
