-- The model is document 01's book. It is fed the calls' arguments alone, and shares with the table the types of
-- requests, numbers and answers. Each call has its check, which may refuse it, its answer, and the model after it; a
-- refused call changes nothing. Assumes nothing.
use Rattle.std.specs.Prelude.{ℕ, ◌+◌, ◌*◌, max, Bool, not, ◌&&◌, List, [], ◌∷◌, ◌++◌, Result, Ok, Err, is_ok, ⊤, eqb, leb, ltb, ℤ, pos, length, get_or, set, replicate}
use Rattle.std.specs.Result.{result_and}
use Rattle.wire.specs.Choice.{pick, first}
use Rattle.inflight.specs.Numbers.{same, after}
use Rattle.inflight.specs.Matching.{matching, without, load, capacity_taken, next_free, other_ends, over_front, blank}
use Rattle.inflight.specs.declared.FrontNumber.{FrontNumber}
use Rattle.inflight.specs.declared.PublisherNumber.{PublisherNumber}
use Rattle.inflight.specs.Requests.{Request}
use Rattle.inflight.specs.Requests.{Key}
use Rattle.inflight.specs.Requests.{Reply, Cancel, Due, key_of}
use Rattle.inflight.specs.declared.Peer.{Peer}
use Rattle.inflight.specs.declared.Peer.TheVariants as P
use Rattle.inflight.specs.declared.FrontEnd.{FrontEnd}
use Rattle.inflight.specs.declared.PublisherEnd.{PublisherEnd}
use Rattle.refusal.specs.declared.Refusal.{Refusal}
use Rattle.refusal.specs.declared.Refusal.TheVariants.{OutOfRange, NumberZero, InFlightAlready, LoadAtLimit, CapacityGone, NoSuchRequest, BufferTooSmall}

-- "it keeps its entries in the order of acceptance, and each publisher's last number": here the number after the
-- last, so that the first number of a fresh table needs no rule of its own. "Each entry's deadline and the latest time
-- seen" (document 02, A2): the deadline stands in its request
pub record Model : Type 0 where
  pub requests : List Request
  pub next : List PublisherNumber
  pub seen : ℕ

-- "it starts empty, with the fresh table's first number as each publisher's next", and "a fresh table has seen time 0"
unfoldable pub empty : PublisherNumber → Model
empty n = record { requests = []; next = replicate 8 n; seen = 0 }

-- which numbers are out of range: front links 0 to 31, publishers 0 to 7
abbrev pub no_link : ℕ → Bool
no_link l = leb 32 l

abbrev pub no_publisher : ℕ → Bool
no_publisher p = leb 8 p

abbrev pub no_peer : Peer → Bool
no_peer (P.Front l) = no_link l
no_peer (P.Publisher p) = no_publisher p

-- a time of 2^62 or more
abbrev pub no_time : ℕ → Bool
no_time time = leb 4611686018427387904 time

-- "if the clock goes back, the latest time seen counts; for each call its own time is among those seen"
abbrev pub latest : Model → ℕ → ℕ
latest m time = max m.seen time

-- "the latest time seen plus the timeout", where 0 is no timeout and no deadline. An old ask is one with time 0 and
-- timeout 0: no time seen is below 0, and it has no deadline
abbrev pub deadline_at : ℕ → ℕ → ℕ
deadline_at now timeout = pick (eqb timeout 0) 0 (now + timeout)

-- whether a key matches no request
abbrev pub none : Key → List Request → Bool
none k es = eqb (length (matching k es)) 0

-- ask: 30, 12, 31, 32, 33.
-- 30: link, publisher or time out of range. 12: the number is 0. 31: the link has that number in flight already.
-- 32: the publisher's load is 16 or more. 33: it is 4 or more, and the eight loads, each counted as at least 4, add
-- up to 64
unfoldable pub check_ask : Model → ℕ → FrontNumber → ℕ → ℕ → Result ⊤ Refusal
check_ask m l n p time =
    first
    ((no_link l, Err OutOfRange)
    ∷ (no_publisher p, Err OutOfRange)
    ∷ (no_time time, Err OutOfRange)
    ∷ (same n.0 (pos 0), Err NumberZero)
    ∷ (not (none (Cancel l n) m.requests), Err InFlightAlready)
    ∷ (leb 16 (load m.requests p), Err LoadAtLimit)
    ∷ (leb 4 (load m.requests p) && eqb (capacity_taken m.requests) 64, Err CapacityGone)
    ∷ [])
    (Ok tt)

-- "a publisher's next number is the last plus one .., passing over any in flight with that publisher"
abbrev pub given : Model → ℕ → PublisherNumber
given m p = next_free (length m.requests) m.requests p (get_or m.next p (record { 0 = pos 0 }))

-- "the book adds an entry with that publisher's next number", and its deadline
abbrev pub entry : Model → ℕ → FrontNumber → ℕ → ℕ → ℕ → Request
entry m l n p time timeout =
    record {
      link = l;
      front = n;
      publisher = p;
      number = given m p;
      deadline = deadline_at (latest m time) timeout;
    }

-- the ask's time is seen
unfoldable pub accept : Model → ℕ → FrontNumber → ℕ → ℕ → ℕ → Model
accept m l n p time timeout =
    record {
      requests = m.requests ++ entry m l n p time timeout ∷ [];
      next = set m.next p (after (given m p));
      seen = latest m time;
    }

-- "which is the answer"
unfoldable pub ask_answer : Model → ℕ → FrontNumber → ℕ → ℕ → Result PublisherNumber Refusal
ask_answer m l n p time = result_and (check_ask m l n p time) (Ok (given m p))

unfoldable pub ask : Model → ℕ → FrontNumber → ℕ → ℕ → ℕ → Model
ask m l n p time timeout = pick (is_ok (check_ask m l n p time)) (accept m l n p time timeout) m

-- "strikes": the requests that a key matches are removed
abbrev pub remove : Model → Key → Model
remove m k = record { requests = without k m.requests; next = m.next; seen = m.seen }

-- the request that a key matches
abbrev pub matched : Model → Key → Request
matched m k = get_or (matching k m.requests) 0 blank

-- reply and cancel: 30, 12, 34; else they find their request.
-- 30: publisher or link out of range. 12: the number is 0. 34: there is no such request
unfoldable pub check_take : Model → Bool → ℤ → Key → Result ⊤ Refusal
check_take m range n k =
    first
    ((range, Err OutOfRange) ∷ (same n (pos 0), Err NumberZero) ∷ (none k m.requests, Err NoSuchRequest) ∷ [])
    (Ok tt)

unfoldable pub taken : Model → Bool → ℤ → Key → Model
taken m range n k = pick (is_ok (check_take m range n k)) (remove m k) m

-- "reply strikes the entry of its publisher and number": the answer is its link and front number
unfoldable pub reply_answer : Model → ℕ → PublisherNumber → Result FrontEnd Refusal
reply_answer m p n =
    result_and (check_take m (no_publisher p) n.0 (Reply p n))
    (Ok (record { link = (matched m (Reply p n)).link; number = (matched m (Reply p n)).front }))

abbrev pub reply : Model → ℕ → PublisherNumber → Model
reply m p n = taken m (no_publisher p) n.0 (Reply p n)

-- "cancel that of its link and number": the answer is its publisher and publisher number
unfoldable pub cancel_answer : Model → ℕ → FrontNumber → Result PublisherEnd Refusal
cancel_answer m l n =
    result_and (check_take m (no_link l) n.0 (Cancel l n))
    (Ok (record { publisher = (matched m (Cancel l n)).publisher; number = (matched m (Cancel l n)).number }))

abbrev pub cancel : Model → ℕ → FrontNumber → Model
cancel m l n = taken m (no_link l) n.0 (Cancel l n)

-- gone and run out: 30, 16; else they free their requests.
-- 30: link, publisher or time out of range. 16: closed and lost "strike none if the slice has under two numbers for
-- each"; so does run out
unfoldable pub check_drop : Model → Bool → Key → List ℤ → Result ⊤ Refusal
check_drop m range k out =
    first
    ((range, Err OutOfRange) ∷ (ltb (length out) (2 * length (matching k m.requests)), Err BufferTooSmall) ∷ [])
    (Ok tt)

-- "the count is handed back"
unfoldable pub drop_answer : Model → Bool → Key → List ℤ → Result ℕ Refusal
drop_answer m range k out = result_and (check_drop m range k out) (Ok (length (matching k m.requests)))

-- "write their other ends, oldest accepted first, two signed 64-bit numbers each, into a lent slice; what lies past
-- them stays"
unfoldable pub drop_slice : Model → Bool → Key → List ℤ → List ℤ
drop_slice m range k out = pick (is_ok (check_drop m range k out)) (over_front (other_ends k (matching k m.requests)) out) out

-- "numbering goes on"
unfoldable pub dropped : Model → Bool → Key → List ℤ → Model
dropped m range k out = pick (is_ok (check_drop m range k out)) (remove m k) m

-- "closed all of its link, lost all of its publisher": one call "that takes the side and its number" stands for both
-- (document 02, A4)
abbrev pub gone_answer : Model → Peer → List ℤ → Result ℕ Refusal
gone_answer m peer out = drop_answer m (no_peer peer) (key_of peer) out

abbrev pub gone_slice : Model → Peer → List ℤ → List ℤ
gone_slice m peer out = drop_slice m (no_peer peer) (key_of peer) out

abbrev pub gone : Model → Peer → List ℤ → Model
gone m peer out = dropped m (no_peer peer) (key_of peer) out

-- run out "strikes the entries whose deadline is at or before" its time, or the latest time seen before it, whichever
-- is later (document 02, A2)
abbrev pub run_out_key : Model → ℕ → Key
run_out_key m time = Due (latest m time)

abbrev pub run_out_answer : Model → ℕ → List ℤ → Result ℕ Refusal
run_out_answer m time out = drop_answer m (no_time time) (run_out_key m time) out

abbrev pub run_out_slice : Model → ℕ → List ℤ → List ℤ
run_out_slice m time out = drop_slice m (no_time time) (run_out_key m time) out

-- a model that has seen a time
abbrev pub see : Model → ℕ → Model
see m now = record { requests = m.requests; next = m.next; seen = now }

-- its time is seen; "a refused call changes nothing there"
unfoldable pub run_out : Model → ℕ → List ℤ → Model
run_out m time out =
    pick (is_ok (check_drop m (no_time time) (run_out_key m time) out))
    (see (remove m (run_out_key m time)) (latest m time))
    m
