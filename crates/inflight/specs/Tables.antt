-- The table: 64 fixed slots, and what each call does on any contents of them, also some that no fresh table leads to.
-- A request stays in its slot until it is freed; masks say which slots are used, and an order which of them is older.
-- Assumes nothing.
use Rattle.std.specs.Prelude.{◌≡◌, ℕ, zero, suc, ◌+◌, ◌*◌, ◌^◌, ◌%◌, min, max, Bool, true, false, not, ◌&&◌, List, [], ◌∷◌, ◌++◌, map, Result, Ok, Err, ⊤, eqb, leb, ltb, ℤ, pos, length, take, get_or, set, replicate}
use Rattle.std.specs.Int.Bits.{bit_or}
use Rattle.std.specs.Int.Count.{ones}
use Rattle.std.specs.Int.Signed.{lt_z}
use Rattle.wire.specs.Choice.{pick, first}
use Rattle.inflight.specs.Numbers.{same, after}
use Rattle.inflight.specs.Matching.{sum_below, over_front}
use Rattle.inflight.specs.Model.{no_link, no_publisher, no_peer, no_time, deadline_at}
use Rattle.inflight.specs.Requests.{due}
use Rattle.inflight.specs.Masks.{slots, seek, gather, lowest_free, cut, within, outside}
use Rattle.inflight.specs.Masks.{laid_out, closed_up, placed_anew}
use Rattle.inflight.specs.declared.FrontNumber.{FrontNumber}
use Rattle.inflight.specs.declared.PublisherNumber.{PublisherNumber}
use Rattle.inflight.specs.declared.Peer.{Peer}
use Rattle.inflight.specs.declared.Peer.TheVariants as P
use Rattle.inflight.specs.declared.FrontEnd.{FrontEnd}
use Rattle.inflight.specs.declared.PublisherEnd.{PublisherEnd}
use Rattle.inflight.specs.declared.Table.{Table}
use Rattle.refusal.specs.declared.Refusal.{Refusal}
use Rattle.refusal.specs.declared.Refusal.TheVariants.{OutOfRange, NumberZero, InFlightAlready, LoadAtLimit, CapacityGone, NoSuchRequest, BufferTooSmall}

-- a table by its arrays
abbrev pub table_of : List ℕ → List ℤ → List ℕ → List ℕ → List ℕ → Table
table_of ms ns ps os ts = record { masks = ms; numbers = ns; places = ps; order = os; times = ts }

-- what the arrays' types say
pub record Sized (t : Table) : Type 0 where
  pub masks : length t.masks ≡ 9
  pub numbers : length t.numbers ≡ 136
  pub places : length t.places ≡ 128
  pub order : length t.order ≡ 64
  pub times : length t.times ≡ 65

-- the used slots
abbrev pub used : Table → ℕ
used t = get_or t.masks 0 0

-- the slots of a publisher
abbrev pub mine : Table → ℕ → ℕ
mine t p = get_or t.masks (1 + p) 0

-- the used slots, oldest accepted first; of contents in which two have the same place, one is not there, and a place that
-- none has is slot 0's
unfoldable pub line : Table → List ℕ
line t = take (ones (used t)) (laid_out t.order (slots (used t)) (replicate 64 0))

-- ---- fresh

pub record Started : Type 0 where
  pub table : Table
  pub answer : Result ⊤ Refusal

-- "a fresh table takes one first publisher number, at least 1, for all eight": one below 1 is 30, and the table stays
abbrev pub no_first : PublisherNumber → Bool
no_first n = lt_z n.0 (pos 1)

unfoldable pub fresh_answer : PublisherNumber → Result ⊤ Refusal
fresh_answer n = pick (no_first n) (Err OutOfRange) (Ok tt)

-- no slot is used; every publisher's next number is the first; what the slots held stays
unfoldable pub fresh_masks : PublisherNumber → List ℕ → List ℕ
fresh_masks n ms = pick (no_first n) ms (replicate 9 0)

unfoldable pub fresh_numbers : PublisherNumber → List ℤ → List ℤ
fresh_numbers n ns = pick (no_first n) ns (take 128 ns ++ replicate 8 n.0)

-- "a fresh table has seen time 0"
unfoldable pub fresh_times : PublisherNumber → List ℕ → List ℕ
fresh_times n ts = pick (no_first n) ts (set ts 64 0)

-- fresh: the table and the answer
unfoldable pub fresh_of : Table → PublisherNumber → Started
fresh_of t n =
    record {
      table = record {
        masks = fresh_masks n t.masks;
        numbers = fresh_numbers n t.numbers;
        places = t.places;
        order = t.order;
        times = fresh_times n t.times;
      };
      answer = fresh_answer n;
    }

-- ---- ask

-- whether slot i has a publisher number; a link and a front number; a link
abbrev pub is_number : List ℤ → PublisherNumber → ℕ → Bool
is_number ns n i = same (get_or ns (64 + i) (pos 0)) n.0

abbrev pub is_front : List ℤ → List ℕ → ℕ → FrontNumber → ℕ → Bool
is_front ns ps l n i = eqb (get_or ps i 0) l && same (get_or ns i (pos 0)) n.0

abbrev pub is_link : List ℕ → ℕ → ℕ → Bool
is_link ps l i = eqb (get_or ps i 0) l

-- "a load is the count of ones in the publisher's mask"; the eight loads, each counted as at least 4, added up
abbrev pub load_of : List ℕ → ℕ → ℕ
load_of ms p = ones (get_or ms (1 + p) 0)

abbrev pub taken_of : List ℕ → ℕ
taken_of ms = sum_below 8 (λ q. max 4 (load_of ms q))

-- from n on, the first number that no slot of a mask has, looked for at `tries` numbers
unfoldable pub free_of : ℕ → ℕ → List ℤ → PublisherNumber → PublisherNumber
free_of zero m ns n = n
free_of (suc tries) m ns n = pick (eqb (seek (is_number ns n) (slots m)) 64) n (free_of tries m ns (after n))

-- 32 and 33
unfoldable pub check_load : List ℕ → ℕ → Result ⊤ Refusal
check_load ms p =
    first
    ((leb 16 (load_of ms p), Err LoadAtLimit)
    ∷ (leb 4 (load_of ms p) && eqb (taken_of ms) 64, Err CapacityGone)
    ∷ [])
    (Ok tt)

-- 30, 12, 31, 32, 33
unfoldable pub check_ask_of : Table → ℕ → FrontNumber → ℕ → ℕ → Result ⊤ Refusal
check_ask_of t l n p time =
    first
    ((no_link l, Err OutOfRange)
    ∷ (no_publisher p, Err OutOfRange)
    ∷ (no_time time, Err OutOfRange)
    ∷ (same n.0 (pos 0), Err NumberZero)
    ∷ (not (eqb (seek (is_front t.numbers t.places l n) (slots (used t))) 64), Err InFlightAlready)
    ∷ [])
    (check_load t.masks p)

-- the number that an ask is given
abbrev pub given_of : Table → ℕ → PublisherNumber
given_of t p = free_of (ones (used t)) (mine t p) t.numbers (record { 0 = get_or t.numbers (128 + p) (pos 0) })

-- the latest time seen, a call's own among them; of contents in which it is past the range, which no fresh table leads
-- to, the largest time stands for it
abbrev pub latest_of : List ℕ → ℕ → ℕ
latest_of ts time = min 4611686018427387903 (max (get_or ts 64 0) time)

-- the times after a request with a timeout was put into slot s
unfoldable pub timed_of : List ℕ → ℕ → ℕ → ℕ → List ℕ
timed_of ts s time timeout = set (set ts s (deadline_at (latest_of ts time) timeout)) 64 (latest_of ts time)

-- a table with one request more, in slot s, behind all others in the order
abbrev pub placed : Table → ℕ → FrontNumber → ℕ → ℕ → PublisherNumber → ℕ → ℕ → Table
placed t l n p s g time timeout =
    record {
      masks = set (set t.masks 0 (bit_or (used t) (2 ^ s))) (1 + p) (bit_or (mine t p) (2 ^ s));
      numbers = set (set (set t.numbers s n.0) (64 + s) g.0) (128 + p) (after g).0;
      places = set (set t.places s l) (64 + s) p;
      order = set t.order s (ones (used t));
      times = timed_of t.times s time timeout;
    }

pub record Asked : Type 0 where
  pub table : Table
  pub answer : Result PublisherNumber Refusal

-- what the check of an ask refuses leaves the table
abbrev pub asked_after : Table → Result ⊤ Refusal → Asked → Asked
asked_after t (Ok _) asked = asked
asked_after t (Err refusal) asked = record { table = t; answer = Err refusal }

-- "a new ticket takes the lowest free slot"; where all 64 are used, which no fresh table leads to, the ask is refused
-- with 33
unfoldable pub ask_of : Table → ℕ → FrontNumber → ℕ → ℕ → ℕ → Asked
ask_of t l n p time timeout =
    asked_after t (check_ask_of t l n p time)
    (pick (leb 64 (lowest_free (used t)))
    (record { table = t; answer = Err CapacityGone })
    (record {
      table = placed t l n p (lowest_free (used t)) (given_of t p) time timeout;
      answer = Ok (given_of t p);
    }))

-- ---- reply and cancel

-- all masks without the slots of one
abbrev pub cut_all : ℕ → List ℕ → List ℕ
cut_all mask ms = map (cut mask) ms

-- a table without the request in one slot: only masks and order change
unfoldable pub freed : Table → ℕ → Table
freed t s =
    record {
      masks = cut_all (2 ^ s) t.masks;
      numbers = t.numbers;
      places = t.places;
      order = map (closed_up (get_or t.order s 0)) t.order;
      times = t.times;
    }

-- the ends of the request in slot s
abbrev pub front_end : Table → ℕ → FrontEnd
front_end t s = record { link = get_or t.places s 0; number = record { 0 = get_or t.numbers s (pos 0) } }

abbrev pub publisher_end : Table → ℕ → PublisherEnd
publisher_end t s =
    record { publisher = get_or t.places (64 + s) 0; number = record { 0 = get_or t.numbers (64 + s) (pos 0) } }

pub record Replied : Type 0 where
  pub table : Table
  pub answer : Result FrontEnd Refusal

abbrev pub reply_at : Table → ℕ → Replied
reply_at t s =
    pick (leb 64 s)
    (record { table = t; answer = Err NoSuchRequest })
    (record { table = freed t s; answer = Ok (front_end t s) })

-- 30, 12, 34; else the request in the slot that is found is freed, and its link and front number are the answer
unfoldable pub reply_of : Table → ℕ → PublisherNumber → Replied
reply_of t p n =
    first
    ((no_publisher p, record { table = t; answer = Err OutOfRange })
    ∷ (same n.0 (pos 0), record { table = t; answer = Err NumberZero })
    ∷ [])
    (reply_at t (seek (is_number t.numbers n) (slots (mine t p))))

pub record Cancelled : Type 0 where
  pub table : Table
  pub answer : Result PublisherEnd Refusal

abbrev pub cancel_at : Table → ℕ → Cancelled
cancel_at t s =
    pick (leb 64 s)
    (record { table = t; answer = Err NoSuchRequest })
    (record {
      table = freed t s;
      answer = Ok (publisher_end t s);
    })

-- 30, 12, 34; else the request in the slot that is found is freed, and its publisher and publisher number are the answer
unfoldable pub cancel_of : Table → ℕ → FrontNumber → Cancelled
cancel_of t l n =
    first
    ((no_link l, record { table = t; answer = Err OutOfRange })
    ∷ (same n.0 (pos 0), record { table = t; answer = Err NumberZero })
    ∷ [])
    (cancel_at t (seek (is_front t.numbers t.places l n) (slots (used t))))

-- ---- gone

-- the slots of a peer: the used ones that have the link, or the publisher's mask
abbrev pub slots_of : List ℕ → List ℕ → Peer → ℕ
slots_of ms ps (P.Front l) = gather (is_link ps l) (slots (get_or ms 0 0)) 0
slots_of ms ps (P.Publisher p) = get_or ms (1 + p) 0

-- those of a mask's slots that are used, oldest accepted first
abbrev pub leaving : Table → ℕ → List ℕ
leaving t mask = within mask (line t)

-- where ends of requests stand: publishers and publisher numbers at 64, links and front numbers at 0
abbrev pub ends_at : Bool → ℕ
ends_at publishers = pick publishers 64 0

-- where the other ends of a peer's requests stand
abbrev pub other_at : Peer → ℕ
other_at (P.Front l) = ends_at true
other_at (P.Publisher p) = ends_at false

-- the other ends of some slots: place and number of each, at an offset
unfoldable pub ends_of : List ℤ → List ℕ → ℕ → List ℕ → List ℤ
ends_of ns ps base [] = []
ends_of ns ps base (x ∷ xs) = pos (get_or ps (base + x % 64) 0) ∷ get_or ns (base + x % 64) (pos 0) ∷ ends_of ns ps base xs

-- a table without the requests in the slots of a mask, where the used slots are those of a line, oldest accepted
-- first: only masks and order change
abbrev pub struck_from : Table → List ℕ → ℕ → Table
struck_from t xs mask =
    record {
      masks = cut_all mask t.masks;
      numbers = t.numbers;
      places = t.places;
      order = placed_anew (outside mask xs) 0 t.order;
      times = t.times;
    }

unfoldable pub struck : Table → ℕ → Table
struck t mask = struck_from t (line t) mask

pub record Dropped : Type 0 where
  pub table : Table
  pub answer : Result ℕ Refusal
  pub slice : List ℤ

-- the requests of a mask's slots are freed and their other ends written, if the slice has two numbers for each; else 16
unfoldable pub drop_of : Table → ℕ → ℕ → List ℤ → Dropped
drop_of t mask base out =
    pick (ltb (length out) (2 * length (leaving t mask)))
    (record { table = t; answer = Err BufferTooSmall; slice = out })
    (record {
      table = struck t mask;
      answer = Ok (length (leaving t mask));
      slice = over_front (ends_of t.numbers t.places base (leaving t mask)) out;
    })

-- 30; else the requests in the peer's slots
unfoldable pub gone_of : Table → Peer → List ℤ → Dropped
gone_of t peer out =
    pick (no_peer peer)
    (record { table = t; answer = Err OutOfRange; slice = out })
    (drop_of t (slots_of t.masks t.places peer) (other_at peer) out)

-- ---- run out

-- whether slot i has a deadline that has come at a time
abbrev pub is_due : List ℕ → ℕ → ℕ → Bool
is_due ts now i = due (get_or ts i 0) now

-- the used slots that have one
abbrev pub due_of : List ℕ → List ℕ → ℕ → ℕ
due_of ms ts now = gather (is_due ts now) (slots (get_or ms 0 0)) 0

-- the times after a run-out: the time is seen, unless the call was refused
abbrev pub seen_of : List ℕ → ℕ → Result ℕ Refusal → List ℕ
seen_of ts now (Ok k) = set ts 64 now
seen_of ts now (Err refusal) = ts

-- what a run-out leaves: what freeing the slots leaves, and its time
abbrev pub dropped_at : List ℕ → ℕ → Dropped → Dropped
dropped_at ts now r =
    record {
      table =
          table_of r.table.masks r.table.numbers r.table.places r.table.order (seen_of ts now r.answer);
      answer = r.answer;
      slice = r.slice;
    }

-- 30; else the requests in the due slots, with links and front numbers as their other ends
unfoldable pub run_out_of : Table → ℕ → List ℤ → Dropped
run_out_of t time out =
    pick (no_time time)
    (record { table = t; answer = Err OutOfRange; slice = out })
    (dropped_at t.times (latest_of t.times time)
    (drop_of t (due_of t.masks t.times (latest_of t.times time)) (ends_at false) out))
