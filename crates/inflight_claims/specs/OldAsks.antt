-- "Old asks have no deadline" (document 02, A2). An old ask is one with time 0 and timeout 0. These are the definitions
-- that ask was proved to meet before it brought a time and a timeout, word for word but that the table has times now,
-- which they leave; `OldAsks` says that such an ask does what it did then, gives its request no deadline, and lets the
-- latest time stand.
-- Assumes nothing.
use Rattle.std.specs.Prelude.{◌≡◌, ℕ, ◌+◌, ◌^◌, ◌<◌, Bool, true, false, not, [], ◌∷◌, eqb, leb, pos, get_or, set}
use Rattle.std.specs.Int.Bits.{bit_or}
use Rattle.std.specs.Int.Count.{ones}
use Rattle.wire.specs.Choice.{pick, first}
use Rattle.inflight.specs.Numbers.{same, after}
use Rattle.inflight.specs.Model.{no_link, no_publisher}
use Rattle.inflight.specs.Masks.{slots, seek, lowest_free}
use Rattle.inflight.specs.Tables.{used, mine, is_front, check_load, given_of, Asked, asked_after, ask_of}
use Rattle.inflight.specs.declared.Table.{Table}
use Rattle.inflight.specs.declared.FrontNumber.{FrontNumber}
use Rattle.inflight.specs.declared.PublisherNumber.{PublisherNumber}
use Rattle.std.specs.Prelude.{Result, Ok, Err, ⊤}
use Rattle.refusal.specs.declared.Refusal.{Refusal}
use Rattle.refusal.specs.declared.Refusal.TheVariants.{OutOfRange, NumberZero, InFlightAlready, CapacityGone}

-- 30, 12, 31, 32, 33
unfoldable pub check_ask_of : Table → ℕ → FrontNumber → ℕ → Result ⊤ Refusal
check_ask_of t l n p =
    first
    ((no_link l, Err OutOfRange)
    ∷ (no_publisher p, Err OutOfRange)
    ∷ (same n.0 (pos 0), Err NumberZero)
    ∷ (not (eqb (seek (is_front t.numbers t.places l n) (slots (used t))) 64), Err InFlightAlready)
    ∷ [])
    (check_load t.masks p)

-- a table with one request more, in slot s, behind all others in the order
abbrev pub placed : Table → ℕ → FrontNumber → ℕ → ℕ → PublisherNumber → Table
placed t l n p s g =
    record {
      masks = set (set t.masks 0 (bit_or (used t) (2 ^ s))) (1 + p) (bit_or (mine t p) (2 ^ s));
      numbers = set (set (set t.numbers s n.0) (64 + s) g.0) (128 + p) (after g).0;
      places = set (set t.places s l) (64 + s) p;
      order = set t.order s (ones (used t));
      times = t.times;
    }

-- "a new ticket takes the lowest free slot"; where all 64 are used, which no fresh table leads to, the ask is refused
-- with 33
unfoldable pub old_ask_of : Table → ℕ → FrontNumber → ℕ → Asked
old_ask_of t l n p =
    asked_after t (check_ask_of t l n p)
    (pick (leb 64 (lowest_free (used t)))
    (record { table = t; answer = Err CapacityGone })
    (record { table = placed t l n p (lowest_free (used t)) (given_of t p); answer = Ok (given_of t p) }))

-- whether an ask was accepted
abbrev pub accepted : Result PublisherNumber Refusal → Bool
accepted (Ok x) = true
accepted (Err k) = false

-- the claim: on any contents of the table, for every link, number and publisher
pub record OldAsk (t : Table) (l : ℕ) (n : FrontNumber) (p : ℕ) : Type 0 where
  pub answer : (ask_of t l n p 0 0).answer ≡ (old_ask_of t l n p).answer
  pub masks : (ask_of t l n p 0 0).table.masks ≡ (old_ask_of t l n p).table.masks
  pub numbers : (ask_of t l n p 0 0).table.numbers ≡ (old_ask_of t l n p).table.numbers
  pub places : (ask_of t l n p 0 0).table.places ≡ (old_ask_of t l n p).table.places
  pub order : (ask_of t l n p 0 0).table.order ≡ (old_ask_of t l n p).table.order
  -- where it is accepted its slot has no deadline; no other slot's changes, and the latest time, if it is in range, as
  -- it is after every list of calls (`SeenByTimes`, Slots), is what it was
  pub times : get_or t.times 64 0 < 4611686018427387904
      → (ask_of t l n p 0 0).table.times
      ≡ pick (accepted (old_ask_of t l n p).answer) (set t.times (lowest_free (used t)) 0) t.times

abbrev pub OldAsks : Type 0
OldAsks = (t : Table) (l : ℕ) (n : FrontNumber) (p : ℕ) → OldAsk t l n p
