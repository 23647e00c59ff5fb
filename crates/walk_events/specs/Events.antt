-- The event format (document 01, "Program: relay walk"): a kind byte, then a body whose length the kind fixes.
-- Assumes nothing.
use Rattle.std.specs.Prelude.{ℕ, Bool, true, false, not, List, [], ◌∷◌, eqb, leb, length, get_or, Option, Some, None, Result, Ok, Err}
use Rattle.std.specs.Int.{w64}
use Rattle.std.proofs.Common.{to_z}
use Rattle.wire.specs.Bytes.{le, part}
use Rattle.wire.specs.Choice.{first}
use Rattle.inflight.specs.declared.FrontNumber.{FrontNumber}
use Rattle.inflight.specs.declared.PublisherNumber.{PublisherNumber}
use Rattle.inflight.specs.declared.Peer.TheVariants as P
use Rattle.walk_turn.specs.declared.Event.{Event}
use Rattle.walk_turn.specs.declared.Event.TheVariants.{Ask, Reply, Cancel, Gone, AskBy, RunOut}
use Rattle.walk_turn.specs.declared.NoEvent.{NoEvent}
use Rattle.walk_turn.specs.declared.NoEvent.TheVariants.{End, Cut, Unknown}

-- "1 ask: link 1, number 8, publisher 1. 2 reply: publisher 1, number 8. 3 cancel: link 1, number 8. 4 closed: link
-- 1. 5 lost: publisher 1"; "kind 6 is ask with time 8 and timeout 4 added after the publisher .., kind 7 is the run-out
-- call with time 8" (document 02, A2): the length of a kind's body, and 0 for an unknown kind
unfoldable pub body_size : ℕ → ℕ
body_size kind =
    first
    ((eqb kind 1, 10)
    ∷ (eqb kind 2, 9)
    ∷ (eqb kind 3, 9)
    ∷ (eqb kind 4, 1)
    ∷ (eqb kind 5, 1)
    ∷ (eqb kind 6, 22)
    ∷ (eqb kind 7, 8)
    ∷ [])
    0

-- a number is 8 bytes, signed, little-endian; it stands after the kind and the link or publisher
unfoldable pub front_number : List ℕ → FrontNumber
front_number es = record { 0 = to_z w64 (le (part es 2 8)) }

unfoldable pub publisher_number : List ℕ → PublisherNumber
publisher_number es = record { 0 = to_z w64 (le (part es 2 8)) }

-- the fields of a whole record of one of the seven kinds; times and timeouts are unsigned, little-endian
unfoldable pub body_of : ℕ → List ℕ → Event
body_of kind es =
    first
    ((eqb kind 1, Ask (get_or es 1 0) (front_number es) (get_or es 10 0))
    ∷ (eqb kind 2, Reply (get_or es 1 0) (publisher_number es))
    ∷ (eqb kind 3, Cancel (get_or es 1 0) (front_number es))
    ∷ (eqb kind 4, Gone (P.Front (get_or es 1 0)))
    ∷ (eqb kind 5, Gone (P.Publisher (get_or es 1 0)))
    ∷ (eqb kind 6, AskBy (get_or es 1 0) (front_number es) (get_or es 10 0) (le (part es 11 8)) (le (part es 19 4)))
    ∷ [])
    (RunOut (le (part es 1 8)))

-- what stands at the front of some bytes: their end, an unknown kind, a record cut off, or an event
unfoldable pub event_of : List ℕ → Result Event NoEvent
event_of es =
    first
    ((eqb (length es) 0, Err End)
    ∷ (eqb (body_size (get_or es 0 0)) 0, Err Unknown)
    ∷ (leb (length es) (body_size (get_or es 0 0)), Err Cut)
    ∷ [])
    (Ok (body_of (get_or es 0 0) es))

-- the size of an event's record, and 0 where there is none
abbrev pub record_size : Result Event NoEvent → ℕ
record_size (Ok (Ask l n p)) = 11
record_size (Ok (Reply p n)) = 10
record_size (Ok (Cancel l n)) = 10
record_size (Ok (Gone peer)) = 2
record_size (Ok (AskBy l n p time timeout)) = 23
record_size (Ok (RunOut time)) = 9
record_size (Err why) = 0

-- the size where there is an event
abbrev pub size_of : Result Event NoEvent → Option ℕ
size_of (Ok e) = Some (record_size (Ok e))
size_of (Err why) = None

-- "until they end": at the end of the bytes nothing is to do, and a record that is cut off waits for the next bytes,
-- unless these are the last
abbrev pub waits : Result Event NoEvent → Bool → Bool
waits (Ok e) last = false
waits (Err End) last = true
waits (Err Cut) last = not last
waits (Err Unknown) last = false
