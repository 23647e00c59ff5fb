-- Slots and masks. After every list of calls on a fresh table the count of ones in a publisher's mask is its load by
-- the model, the used mask counts the requests in flight, and the latest time is the model's. A new request's slot is the lowest free one. On any
-- contents no call moves what a used slot holds.
-- Assumes nothing.
use Rattle.std.specs.Prelude.{◌≡◌, ℕ, ◌+◌, ◌^◌, ◌<◌, List, pos, length, get_or}
use Rattle.std.specs.Int.Count.{ones}
use Rattle.std.specs.Int.{w64}
use Rattle.std.proofs.Common.{SFits}
use Rattle.inflight.specs.Matching.{load}
use Rattle.inflight.specs.Masks.{bit_at, lowest_free}
use Rattle.inflight.specs.Model.{empty}
use Rattle.inflight.specs.Tables.{Sized, used, load_of, fresh_of}
use Rattle.inflight.specs.declared.Table.{Table}
use Rattle.inflight.specs.Calls.{Call, table_after, table_at, model_at}
use Rattle.inflight.specs.declared.PublisherNumber.{PublisherNumber}
use Rattle.std.specs.Prelude.{Ok}

-- "a load is the count of ones in the publisher's mask", and is the model's load: for every table whose arrays have
-- their sizes, whatever they hold, every first number that fresh accepts, every list of calls and every publisher
abbrev pub LoadsByMasks : Type 0
LoadsByMasks =
    (t : Table) → Sized t → (first : PublisherNumber) → SFits w64 first.0 → (fresh_of t first).answer ≡ Ok tt
    → (cs : List Call) (p : ℕ) → p < 8
    → load_of (table_at (fresh_of t first).table cs).masks p ≡ load (model_at (empty first) cs).requests p

-- and the used mask has as many ones as requests are in flight
abbrev pub UsedByMask : Type 0
UsedByMask =
    (t : Table) → Sized t → (first : PublisherNumber) → SFits w64 first.0 → (fresh_of t first).answer ≡ Ok tt
    → (cs : List Call)
    → ones (used (table_at (fresh_of t first).table cs)) ≡ length (model_at (empty first) cs).requests

-- and the latest time that the table keeps is the one that the model has seen
abbrev pub SeenByTimes : Type 0
SeenByTimes =
    (t : Table) → Sized t → (first : PublisherNumber) → SFits w64 first.0 → (fresh_of t first).answer ≡ Ok tt
    → (cs : List Call)
    → get_or (table_at (fresh_of t first).table cs).times 64 0 ≡ (model_at (empty first) cs).seen

-- "a new ticket takes the lowest free slot": a mask of 64 slots has every slot below it, and not it, if there is one
abbrev pub LowestSlot : Type 0
LowestSlot =
    (u : ℕ) → u < 2 ^ 64
    → ((j : ℕ) → j < lowest_free u → bit_at j u ≡ 1) × (lowest_free u < 64 → bit_at (lowest_free u) u ≡ 0)

-- slot i of a table u holds what it holds in t: front number, publisher number, link, publisher and deadline
pub record Unmoved (t u : Table) (i : ℕ) : Type 0 where
  pub front : get_or u.numbers i (pos 0) ≡ get_or t.numbers i (pos 0)
  pub number : get_or u.numbers (64 + i) (pos 0) ≡ get_or t.numbers (64 + i) (pos 0)
  pub link : get_or u.places i 0 ≡ get_or t.places i 0
  pub publisher : get_or u.places (64 + i) 0 ≡ get_or t.places (64 + i) 0
  pub deadline : get_or u.times i 0 ≡ get_or t.times i 0

-- "tickets shall not move": whatever the table holds and whatever the call, what a used slot holds, it holds after it
abbrev pub NeverMoves : Type 0
NeverMoves = (t : Table) (c : Call) (i : ℕ) → i < 64 → bit_at i (used t) ≡ 1 → Unmoved t (table_after t c) i
