-- What ties the masks to the order, on tables that a fresh one leads to; and such a table read as the model.
-- Assumes nothing.
use mathlib.Core.Path.{◌≡◌}
use Prim.Native.Nat.{ℕ, suc, ◌+◌, ◌^◌, ◌<◌}
use mathlib.Core.List.{List, [], ◌∷◌, map}
use lib.Dec.{eqb}
use lib.IntN.{pos}
use lib.ListN.{length, drop, get_or}
use Rattle.wire.specs.Choice.{pick}
use Rattle.inflight.specs.Masks.{bit_at}
use Rattle.inflight.specs.Model.{Model}
use Rattle.inflight.specs.Requests.{Request}
use Rattle.inflight.specs.Tables.{used, mine, line}
use Rattle.inflight.specs.declared.Table.{Table}

-- how often i stands in a list
unfoldable pub occ : ℕ → List ℕ → ℕ
occ i [] = 0
occ i (x ∷ xs) = pick (eqb x i) (suc (occ i xs)) (occ i xs)

-- each element is below k
unfoldable pub Below : ℕ → List ℕ → Type 0
Below k [] = Unit {0}
Below k (x ∷ xs) = (x < k) × Below k xs

-- by some places, each element of a list is one behind the element before it, and the first is at place k
unfoldable pub Aged : List ℕ → ℕ → List ℕ → Type 0
Aged os k [] = Unit {0}
Aged os k (x ∷ xs) = (get_or os x 0 ≡ k) × Aged os (suc k) xs

-- bit i of the used mask is how often slot i stands in the line; of a publisher's mask, where the slot's request is
-- the publisher's. The order has a place for each slot, and the k-th oldest slot's is k
pub record Tied (w : Table) : Type 0 where
  pub fits : used w < 2 ^ 64
  pub narrow : (p : ℕ) → mine w p < 2 ^ 64
  pub low : Below 64 (line w)
  pub tie : (i : ℕ) → i < 64 → occ i (line w) ≡ bit_at i (used w)
  pub own : (p : ℕ) → p < 8 → (i : ℕ) → i < 64
      → bit_at i (mine w p) ≡ pick (eqb (get_or w.places (64 + i) 0) p) (bit_at i (used w)) 0
  pub whole : length w.order ≡ 64
  pub aged : Aged w.order 0 (line w)

-- the request in a slot, the requests in flight oldest first, and a table as the model
unfoldable pub entry : Table → ℕ → Request
entry w x =
    record {
      link = get_or w.places x 0;
      front = record { 0 = get_or w.numbers x (pos 0) };
      publisher = get_or w.places (64 + x) 0;
      number = record { 0 = get_or w.numbers (64 + x) (pos 0) };
      deadline = get_or w.times x 0;
    }

unfoldable pub in_flight : Table → List Request
in_flight w = map (entry w) (line w)

abbrev pub model_of : Table → Model
model_of w =
    record {
      requests = in_flight w;
      next = map (λ z. record { 0 = z }) (drop 128 w.numbers);
      seen = get_or w.times 64 0;
    }
