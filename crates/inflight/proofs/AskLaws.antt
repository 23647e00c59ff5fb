-- An ask to which 30, 12 and 31 do not apply is refused by the load and the capacity alone.
-- Assumes nothing.
use mathlib.Core.Path.{◌≡◌, ◌∙◌}
use Prim.Native.Nat.{ℕ, ◌≤◌, ◌<◌}
use native.Mathlib.Omega.{arith}
use mathlib.Core.Bool.{false, ◌&&◌}
use mathlib.Core.List.{[], ◌∷◌}
use lib.Dec.{eqb, leb}
use lib.IntN.{pos}
use lib.ListN.{length}
use borrow.Author.Tests.{le-leb, lt-leb, eq-eqb, ne_eqb}
use Rattle.std.specs.Prelude.{Ok, Err}
use Rattle.wire.specs.Choice.{first}
use Rattle.refusal.specs.declared.Refusal.TheVariants.{InFlightAlready, LoadAtLimit, CapacityGone}
use Rattle.inflight.specs.Numbers.{same}
use Rattle.inflight.specs.Matching.{matching, load, capacity_taken}
use Rattle.inflight.specs.Model.{Model, check_ask}
use Rattle.inflight.specs.declared.FrontNumber.{FrontNumber}
use Rattle.inflight.specs.Requests.{Cancel}

-- 31, where the link has a request of that number in flight
pub ask-own : (m : Model) (l : ℕ) (n : FrontNumber) (p time : ℕ) → l < 32 → p < 8 → time < 4611686018427387904 → same n.0 (pos 0) ≡ false
    → (length (matching (Cancel l n) m.requests) ≡ 0 → ⊥) → check_ask m l n p time ≡ Err InFlightAlready
unfolding check_ask
ask-own m l n p time a b t c d = rw (lt-leb 32 l a, lt-leb 8 p b, lt-leb 4611686018427387904 time t, c, ne_eqb (length (matching (Cancel l n) m.requests)) 0 d)

-- 30, 12 and 31 do not apply
pub record Applies (m : Model) (l : ℕ) (n : FrontNumber) (p time : ℕ) : Type 0 where
  pub link : l < 32
  pub publisher : p < 8
  pub clock : time < 4611686018427387904
  pub number : same n.0 (pos 0) ≡ false
  pub own : length (matching (Cancel l n) m.requests) ≡ 0

module _ {m : Model} {l : ℕ} {n : FrontNumber} {p time : ℕ} (v : Applies m l n p time) where
  -- the rows that are left
  rest : check_ask m l n p time ≡ first ((leb 16 (load m.requests p), Err LoadAtLimit) ∷ (leb 4 (load m.requests p) && eqb (capacity_taken m.requests) 64, Err CapacityGone) ∷ []) (Ok tt)
  unfolding check_ask
  rest = rw (lt-leb 32 l v.link, lt-leb 8 p v.publisher, lt-leb 4611686018427387904 time v.clock, v.number, eq-eqb (length (matching (Cancel l n) m.requests)) 0 v.own)

  pub ask-full : 16 ≤ load m.requests p → check_ask m l n p time ≡ Err LoadAtLimit
  ask-full h = rest ∙ rw (le-leb 16 (load m.requests p) h)

  pub ask-under : load m.requests p < 4 → check_ask m l n p time ≡ Ok tt
  ask-under h = rest ∙ rw (lt-leb 16 (load m.requests p) (omega arith), lt-leb 4 (load m.requests p) h)

  pub ask-gone : 4 ≤ load m.requests p → load m.requests p < 16 → capacity_taken m.requests ≡ 64 → check_ask m l n p time ≡ Err CapacityGone
  ask-gone h k t = rest ∙ rw (lt-leb 16 (load m.requests p) k, le-leb 4 (load m.requests p) h, eq-eqb (capacity_taken m.requests) 64 t)

  pub ask-left : 4 ≤ load m.requests p → load m.requests p < 16 → (capacity_taken m.requests ≡ 64 → ⊥) → check_ask m l n p time ≡ Ok tt
  ask-left h k t = rest ∙ rw (lt-leb 16 (load m.requests p) k, le-leb 4 (load m.requests p) h, ne_eqb (capacity_taken m.requests) 64 t)
