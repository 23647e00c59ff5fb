-- The list claim, proved.
-- Assumes nothing.
use mathlib.Core.Path.{◌≡◌, refl, sym, ap, ◌∙◌, subst}
use Prim.Native.Nat.{ℕ, ◌≤◌, ◌<◌, ◌^◌}
use native.Mathlib.Omega.{arith}
use mathlib.Core.Bool.{Bool, true, false, false≢true}
use lib.Dec.{eqb}
use lib.IntN.{ℤ, pos, negsuc}
use lib.Signed.{mag, lt_z, le_z}
use lib.ListN.{length}
use mathlib.Core.List.{List}
use mir.Syntax.{w64}
use mir.Val.{SFits}
use borrow.Author.Tests.{eqb-true, eqb-false, le-ltb, le-leb, ltb-false}
use Rattle.inflight.specs.Matching.{matching, load, capacity_taken}
use Rattle.inflight.specs.Model.{Model, empty, check_ask, ask_answer, given}
use Rattle.inflight.specs.Tables.{Sized, fresh_of}
use Rattle.inflight.specs.declared.Table.{Table}
use Rattle.inflight.specs.Calls.{Call, model_run, model_at}
use Rattle.inflight.specs.declared.FrontNumber.{FrontNumber}
use Rattle.inflight.specs.declared.PublisherNumber.{PublisherNumber}
use Rattle.inflight.specs.Requests.{Reply}
use Rattle.inflight.proofs.NumberLaws.{ne_same}
use Rattle.inflight.proofs.AskLaws.{Applies, ask-full, ask-under, ask-gone, ask-left}
use Rattle.inflight_claims.specs.ListClaim.{Valid, Capacity, Kept, ListClaim, Listed, AllFirsts}
use Rattle.inflight_model.proofs.Capacity.{accepts, bounded-size}
use Rattle.inflight_model.proofs.Invariant.{Ranged, Invariant, inv_at, given-ranged, new-number}
use Rattle.inflight_tied.proofs.Simulated.{run-same, fresh-ready, ready-not-below, fresh-good, fresh-model}
use Rattle.std.specs.Prelude.{Result, Ok, Err, ⊤}
use Rattle.std.specs.Result.{result_and}
use Rattle.refusal.specs.declared.Refusal.{Refusal}
use Rattle.refusal.specs.declared.Refusal.TheVariants.{LoadAtLimit, CapacityGone}

module _ (m : Model) (l : ℕ) (n : FrontNumber) (p time : ℕ) where
  pub answer-yes : check_ask m l n p time ≡ Ok tt → ask_answer m l n p time ≡ Ok (given m p)
  unfolding ask_answer
  answer-yes e = rw e

  pub answer-no : (k : Refusal) → check_ask m l n p time ≡ Err k → ask_answer m l n p time ≡ Err k
  unfolding ask_answer
  answer-no k e = rw e

  -- an accepted ask is not refused, and its answer is the number given
  pub answer-accepted : (x : PublisherNumber) → ask_answer m l n p time ≡ Ok x → (check_ask m l n p time ≡ Ok tt) × (given m p ≡ x)
  unfolding ask_answer
  answer-accepted x = go (check_ask m l n p time) refl
    where
      go : (y : Result ⊤ Refusal) → check_ask m l n p time ≡ y → result_and y (Ok (given m p)) ≡ Ok x
          → (check_ask m l n p time ≡ Ok tt) × (given m p ≡ x)
      go (Ok o) e h = (e, cc)
      go (Err o) e h = cc

-- the sentences on capacity
pub capacity : (m : Model) (l : ℕ) (n : FrontNumber) (p time : ℕ) → Valid m l n p time → Capacity m l n p time
capacity m l n p time v =
    record {
      under = λ h. answer-yes m l n p time (ask-under applies h);
      taken = λ h k t. answer-no m l n p time CapacityGone (ask-gone applies h (omega arith) t);
      only = λ h k a. only h k (eqb (capacity_taken m.requests) 64) refl a;
      left = left;
      full = λ h. answer-no m l n p time LoadAtLimit (ask-full applies (omega arith));
    }
  where
    applies : Applies m l n p time
    applies = record { link = v.link; publisher = v.publisher; clock = v.clock; number = ne_same n.0 (pos 0) v.number; own = v.own }

    left : 4 ≤ load m.requests p → load m.requests p ≤ 15 → (capacity_taken m.requests ≡ 64 → ⊥) → ask_answer m l n p time ≡ Ok (given m p)
    left h k t = answer-yes m l n p time (ask-left applies h (omega arith) t)

    only : 4 ≤ load m.requests p → load m.requests p ≤ 15 → (y : Bool) → eqb (capacity_taken m.requests) 64 ≡ y
        → ask_answer m l n p time ≡ Err CapacityGone → capacity_taken m.requests ≡ 64
    only h k true e a = eqb-true (capacity_taken m.requests) 64 e
    only h k false e a =
        let b = left h k (eqb-false (capacity_taken m.requests) 64 e) in
        let z : ◌≡◌ {A = ℕ} 0 1 = cc in
        absurd (omega arith)

pub kept : (m : Model) → Invariant m → Kept m
kept m f =
    record {
      capacity = λ l n p time v. capacity m l n p time v;
      size = bounded-size m.requests f.bounded;
      most = f.bounded.most;
      within = f.bounded.within;
      once = f.once;
      front_once = f.front_once;
      new = λ l n p time x a.
          let e = answer-accepted m l n p time x a in
          ap (λ (y : PublisherNumber). length (matching (Reply p y) m.requests)) (sym e.1) ∙ new-number m l n p time f e.0;
      from_one = λ l n p time x a.
          let e = answer-accepted m l n p time x a in
          rw (← e.1) (given_from_one (given m p) (given-ranged m p f (accepts m l n p time e.0).range));
      seen = f.seen;
    }
  where
    given_from_one : (x : PublisherNumber) → Ranged x → le_z (pos 1) x.0 ≡ true
    given_from_one x r = rw r.is (le-leb 1 r.at r.low)

-- fresh accepts a number from 1 to the largest
pub ranged-ready : (t : Table) (first : PublisherNumber) → Ranged first → (fresh_of t first).answer ≡ Ok tt
ranged-ready t first r = fresh-ready t first (rw r.is (le-ltb r.at 1 r.low))

-- and of those that fit 64 bits no other
pub ready-ranged : (t : Table) (first : PublisherNumber) → SFits w64 first.0 → (fresh_of t first).answer ≡ Ok tt
    → Ranged first
ready-ranged t first f r = go first.0 refl (ready-not-below t first r)
  where
    go : (z : ℤ) → first.0 ≡ z → lt_z first.0 (pos 1) ≡ false → Ranged first
    go (pos n) e h =
        let low : 1 ≤ n = ltb-false n 1 (ap (λ (x : ℤ). lt_z x (pos 1)) (sym e) ∙ h) in
        let high : n < 2 ^ 63 = subst (λ (x : ℤ). mag x < 2 ^ 63) e f.sfits in
        record { at = n; is = ap (λ (x : ℤ). record { 0 = x }) e; low = low; high = omega arith }
    go (negsuc n) e h = absurd (false≢true (sym h ∙ ap (λ (x : ℤ). lt_z x (pos 1)) e))

claim : (t : Table) → Sized t → (first : PublisherNumber) → Ranged first → (cs : List Call) → ListClaim t first cs
claim t z first r cs =
    let ready = ranged-ready t first r in
    let low = ready-not-below t first ready in
    record {
      ready = ready;
      heard =
          run-same cs (fresh_of t first).table (fresh-good t first z low r)
          ∙ ap (λ (m : Model). model_run m cs) (fresh-model t first z low);
      kept = λ before rest q. kept (model_at (empty first) before) (inv_at first r before);
    }

pub listed : Listed
listed t z n a b cs = claim t z (record { 0 = pos n }) (record { at = n; is = refl; low = a; high = b }) cs

pub all_firsts : AllFirsts
all_firsts t z first f r cs = claim t z first (ready-ranged t first f r) cs
