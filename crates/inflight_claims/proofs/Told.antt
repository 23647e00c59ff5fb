-- What a run-out writes tells which requests it frees: link and front number of a request in flight stand in the slice
-- exactly if it is due.
-- Assumes nothing.
use mathlib.Core.Path.{◌≡◌, refl, sym, ap, ◌∙◌}
use mathlib.Core.Logic.{inl, inr}
use Prim.Native.Nat.{ℕ, ◌≤◌}
use mathlib.Core.Bool.{Bool, true, false, ◌||◌, false≢true}
use mathlib.Core.List.{List, [], ◌∷◌, ◌++◌}
use lib.IntN.{ℤ}
use lib.ListN.{length, drop}
use borrow.Author.Tests.{eq-eqb}
use Rattle.inflight.specs.Numbers.{same}
use Rattle.inflight.specs.Matching.{matches, matching, other_ends, blank}
use Rattle.inflight.specs.Model.{Model, check_drop, drop_answer, drop_slice, no_time, run_out_key}
use Rattle.inflight.specs.Calls.{run_out, model_heard}
use Rattle.inflight.specs.declared.FrontNumber.{FrontNumber}
use Rattle.inflight.specs.Requests.{Request, Key, Cancel, Due}
use Rattle.inflight.proofs.NumberLaws.{eq-same}
use Rattle.inflight_claims.specs.Delivery.{frees, among, told}
use Rattle.inflight_claims.proofs.Membership.{In, in-matching, matching-in, in-single, clash}
use Rattle.std.specs.Prelude.{Result, Ok, Err, ⊤}
use Rattle.refusal.specs.declared.Refusal.{Refusal}

-- whether a key matches one of some requests
unfoldable some : Key → List Request → Bool
some k [] = false
some k (e ∷ es) = matches k e || some k es

-- the pairs of a slice that starts with the ends of some requests
among-ends : (now l : ℕ) (f : FrontNumber) (es : List Request) (rest : List ℤ)
    → among l f (length es) (other_ends (Due now) es ++ rest) ≡ some (Cancel l f) es
unfolding among other_ends some matches same
among-ends now l f [] rest = refl
among-ends now l f (e ∷ es) rest = ap (λ (b : Bool). matches (Cancel l f) e || b) (among-ends now l f es rest)

some-yes : (k : Key) (e : Request) (es : List Request) → In e es → matches k e ≡ true → some k es ≡ true
unfolding some
some-yes k e [] i m = absurd i
some-yes k e (d ∷ es) (inl h) m = rw (ap (matches k) h ∙ m)
some-yes k e (d ∷ es) (inr i) m = go (matches k d) (some-yes k e es i m)
  where
    go : (b : Bool) → some k es ≡ true → b || some k es ≡ true
    go true q = refl
    go false q = q

record One (k : Key) (es : List Request) : Type 0 where
  request : Request
  here : In request es
  yes : matches k request ≡ true

yes-some : (k : Key) (es : List Request) → some k es ≡ true → One k es
unfolding some
yes-some k [] q = absurd (false≢true q)
yes-some k (d ∷ es) q = go (matches k d) refl q (yes-some k es)
  where
    go : (b : Bool) → matches k d ≡ b → b || some k es ≡ true → (some k es ≡ true → One k es) → One k (d ∷ es)
    go true e h more = record { request = d; here = inl refl; yes = e }
    go false e h more = let r = more h in record { request = r.request; here = inr r.here; yes = r.yes }

own : (e : Request) → matches (Cancel e.link e.front) e ≡ true
unfolding matches
own e = rw (eq-eqb e.link e.link refl, eq-same e.front.0 e.front.0 refl)

-- a request among those in flight is the only one of its link and front number, so it is among those that a key matches
-- exactly if the key matches it
some-own : (k : Key) (e : Request) (es : List Request) → In e es
    → length (matching (Cancel e.link e.front) es) ≤ 1
    → some (Cancel e.link e.front) (matching k es) ≡ matches k e
some-own k e es i once = go (matches k e) refl (some own_key (matching k es)) refl
  where
    own_key : Key
    own_key = Cancel e.link e.front

    go : (b : Bool) → matches k e ≡ b → (c : Bool) → some own_key (matching k es) ≡ c
        → some own_key (matching k es) ≡ matches k e
    go true m c q = some-yes own_key e (matching k es) (in-matching k e es i m) (own e) ∙ sym m
    go false m false q = q ∙ sym m
    go false m true q =
        let o = yes-some own_key (matching k es) q in
        let d = matching-in k o.request es o.here in
        let a = in-single e (matching own_key es) blank (in-matching own_key e es i (own e)) once in
        let b = in-single o.request (matching own_key es) blank (in-matching own_key o.request es d.0 o.yes) once in
        clash (matches k e) (ap (matches k) (sym a ∙ b) ∙ d.1) m

pub tells : (m : Model) (e : Request) → In e m.requests → length (matching (Cancel e.link e.front) m.requests) ≤ 1
    → (time : ℕ) (out : List ℤ)
    → told e (model_heard m (run_out time out)) ≡ frees m.seen e (run_out time out) (model_heard m (run_out time out))
unfolding frees drop_answer drop_slice
tells m e i once time out = go (check_drop m (no_time time) (run_out_key m time) out) refl
  where
    k : Key
    k = run_out_key m time

    ends : List ℤ
    ends = other_ends k (matching k m.requests)

    go : (y : Result ⊤ Refusal) → check_drop m (no_time time) (run_out_key m time) out ≡ y
        → told e (model_heard m (run_out time out)) ≡ frees m.seen e (run_out time out) (model_heard m (run_out time out))
    go (Ok x) q =
        rw q
        (among-ends _ e.link e.front (matching k m.requests) (drop (length ends) out)
        ∙ some-own k e m.requests i once)
    go (Err x) q = rw q
