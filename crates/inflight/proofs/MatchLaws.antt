-- Laws on lists of requests that the proofs of several functions cite: one request more.
-- Assumes nothing.
use mathlib.Core.Path.{◌≡◌, refl, ap, ◌∙◌}
use Prim.Native.Nat.{ℕ, ◌+◌, ◌-◌, ◌≤◌, ◌<◌}
use native.Mathlib.Omega.{arith}
use native.Mathlib.Numerals.{add-one}
use mathlib.Core.Bool.{Bool, true, false}
use mathlib.Core.List.{List, [], ◌∷◌, ◌++◌, append-nil}
use lib.ListN.{length, take, drop, get_or}
use lib.Seq.{take-suc, take-add}
use Rattle.wire.specs.Choice.{pick}
use Rattle.inflight.specs.Matching.{matches, matching, without}
use Rattle.inflight.specs.Requests.{Request}
use Rattle.inflight.specs.Requests.{Key}

-- ---- the requests that a key matches, and the others, one request more

pub matching-snoc : (k : Key) (es : List Request) (e : Request) → matching k (es ++ e ∷ []) ≡ matching k es ++ pick (matches k e) (e ∷ []) []
unfolding matching
matching-snoc k [] e = refl
matching-snoc k (x ∷ es) e = go (matches k x) (matching-snoc k es e)
  where
    go : (t : Bool) → matching k (es ++ e ∷ []) ≡ matching k es ++ pick (matches k e) (e ∷ []) []
        → pick t (x ∷ matching k (es ++ e ∷ [])) (matching k (es ++ e ∷ [])) ≡ pick t (x ∷ matching k es) (matching k es) ++ pick (matches k e) (e ∷ []) []
    go true h = ap (λ (l : List Request). x ∷ l) h
    go false h = h

pub without-snoc : (k : Key) (es : List Request) (e : Request) → without k (es ++ e ∷ []) ≡ without k es ++ pick (matches k e) [] (e ∷ [])
unfolding without
without-snoc k [] e = refl
without-snoc k (x ∷ es) e = go (matches k x) (without-snoc k es e)
  where
    go : (t : Bool) → without k (es ++ e ∷ []) ≡ without k es ++ pick (matches k e) [] (e ∷ [])
        → pick t (without k (es ++ e ∷ [])) (x ∷ without k (es ++ e ∷ [])) ≡ pick t (without k es) (x ∷ without k es) ++ pick (matches k e) [] (e ∷ [])
    go true h = h
    go false h = ap (λ (l : List Request). x ∷ l) h

-- a turn of a loop over the requests: the one at i is matched, or not
module _ (k : Key) (xs : List Request) (i : ℕ) (d : Request) (h : i < length xs) where
  pub matching-yes : matches k (get_or xs i d) ≡ true → matching k (take (i + 1) xs) ≡ matching k (take i xs) ++ get_or xs i d ∷ []
  matching-yes e = rw (add-one, take-suc xs i d) (matching-snoc k (take i xs) (get_or xs i d) ∙ rw e)

  pub matching-no : matches k (get_or xs i d) ≡ false → matching k (take (i + 1) xs) ≡ matching k (take i xs)
  matching-no e = rw (add-one, take-suc xs i d) (matching-snoc k (take i xs) (get_or xs i d) ∙ rw e (append-nil (matching k (take i xs))))

  pub without-yes : matches k (get_or xs i d) ≡ true → without k (take (i + 1) xs) ≡ without k (take i xs)
  without-yes e = rw (add-one, take-suc xs i d) (without-snoc k (take i xs) (get_or xs i d) ∙ rw e (append-nil (without k (take i xs))))

  pub without-no : matches k (get_or xs i d) ≡ false → without k (take (i + 1) xs) ≡ without k (take i xs) ++ get_or xs i d ∷ []
  without-no e = rw (add-one, take-suc xs i d) (without-snoc k (take i xs) (get_or xs i d) ∙ rw e)

-- the matching ones of a front part are those of a shorter front part and those after it
pub matching-append : (k : Key) (a b : List Request) → matching k (a ++ b) ≡ matching k a ++ matching k b
unfolding matching
matching-append k [] b = refl
matching-append k (x ∷ a) b = go (matches k x) (matching-append k a b)
  where
    go : (t : Bool) → matching k (a ++ b) ≡ matching k a ++ matching k b
        → pick t (x ∷ matching k (a ++ b)) (matching k (a ++ b)) ≡ pick t (x ∷ matching k a) (matching k a) ++ matching k b
    go true h = ap (λ (l : List Request). x ∷ l) h
    go false h = h

pub matching-from : (k : Key) (xs : List Request) (m n : ℕ) → m ≤ n
    → matching k (take n xs) ≡ matching k (take m xs) ++ matching k (take (n - m) (drop m xs))
matching-from k xs m n h =
    let e : n ≡ m + (n - m) = omega arith in
    ap (λ (i : ℕ). matching k (take i xs)) e ∙ rw (take-add m (n - m) xs) (matching-append k (take m xs) (take (n - m) (drop m xs)))
