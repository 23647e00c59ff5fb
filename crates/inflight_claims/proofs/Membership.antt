-- A request among others: in what a key matches, in what it does not, and behind one more.
-- Assumes nothing.
use mathlib.Core.Path.{◌≡◌, refl, sym, ap, ◌∙◌}
use mathlib.Core.Logic.{⊎_elim, ◌⊎◌, inl, inr}
use Prim.Native.Nat.{◌≤◌}
use native.Mathlib.Omega.{arith}
use mathlib.Core.Bool.{Bool, true, false, false≢true}
use mathlib.Core.List.{List, [], ◌∷◌, ◌++◌}
use lib.ListN.{length, get_or}
use Rattle.wire.specs.Choice.{pick}
use Rattle.inflight.specs.Matching.{matches, matching, without}
use Rattle.inflight.specs.Requests.{Request}
use Rattle.inflight.specs.Requests.{Key}

-- whether a request is in a list
abbrev pub In : Request → List Request → Type 0
In e [] = ⊥
In e (d ∷ es) = (d ≡ e) ⊎ In e es

pub in_left : (e : Request) (es fs : List Request) → In e es → In e (es ++ fs)
in_left e [] fs i = absurd i
in_left e (d ∷ es) fs (inl h) = inl h
in_left e (d ∷ es) fs (inr i) = inr (in_left e es fs i)

pub in-last : (es : List Request) (e : Request) → In e (es ++ e ∷ [])
in-last [] e = inl refl
in-last (d ∷ es) e = inr (in-last es e)

pub in-snoc : (e : Request) (es : List Request) (d : Request) → In e (es ++ d ∷ []) → In e es ⊎ (d ≡ e)
in-snoc e [] d (inl h) = inr h
in-snoc e [] d (inr i) = absurd i
in-snoc e (c ∷ es) d (inl h) = inl (inl h)
in-snoc e (c ∷ es) d (inr i) = ⊎_elim (λ j. inl (inr j)) (λ h. inr h) (in-snoc e es d i)

-- a Bool is not both
pub clash : {A : Type 0} (b : Bool) → b ≡ true → b ≡ false → A
clash b t f = absurd (false≢true (sym f ∙ t))

pub in_without : (k : Key) (e : Request) (es : List Request) → In e es → matches k e ≡ false → In e (without k es)
unfolding without
in_without k e [] i m = absurd i
in_without k e (d ∷ es) (inl h) m = go (matches k d) refl
  where
    go : (t : Bool) → matches k d ≡ t → In e (pick t (without k es) (d ∷ without k es))
    go true q = clash (matches k d) q (ap (matches k) h ∙ m)
    go false q = inl h
in_without k e (d ∷ es) (inr i) m = go (matches k d) (in_without k e es i m)
  where
    go : (t : Bool) → In e (without k es) → In e (pick t (without k es) (d ∷ without k es))
    go true j = j
    go false j = inr j

pub without_in : (k : Key) (e : Request) (es : List Request) → In e (without k es) → In e es × (matches k e ≡ false)
unfolding without
without_in k e [] i = absurd i
without_in k e (d ∷ es) i = go (matches k d) refl i (without_in k e es)
  where
    go : (t : Bool) → matches k d ≡ t → In e (pick t (without k es) (d ∷ without k es)) → (In e (without k es) → In e es × (matches k e ≡ false))
        → In e (d ∷ es) × (matches k e ≡ false)
    go true q j r = (inr (r j).0, (r j).1)
    go false q (inl h) r = (inl h, ap (matches k) (sym h) ∙ q)
    go false q (inr j) r = (inr (r j).0, (r j).1)

pub in-matching : (k : Key) (e : Request) (es : List Request) → In e es → matches k e ≡ true → In e (matching k es)
unfolding matching
in-matching k e [] i m = absurd i
in-matching k e (d ∷ es) (inl h) m = go (matches k d) refl
  where
    go : (t : Bool) → matches k d ≡ t → In e (pick t (d ∷ matching k es) (matching k es))
    go true q = inl h
    go false q = clash (matches k d) (ap (matches k) h ∙ m) q
in-matching k e (d ∷ es) (inr i) m = go (matches k d) (in-matching k e es i m)
  where
    go : (t : Bool) → In e (matching k es) → In e (pick t (d ∷ matching k es) (matching k es))
    go true j = inr j
    go false j = j

pub matching-in : (k : Key) (e : Request) (es : List Request) → In e (matching k es) → In e es × (matches k e ≡ true)
unfolding matching
matching-in k e [] i = absurd i
matching-in k e (d ∷ es) i = go (matches k d) refl i (matching-in k e es)
  where
    go : (t : Bool) → matches k d ≡ t → In e (pick t (d ∷ matching k es) (matching k es)) → (In e (matching k es) → In e es × (matches k e ≡ true))
        → In e (d ∷ es) × (matches k e ≡ true)
    go true q (inl h) r = (inl h, ap (matches k) (sym h) ∙ q)
    go true q (inr j) r = (inr (r j).0, (r j).1)
    go false q j r = (inr (r j).0, (r j).1)

-- the one request of a list of at most one
pub in-single : (e : Request) (xs : List Request) (d : Request) → In e xs → length xs ≤ 1 → get_or xs 0 d ≡ e
in-single e [] d i l = absurd i
in-single e (x ∷ []) d (inl h) l = h
in-single e (x ∷ []) d (inr i) l = absurd i
in-single e (x ∷ y ∷ xs) d i l = absurd (omega arith)

pub in_some : (e : Request) (xs : List Request) → In e xs → length xs ≡ 0 → ⊥
in_some e [] i l = i
in_some e (x ∷ xs) i l = omega arith

pub head_in : (xs : List Request) (d : Request) → (length xs ≡ 0 → ⊥) → In (get_or xs 0 d) xs
head_in [] d h = absurd (h refl)
head_in (x ∷ xs) d h = inl refl
