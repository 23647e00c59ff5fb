-- On a tied table where a key matches one request at most, reply and cancel are answered as the model answers them, and
-- the table stays tied and reads as the model afterwards.
-- Assumes nothing.
use mathlib.Core.Path.{◌≡◌, refl, sym, ap, ◌∙◌}
use Prim.Native.Nat.{ℕ, ◌+◌, ◌≤◌, ◌<◌}
use native.Mathlib.Omega.{arith}
use mathlib.Core.Bool.{Bool, true, false, ◌&&◌}
use mathlib.Core.List.{List, [], ◌∷◌, map}
use lib.Dec.{eqb, leb}
use lib.IntN.{pos}
use lib.ListN.{length, get_or}
use borrow.Author.Tests.{eqb-true, eqb-false, leb-false, le-leb, lt-leb}
use Rattle.inflight.specs.Numbers.{same}
use Rattle.wire.specs.Choice.{pick}
use Rattle.inflight.specs.Matching.{matches, matching, without}
use Rattle.inflight.specs.Model.{remove, check_take, taken, reply_answer, reply, cancel_answer, cancel}
use Rattle.inflight.specs.declared.PublisherNumber.{PublisherNumber}
use Rattle.inflight.specs.Requests.{Key}
use Rattle.inflight.specs.Requests.{Reply, Cancel}
use Rattle.inflight.specs.declared.FrontNumber.{FrontNumber}
use Rattle.inflight.specs.Requests.{Request}
use Rattle.inflight.specs.Masks.{bit_at, slots, seek}
use Rattle.inflight.specs.Tables.{line, used, mine, is_number, is_front, freed, reply_of, cancel_of}
use Rattle.inflight.specs.declared.Table.{Table}
use Rattle.inflight_tied.proofs.Tied.{occ, Tied, entry, in_flight, model_of}
use Rattle.inflight_tied.proofs.Ties.{occ-no, occ-nil}
use Rattle.inflight_tied.proofs.Loads.{keep, keep-occ, named-map, length-of-map}
use Rattle.inflight_tied.proofs.Answers.{number_same, front_same, hit-reply, hit-cancel}
use Rattle.inflight_tied.proofs.Struck.{seek_found, slot-standing}
use Rattle.inflight_tied.proofs.Freed.{freed-tied}
use Rattle.std.specs.Prelude.{Result, Ok}
use Rattle.refusal.specs.declared.Refusal.{Refusal}
use Rattle.inflight.specs.Tables.{front_end, publisher_end}
use Rattle.inflight.specs.declared.FrontEnd.{FrontEnd}
use Rattle.inflight.specs.declared.PublisherEnd.{PublisherEnd}

empty-named : (xs : List Request) → length xs ≡ 0 → xs ≡ []
empty-named [] e = refl
empty-named (x ∷ xs) e = absurd (omega arith)

one_kept : (s : ℕ) (xs : List ℕ) → length xs ≤ 1 → 0 < occ s xs → xs ≡ s ∷ []
one_kept s [] l o = let a = occ-nil s in absurd (omega arith)
one_kept s (x ∷ []) l o = go (eqb x s) refl
  where
    go : (t : Bool) → eqb x s ≡ t → x ∷ [] ≡ s ∷ []
    go true e = ap (λ (y : ℕ). y ∷ []) (eqb-true x s e)
    go false e = let a = occ-no s x [] (eqb-false x s e) in let b = occ-nil s in absurd (omega arith)
one_kept s (x ∷ y ∷ xs) l o = absurd (omega arith)

both : (a b : Bool) → a ≡ true → b ≡ true → (a && b) ≡ true
both a b p q = rw (p, q)

owned : (x : Bool) (u : ℕ) → pick x u 0 ≡ 1 → (x ≡ true) × (u ≡ 1)
owned true u e = (refl, e)
owned false u e = absurd (omega arith)

-- the slot that is found holds the one entry
found : (w : Table) → Tied w → (k : Key) (s : ℕ) → s < 64 → bit_at s (used w) ≡ 1 → matches k (entry w s) ≡ true
    → length (matching k (in_flight w)) ≤ 1
    → (matching k (in_flight w) ≡ entry w s ∷ []) × (in_flight (freed w s) ≡ without k (in_flight w))
unfolding in_flight
found w t k s h u e once =
    let f : (ℕ → Bool) = λ x. matches k (entry w x) in
    let c : occ s (keep f (line w)) ≡ 1 =
    keep-occ f s (line w) ∙ ap (λ (z : Bool). pick z (occ s (line w)) 0) e ∙ t.tie s h ∙ u in
    let l : length (keep f (line w)) ≤ 1 =
    let a = ap length (named-map k w (line w)) ∙ length-of-map w (keep f (line w)) in omega (arith, a, once) in (
      named-map k w (line w) ∙ ap (map (entry w)) (one_kept s (keep f (line w)) l (omega arith)),
      slot-standing w t k s h u e once,
    )

-- ---- what a search comes to: nothing matching and nothing changed, or the one entry

pub data Found (w : Table) (k : Key) (s : ℕ) : Type 0 where
  none : s ≡ 64 → matching k (in_flight w) ≡ [] → Found w k s
  one : s < 64 → matching k (in_flight w) ≡ entry w s ∷ [] → model_of (freed w s) ≡ remove (model_of w) k
      → Tied (freed w s) → Found w k s

frees : (w : Table) (k : Key) (s : ℕ) → in_flight (freed w s) ≡ without k (in_flight w)
    → model_of (freed w s) ≡ remove (model_of w) k
unfolding freed
frees w k s e = ap (λ (l : List Request). record { requests = l; next = (model_of w).next; seen = (model_of w).seen }) e

pub reply-found : (w : Table) → Tied w → (p : ℕ) → p < 8 → (n : PublisherNumber)
    → length (matching (Reply p n) (in_flight w)) ≤ 1
    → Found w (Reply p n) (seek (is_number w.numbers n) (slots (mine w p)))
reply-found w t p p8 n once = go (eqb (seek (is_number w.numbers n) (slots (mine w p))) 64) refl
  where
    go : (x : Bool) → eqb (seek (is_number w.numbers n) (slots (mine w p))) 64 ≡ x
        → Found w (Reply p n) (seek (is_number w.numbers n) (slots (mine w p)))
    go true e = none (eqb-true _ 64 e) (empty-named _ (eqb-true _ 0 (sym (number_same w t p p8 n) ∙ e)))
    go false e =
        let r = seek_found (is_number w.numbers n) 64 0 (mine w p) (eqb-false _ 64 e) in
        let s : ℕ = seek (is_number w.numbers n) (slots (mine w p)) in
        let q : r.at ≡ s = let a = r.here in omega arith in
        let h : s < 64 = let a = r.low in omega arith in
        let b : bit_at s (mine w p) ≡ 1 = ap (λ (j : ℕ). bit_at j (mine w p)) (sym q) ∙ r.set in
        let y : is_number w.numbers n s ≡ true = ap (is_number w.numbers n) r.here ∙ r.yes in
        let o = owned (eqb (get_or w.places (64 + s) 0) p) (bit_at s (used w)) (sym (t.own p p8 s h) ∙ b) in
        let d = found w t (Reply p n) s h o.1 (hit-reply w t p n s ∙ both _ _ o.0 y) once in
        one h d.0 (frees w (Reply p n) s d.1) (freed-tied w t s h o.1)

pub cancel-found : (w : Table) → Tied w → (l : ℕ) (n : FrontNumber) → length (matching (Cancel l n) (in_flight w)) ≤ 1
    → Found w (Cancel l n) (seek (is_front w.numbers w.places l n) (slots (used w)))
cancel-found w t l n once = go (eqb (seek (is_front w.numbers w.places l n) (slots (used w))) 64) refl
  where
    go : (x : Bool) → eqb (seek (is_front w.numbers w.places l n) (slots (used w))) 64 ≡ x
        → Found w (Cancel l n) (seek (is_front w.numbers w.places l n) (slots (used w)))
    go true e = none (eqb-true _ 64 e) (empty-named _ (eqb-true _ 0 (sym (front_same w t l n) ∙ e)))
    go false e =
        let r = seek_found (is_front w.numbers w.places l n) 64 0 (used w) (eqb-false _ 64 e) in
        let s : ℕ = seek (is_front w.numbers w.places l n) (slots (used w)) in
        let q : r.at ≡ s = let a = r.here in omega arith in
        let h : s < 64 = let a = r.low in omega arith in
        let b : bit_at s (used w) ≡ 1 = ap (λ (j : ℕ). bit_at j (used w)) (sym q) ∙ r.set in
        let y : is_front w.numbers w.places l n s ≡ true =
        ap (is_front w.numbers w.places l n) r.here ∙ r.yes in
        let d = found w t (Cancel l n) s h b (hit-cancel w t l n s ∙ y) once in
        one h d.0 (frees w (Cancel l n) s d.1) (freed-tied w t s h b)

-- ---- the two calls against the model

at_front : (w : Table) (s : ℕ)
    → ◌≡◌ {A = Result FrontEnd Refusal} (Ok (record { link = (entry w s).link; number = (entry w s).front })) (Ok (front_end w s))
unfolding entry
at_front w s = refl

pub record ReplySame (w : Table) (p : ℕ) (n : PublisherNumber) : Type 0 where
  pub answer : (reply_of w p n).answer ≡ reply_answer (model_of w) p n
  pub table : model_of (reply_of w p n).table ≡ reply (model_of w) p n
  pub kept : Tied (reply_of w p n).table

pub reply-same : (w : Table) → Tied w → (p : ℕ) (n : PublisherNumber) → length (matching (Reply p n) (in_flight w)) ≤ 1
    → ReplySame w p n
unfolding reply_of reply_answer check_take taken
reply-same w t p n once = go (leb 8 p) refl (same n.0 (pos 0)) refl
  where
    third : leb 8 p ≡ false → same n.0 (pos 0) ≡ false
        → Found w (Reply p n) (seek (is_number w.numbers n) (slots (mine w p))) → ReplySame w p n
    third e d (none z m) =
        let q : leb 64 (seek (is_number w.numbers n) (slots (mine w p))) ≡ true =
        let g : 64 ≤ seek (is_number w.numbers n) (slots (mine w p)) = omega arith in
        le-leb 64 (seek (is_number w.numbers n) (slots (mine w p))) g in
        record { answer = rw (e, d, q, m); table = rw (e, d, q, m); kept = rw (e, d, q) t }
    third e d (one h m s k) =
        let q : leb 64 (seek (is_number w.numbers n) (slots (mine w p))) ≡ false = lt-leb 64 _ h in
        record { answer = rw (e, d, q, m) (sym (at_front w _)); table = rw (e, d, q, m) s; kept = rw (e, d, q) k }

    go : (x : Bool) → leb 8 p ≡ x → (y : Bool) → same n.0 (pos 0) ≡ y → ReplySame w p n
    go true e y d = record { answer = rw e; table = rw e; kept = rw e t }
    go false e true d = record { answer = rw (e, d); table = rw (e, d); kept = rw (e, d) t }
    go false e false d = third e d (reply-found w t p (leb-false 8 p e) n once)

at-publisher : (w : Table) (s : ℕ)
    → ◌≡◌ {A = Result PublisherEnd Refusal} (Ok (record { publisher = (entry w s).publisher; number = (entry w s).number })) (Ok (publisher_end w s))
unfolding entry
at-publisher w s = refl

pub record CancelSame (w : Table) (l : ℕ) (n : FrontNumber) : Type 0 where
  pub answer : (cancel_of w l n).answer ≡ cancel_answer (model_of w) l n
  pub table : model_of (cancel_of w l n).table ≡ cancel (model_of w) l n
  pub kept : Tied (cancel_of w l n).table

pub cancel-same : (w : Table) → Tied w → (l : ℕ) (n : FrontNumber) → length (matching (Cancel l n) (in_flight w)) ≤ 1
    → CancelSame w l n
unfolding cancel_of cancel_answer check_take taken
cancel-same w t l n once = go (leb 32 l) refl (same n.0 (pos 0)) refl
  where
    third : leb 32 l ≡ false → same n.0 (pos 0) ≡ false
        → Found w (Cancel l n) (seek (is_front w.numbers w.places l n) (slots (used w))) → CancelSame w l n
    third e d (none z m) =
        let q : leb 64 (seek (is_front w.numbers w.places l n) (slots (used w))) ≡ true =
        let g : 64 ≤ seek (is_front w.numbers w.places l n) (slots (used w)) = omega arith in
        le-leb 64 (seek (is_front w.numbers w.places l n) (slots (used w))) g in
        record { answer = rw (e, d, q, m); table = rw (e, d, q, m); kept = rw (e, d, q) t }
    third e d (one h m s k) =
        let q : leb 64 (seek (is_front w.numbers w.places l n) (slots (used w))) ≡ false = lt-leb 64 _ h in
        record { answer = rw (e, d, q, m) (sym (at-publisher w _)); table = rw (e, d, q, m) s; kept = rw (e, d, q) k }

    go : (x : Bool) → leb 32 l ≡ x → (y : Bool) → same n.0 (pos 0) ≡ y → CancelSame w l n
    go true e y d = record { answer = rw e; table = rw e; kept = rw e t }
    go false e true d = record { answer = rw (e, d); table = rw (e, d); kept = rw (e, d) t }
    go false e false d = third e d (cancel-found w t l n once)
