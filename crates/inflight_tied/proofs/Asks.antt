-- On a tied table with room an accepted ask gives the number that the model gives, and the table reads as the model
-- afterwards.
-- Assumes nothing.
use mathlib.Core.Path.{◌≡◌, refl, sym, ap, ◌∙◌}
use Prim.Native.Nat.{ℕ, zero, suc, ◌+◌, ◌-◌, ◌/◌, ◌%◌, ◌^◌, ◌<◌}
use native.Mathlib.Omega.{arith}
use mathlib.Core.Bool.{Bool, true, false}
use mathlib.Core.List.{List, [], ◌∷◌, ◌++◌, map}
use lib.Dec.{eqb, leb}
use lib.IntN.{ℤ, pos}
use lib.Count.{ones, ones_step, count_trailing_zeros, under}
use lib.ListN.{length, drop, get_or, set, length-set}
use lib.Seq.{get_or-set_same, get_or-set_other, drop-set-lt, drop-set-add, get_or-drop}
use borrow.Author.Tests.{eqb-true, eqb-false, lt-leb}
use Rattle.inflight.specs.Numbers.{after}
use Rattle.inflight.specs.Model.{Model, check_ask, given, deadline_at, latest, accept, ask_answer, ask}
use Rattle.inflight.specs.Matching.{next_free}
use Rattle.inflight.specs.declared.FrontNumber.{FrontNumber}
use Rattle.inflight.specs.declared.PublisherNumber.{PublisherNumber}
use Rattle.inflight.specs.Requests.{Request}
use Rattle.inflight.specs.Masks.{bit_at, lowest_free}
use Rattle.inflight.specs.Tables.{line, Sized, used, latest_of, timed_of, placed, given_of, check_ask_of, ask_of}
use Rattle.inflight.specs.declared.Table.{Table}
use Rattle.inflight_tied.proofs.Tied.{occ, Below, Tied, entry, in_flight, model_of}
use Rattle.inflight.proofs.MaskLaws.{twice}
use Rattle.inflight_model.proofs.Capacity.{accepts}
use Rattle.inflight.proofs.OrderLaws.{map-append}
use Rattle.inflight_tied.proofs.Ties.{occ-yes, occ-no}
use Rattle.inflight_tied.proofs.Loads.{length-standing}
use Rattle.inflight_tied.proofs.Answers.{free-same, ask-same}
use Rattle.inflight_tied.proofs.Placed.{placed-line, placed-tied, free-slot}
use Rattle.std.specs.Prelude.{Result, Ok, Err, ⊤}
use Rattle.refusal.specs.declared.Refusal.{Refusal}

-- a mask with fewer than k ones has a free slot
pub has-free : (k n : ℕ) → n < 2 ^ k → ones n < k → count_trailing_zeros k (2 ^ k - 1 - n) < k
unfolding count_trailing_zeros
has-free zero n h g = absurd (omega arith)
has-free (suc k) n h g = go ((2 ^ suc k - 1 - n) % 2) refl (has-free k (n / 2))
  where
    go : (d : ℕ) → (2 ^ suc k - 1 - n) % 2 ≡ d
        → (n / 2 < 2 ^ k → ones (n / 2) < k → count_trailing_zeros k (2 ^ k - 1 - n / 2) < k)
        → under d (count_trailing_zeros k ((2 ^ suc k - 1 - n) / 2)) < suc k
    go zero e i =
        let t = twice k in
        let s = ones_step n in
        let q : (2 ^ suc k - 1 - n) / 2 ≡ 2 ^ k - 1 - n / 2 = omega arith in
        let a = i (omega arith) (omega arith) in
        rw q (omega arith)
    go (suc d) e i = omega arith

slot-left : (u : ℕ) → u < 2 ^ 64 → ones u < 64 → lowest_free u < 64
unfolding lowest_free
slot-left u h g = has-free 64 u h g

abbrev wrap : ℤ → PublisherNumber
wrap z = record { 0 = z }

-- ---- the new request's slot, and the others'

module _ (w : Table) (l : ℕ) (n : FrontNumber) (p s : ℕ) (g : PublisherNumber) (time timeout : ℕ) where
  pub places-old : (x : ℕ) → (x ≡ s → ⊥) → (x ≡ 64 + s → ⊥)
      → get_or (placed w l n p s g time timeout).places x 0 ≡ get_or w.places x 0
  places-old x a b = get_or-set_other (set w.places s l) (64 + s) x p 0 b ∙ get_or-set_other w.places s x l 0 a

  pub numbers-old : (x : ℕ) → (x ≡ s → ⊥) → (x ≡ 64 + s → ⊥) → (x ≡ 128 + p → ⊥)
      → get_or (placed w l n p s g time timeout).numbers x (pos 0) ≡ get_or w.numbers x (pos 0)
  numbers-old x a b c =
      get_or-set_other (set (set w.numbers s n.0) (64 + s) g.0) (128 + p) x (after g).0 (pos 0) c
      ∙ get_or-set_other (set w.numbers s n.0) (64 + s) x g.0 (pos 0) b
      ∙ get_or-set_other w.numbers s x n.0 (pos 0) a

  pub deadline-old : (x : ℕ) → x < 64 → (x ≡ s → ⊥)
      → get_or (placed w l n p s g time timeout).times x 0 ≡ get_or w.times x 0
  unfolding timed_of
  deadline-old x h a =
      get_or-set_other (set w.times s (deadline_at (latest_of w.times time) timeout)) 64 x (latest_of w.times time) 0
      (λ e. omega arith)
      ∙ get_or-set_other w.times s x (deadline_at (latest_of w.times time) timeout) 0 a

module _ (w : Table) (l : ℕ) (n : FrontNumber) (p s : ℕ) (g : PublisherNumber) (time timeout : ℕ) (p8 : p < 8) (s64 : s < 64)
    (ln : length w.numbers ≡ 136) (lp : length w.places ≡ 128) (lt : length w.times ≡ 65) where
  link-new : get_or (placed w l n p s g time timeout).places s 0 ≡ l
  link-new =
      get_or-set_other (set w.places s l) (64 + s) s p 0 (λ e. omega arith)
      ∙ get_or-set_same w.places s l 0 (omega arith)

  publisher-new : get_or (placed w l n p s g time timeout).places (64 + s) 0 ≡ p
  publisher-new = get_or-set_same (set w.places s l) (64 + s) p 0 (let a = length-set w.places s l in omega arith)

  front-new : get_or (placed w l n p s g time timeout).numbers s (pos 0) ≡ n.0
  front-new =
      get_or-set_other (set (set w.numbers s n.0) (64 + s) g.0) (128 + p) s (after g).0 (pos 0)
      (λ e. omega arith)
      ∙ get_or-set_other (set w.numbers s n.0) (64 + s) s g.0 (pos 0) (λ e. omega arith)
      ∙ get_or-set_same w.numbers s n.0 (pos 0) (omega arith)

  number-new : get_or (placed w l n p s g time timeout).numbers (64 + s) (pos 0) ≡ g.0
  number-new =
      get_or-set_other (set (set w.numbers s n.0) (64 + s) g.0) (128 + p) (64 + s) (after g).0 (pos 0)
      (λ e. omega arith)
      ∙ get_or-set_same (set w.numbers s n.0) (64 + s) g.0 (pos 0)
      (let a = length-set w.numbers s n.0 in omega arith)

  deadline-new : get_or (placed w l n p s g time timeout).times s 0 ≡ deadline_at (latest_of w.times time) timeout
  unfolding timed_of
  deadline-new =
      get_or-set_other (set w.times s _) 64 s (latest_of w.times time) 0 (λ e. omega arith)
      ∙ get_or-set_same w.times s _ 0 (omega arith)

  pub seen-new : get_or (placed w l n p s g time timeout).times 64 0 ≡ latest_of w.times time
  unfolding timed_of
  seen-new =
      get_or-set_same (set w.times s _) 64 (latest_of w.times time) 0
      (let a = length-set w.times s (deadline_at (latest_of w.times time) timeout) in omega arith)

  pub entry_new : entry (placed w l n p s g time timeout) s ≡ record {
    link = l;
    front = n;
    publisher = p;
    number = g;
    deadline = deadline_at (latest_of w.times time) timeout;
  }
  unfolding entry
  entry_new = rw (link-new, front-new, publisher-new, number-new, deadline-new)

  pub entry_old : (x : ℕ) → x < 64 → (x ≡ s → ⊥) → entry (placed w l n p s g time timeout) x ≡ entry w x
  unfolding entry
  entry_old x h a =
      rw (
        places-old w l n p s g time timeout x a (λ e. omega arith),
        numbers-old w l n p s g time timeout x a (λ e. omega arith) (λ e. omega arith),
        places-old w l n p s g time timeout (64 + x) (λ e. omega arith) (λ e. a (omega arith)),
        numbers-old w l n p s g time timeout (64 + x) (λ e. omega arith) (λ e. a (omega arith)) (λ e. omega arith),
        deadline-old w l n p s g time timeout x h a,
      )

  pub map-old : (xs : List ℕ) → Below 64 xs → occ s xs ≡ 0 → map (entry (placed w l n p s g time timeout)) xs ≡ map (entry w) xs
  unfolding Below
  map-old [] b o = refl
  map-old (x ∷ xs) b o = go (eqb x s) refl (map-old xs b.1)
    where
      go : (t : Bool) → eqb x s ≡ t → (occ s xs ≡ 0 → map (entry (placed w l n p s g time timeout)) xs ≡ map (entry w) xs)
          → map (entry (placed w l n p s g time timeout)) (x ∷ xs) ≡ map (entry w) (x ∷ xs)
      go true e m = let a = occ-yes s x xs (eqb-true x s e) in absurd (omega arith)
      go false e m =
          let q = eqb-false x s e in
          let a = occ-no s x xs q in
          rw (entry_old x b.0 q, m (omega arith))

map-set : (xs : List ℤ) (i : ℕ) (z : ℤ) → map wrap (set xs i z) ≡ set (map wrap xs) i (wrap z)
map-set [] i z = refl
map-set (x ∷ xs) zero z = refl
map-set (x ∷ xs) (suc i) z = ap (λ (l : List PublisherNumber). wrap x ∷ l) (map-set xs i z)

get_d-wrap : (xs : List ℤ) (i : ℕ) → get_or (map wrap xs) i (wrap (pos 0)) ≡ wrap (get_or xs i (pos 0))
get_d-wrap [] i = refl
get_d-wrap (x ∷ xs) zero = refl
get_d-wrap (x ∷ xs) (suc i) = get_d-wrap xs i

model-eq : {es fs : List Request} {a b : List PublisherNumber} {s u : ℕ} → es ≡ fs → a ≡ b → s ≡ u
    → ◌≡◌ {A = Model} (record { requests = es; next = a; seen = s }) (record { requests = fs; next = b; seen = u })
model-eq p q r = rw (p, q, r)

-- the number that is given is the model's
pub given-same : (w : Table) → Tied w → (p : ℕ) → p < 8 → given_of w p ≡ given (model_of w) p
given-same w t p h =
    free-same w t (ones (used w)) p h (wrap (get_or w.numbers (128 + p) (pos 0)))
    ∙ ap (λ (k : ℕ). next_free k (in_flight w) p (wrap (get_or w.numbers (128 + p) (pos 0)))) (sym (length-standing w t))
    ∙ ap (λ (x : PublisherNumber). next_free (length (in_flight w)) (in_flight w) p x)
    (sym (get_d-wrap (drop 128 w.numbers) p ∙ ap wrap (get_or-drop 128 w.numbers p (pos 0))))

module _ (w : Table) (t : Tied w) (l : ℕ) (n : FrontNumber) (p : ℕ) (s : ℕ) (g : PublisherNumber) (time timeout : ℕ) (p8 : p < 8)
    (s64 : s < 64) (fr : bit_at s (used w) ≡ 0) (lm : length w.masks ≡ 9) (ln : length w.numbers ≡ 136)
    (lp : length w.places ≡ 128) (lt : length w.times ≡ 65) where
  pub placed-standing : in_flight (placed w l n p s g time timeout)
      ≡ in_flight w ++ record {
        link = l;
        front = n;
        publisher = p;
        number = g;
        deadline = deadline_at (latest_of w.times time) timeout;
      } ∷ []
  unfolding in_flight
  placed-standing =
      ap (map (entry (placed w l n p s g time timeout))) (placed-line w t l n p s g time timeout p8 s64 fr lm lp)
      ∙ map-append (entry (placed w l n p s g time timeout)) (line w) (s ∷ [])
      ∙ ap (λ (a : List Request). a ++ entry (placed w l n p s g time timeout) s ∷ [])
      (map-old w l n p s g time timeout p8 s64 ln lp lt (line w) t.low (t.tie s s64 ∙ fr))
      ∙ ap (λ (e : Request). map (entry w) (line w) ++ e ∷ []) (entry_new w l n p s g time timeout p8 s64 ln lp lt)

  placed-next : map wrap (drop 128 (placed w l n p s g time timeout).numbers)
      ≡ set (map wrap (drop 128 w.numbers)) p (wrap (after g).0)
  placed-next =
      ap (map wrap)
      (drop-set-add 128 (set (set w.numbers s n.0) (64 + s) g.0) p (after g).0
      ∙ ap (λ (x : List ℤ). set x p (after g).0)
      (drop-set-lt 128 (set w.numbers s n.0) (64 + s) g.0 (omega arith)
      ∙ drop-set-lt 128 w.numbers s n.0 (omega arith)))
      ∙ map-set (drop 128 w.numbers) p (after g).0

  pub read-placed : model_of (placed w l n p s g time timeout)
      ≡ record {
        requests = (model_of w).requests ++ record {
          link = l;
          front = n;
          publisher = p;
          number = g;
          deadline = deadline_at (latest_of w.times time) timeout;
        } ∷ [];
        next = set (model_of w).next p (after g);
        seen = latest_of w.times time;
      }
  read-placed = model-eq placed-standing placed-next (seen-new w l n p s g time timeout p8 s64 ln lp lt)

pub record AskSame (w : Table) (l : ℕ) (n : FrontNumber) (p time timeout : ℕ) : Type 0 where
  pub answer : (ask_of w l n p time timeout).answer ≡ ask_answer (model_of w) l n p time
  pub table : model_of (ask_of w l n p time timeout).table ≡ ask (model_of w) l n p time timeout
  pub kept : Tied (ask_of w l n p time timeout).table

-- within the range nothing is cut off the latest time
pub latest-same : (w : Table) (time : ℕ) → get_or w.times 64 0 < 4611686018427387904 → time < 4611686018427387904
    → latest_of w.times time ≡ latest (model_of w) time
latest-same w time h k = omega (arith, h, k)

-- an ask on a tied table that has seen times in range, if there is a slot left where the model accepts
pub ask-all : (w : Table) → Tied w → Sized w → get_or w.times 64 0 < 4611686018427387904
    → (l : ℕ) (n : FrontNumber) (p time timeout : ℕ)
    → (check_ask (model_of w) l n p time ≡ Ok tt → ones (used w) < 64) → AskSame w l n p time timeout
unfolding ask_of ask ask_answer accept
ask-all w t z seen l n p time timeout room = go (check_ask_of w l n p time) refl
  where
    no : check_ask_of w l n p time ≡ check_ask (model_of w) l n p time
    no = ask-same w t l n p time

    go : (x : Result ⊤ Refusal) → check_ask_of w l n p time ≡ x → AskSame w l n p time timeout
    go (Err x) e =
        let f = sym no ∙ e in
        record { answer = rw (e, f); table = rw (e, f); kept = rw e t }
    go (Ok x) e =
        let f : check_ask (model_of w) l n p time ≡ Ok tt = sym no ∙ e in
        let r = room f in
        let a = accepts (model_of w) l n p time f in
        let p8 = a.range in
        let s64 = slot-left (used w) t.fits r in
        let q : leb 64 (lowest_free (used w)) ≡ false = lt-leb 64 (lowest_free (used w)) s64 in
        let fr = free-slot (used w) t.fits s64 in
        let g = given-same w t p p8 in
        let placed-model : (PublisherNumber → ℕ → Model) =
        λ x now. record {
          requests =
              (model_of w).requests
              ++ record { link = l; front = n; publisher = p; number = x; deadline = deadline_at now timeout } ∷ [];
          next = set (model_of w).next p (after x);
          seen = now;
        } in
        record {
          answer = rw (e, f, q) (ap Ok g);
          table =
              rw (e, f, q)
              (read-placed w t l n p (lowest_free (used w)) (given_of w p) time timeout p8 s64 fr z.masks z.numbers
              z.places z.times
              ∙ ap (λ (x : PublisherNumber). placed-model x (latest_of w.times time)) g
              ∙ ap (placed-model (given (model_of w) p)) (latest-same w time seen a.clock));
          kept =
              rw (e, q)
              (placed-tied w t l n p (lowest_free (used w)) (given_of w p) time timeout p8 s64 fr z.masks z.places);
        }
