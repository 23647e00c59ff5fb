-- A publisher's numbering: where it stands after some calls, which number an accepted ask is given, and that a number comes again only after
-- the numbering has gone right round.
-- Assumes nothing.
use mathlib.Core.Path.{◌≡◌, refl, sym, ap, ◌∙◌}
use Prim.Native.Nat.{ℕ, zero, suc, ◌+◌, ◌-◌, ◌≤◌, ◌<◌}
use native.Mathlib.Omega.{arith}
use mathlib.Core.Bool.{Bool, true, false, not, ◌&&◌}
use mathlib.Core.List.{List, [], ◌∷◌, ◌++◌, append_assoc, append-nil}
use lib.Dec.{eqb, ltb}
use lib.IntN.{pos}
use lib.Signed.{mag}
use lib.ListN.{length, get_or, set, get_or-replicate}
use lib.Seq.{get_or-set_same, get_or-set_other}
use borrow.Author.Tests.{eqb-true, eqb-false, eq-eqb, ltb-true, ltb-false, lt-leb}
use Rattle.wire.specs.Choice.{pick}
use Rattle.inflight.specs.Numbers.{after, same}
use Rattle.inflight.specs.Matching.{matching, next_free}
use Rattle.inflight.specs.Model.{Model, check_ask, check_take, check_drop, given}
use Rattle.inflight.specs.Model as M
use Rattle.inflight.specs.Calls.{Call, ask, reply, cancel, gone, run_out, asked, replied, model_after, model_at}
use Rattle.inflight.specs.declared.FrontNumber.{FrontNumber}
use Rattle.inflight.specs.declared.PublisherNumber.{PublisherNumber}
use Rattle.inflight.specs.Requests.{Request}
use Rattle.inflight.specs.Requests.{Reply, Cancel, key_of}
use Rattle.inflight.proofs.NumberLaws.{ne_same}
use Rattle.inflight_claims.specs.Delivery.{Answers, refused, steps, in_row, passed, moved, stepped_from, stepped}
use Rattle.inflight_model.proofs.Flight.{top, wrap, after-wrap, wrap-apart, wrap-zero}
use Rattle.inflight_model.proofs.Capacity.{accepts, bounded-space}
use Rattle.inflight_model.proofs.Invariant.{Ranged, inv_at, after-ranged, new-number}
use Rattle.inflight_claims.proofs.ListClaim.{answer-accepted}
use Rattle.inflight_claims.proofs.History.{model_answers, at_snoc}
use Rattle.std.specs.Prelude.{Result, Ok, Err, is_ok, is_err, ⊤}
use Rattle.std.specs.Result.{result_and}
use Rattle.refusal.specs.declared.Refusal.{Refusal}
use Rattle.refusal.specs.declared.Refusal.TheVariants.{NoSuchRequest}
use Rattle.inflight.specs.declared.FrontEnd.{FrontEnd}

-- ---- steps

steps-add : (i s : ℕ) (n : PublisherNumber) → steps i (steps s n) ≡ steps (i + s) n
unfolding steps
steps-add zero s n = let q : s ≡ 0 + s = omega arith in ap (λ (k : ℕ). steps k n) q
steps-add (suc i) s n =
    let q : suc (i + s) ≡ suc i + s = omega arith in
    ap after (steps-add i s n) ∙ ap (λ (k : ℕ). steps k n) q

steps-after : (i : ℕ) (n : PublisherNumber) → steps i (after n) ≡ steps (suc i) n
unfolding steps
steps-after zero n = refl
steps-after (suc i) n = ap after (steps-after i n)

-- ---- one number at two places

steps-wrap : (s m : ℕ) → 1 ≤ m → m ≤ top → s ≤ top → steps s (record { 0 = pos m }) ≡ record { 0 = pos (wrap m s) }
unfolding steps
steps-wrap zero m a b l = ap (λ (k : ℕ). record { 0 = pos k }) (sym (wrap-zero m b))
steps-wrap (suc s) m a b l =
    let q : s + 1 ≡ suc s = omega arith in
    ap after (steps-wrap s m a b (omega arith)) ∙ after-wrap m s a b (omega arith) ∙ ap (λ (k : ℕ). record { 0 = pos (wrap m k) }) q

pub steps-ranged : (s : ℕ) (n : PublisherNumber) → Ranged n → Ranged (steps s n)
unfolding steps
steps-ranged zero n r = r
steps-ranged (suc s) n r = after-ranged (steps s n) (steps-ranged s n r)

far : (d : ℕ) (n : PublisherNumber) → Ranged n → 1 ≤ d → steps d n ≡ n → top ≤ d
far d n r h e = go (ltb d top) refl
  where
    go : (x : Bool) → ltb d top ≡ x → top ≤ d
    go true l =
        let g = ltb-true d top l in
        let q : ◌≡◌ {A = PublisherNumber} (record { 0 = pos (wrap r.at d) }) (record { 0 = pos r.at }) =
        sym (steps-wrap d r.at r.low r.high (omega arith)) ∙ ap (steps d) (sym r.is) ∙ e ∙ r.is in
        absurd (wrap-apart r.at d r.low r.high h g (ap (λ (v : PublisherNumber). mag v.0) q))
    go false l = ltb-false d top l

pub right-round : (i j : ℕ) (n : PublisherNumber) → Ranged n → i < j → steps i n ≡ steps j n → i + top ≤ j
right-round i j n r h e =
    let q : (j - i) + i ≡ j = omega arith in
    let s : steps (j - i) (steps i n) ≡ steps i n = steps-add (j - i) i n ∙ ap (λ (k : ℕ). steps k n) q ∙ sym e in
    let f = far (j - i) (steps i n) (steps-ranged i n r) (omega arith) s in
    omega arith

-- ---- the numbers that a search passes over

unfoldable row : ℕ → List Request → ℕ → PublisherNumber → ℕ
row zero es p n = 0
row (suc tries) es p n = pick (eqb (length (matching (Reply p n) es)) 0) 0 (suc (row tries es p (after n)))

free-steps : (f : ℕ) (es : List Request) (p : ℕ) (n : PublisherNumber) → next_free f es p n ≡ steps (row f es p n) n
unfolding next_free row steps
free-steps zero es p n = refl
free-steps (suc f) es p n = go (eqb (length (matching (Reply p n) es)) 0) (free-steps f es p (after n))
  where
    go : (x : Bool) → next_free f es p (after n) ≡ steps (row f es p (after n)) (after n)
        → pick x n (next_free f es p (after n)) ≡ steps (pick x 0 (suc (row f es p (after n)))) n
    go true r = refl
    go false r = r ∙ steps-after (row f es p (after n)) n

-- a search that has ended goes no further with more tries
row-enough : (f g : ℕ) (es : List Request) (p : ℕ) (n : PublisherNumber) → f ≤ g → length (matching (Reply p (next_free f es p n)) es) ≡ 0
    → row g es p n ≡ row f es p n
unfolding next_free row
row-enough zero zero es p n l h = refl
row-enough zero (suc g) es p n l h = rw (eq-eqb (length (matching (Reply p n) es)) 0 h)
row-enough (suc f) zero es p n l h = absurd (omega arith)
row-enough (suc f) (suc g) es p n l h = go (eqb (length (matching (Reply p n) es)) 0) h (row-enough f g es p (after n) (omega arith))
  where
    go : (x : Bool) → length (matching (Reply p (pick x n (next_free f es p (after n)))) es) ≡ 0
        → (length (matching (Reply p (next_free f es p (after n))) es) ≡ 0 → row g es p (after n) ≡ row f es p (after n))
        → pick x 0 (suc (row g es p (after n))) ≡ pick x 0 (suc (row f es p (after n)))
    go true k r = refl
    go false k r = ap suc (r k)

-- a reply in range finds nothing exactly if its number is not in flight
pub reply-none : (m : Model) (p : ℕ) (n : PublisherNumber) → p < 8 → same n.0 (pos 0) ≡ false
    → refused (replied (M.reply_answer m p n)) ≡ eqb (length (matching (Reply p n) m.requests)) 0
unfolding M.reply_answer M.check_take
reply-none m p n h z = rw (lt-leb 8 p h, z) (go (eqb (length (matching (Reply p n) m.requests)) 0))
  where
    go : (t : Bool)
        → is_err (result_and {T = ⊤} {U = FrontEnd} (pick t (Err NoSuchRequest) (Ok tt))
        (Ok (record { link = (M.matched m (Reply p n)).link; number = (M.matched m (Reply p n)).front })))
        ≡ t
    go true = refl
    go false = refl

pub not-zero : (n : PublisherNumber) → Ranged n → same n.0 (pos 0) ≡ false
not-zero n r = rw r.is (ne_same (pos r.at) (pos 0) (λ e. let q : r.at ≡ 0 = ap mag e in omega (arith, q, r.low)))

in-row : (first : PublisherNumber) (tries : ℕ) (b : List Call) (p : ℕ) (n : PublisherNumber) → p < 8 → Ranged n
    → in_row (model_answers first) p b tries n ≡ row tries (model_at (M.empty first) b).requests p n
unfolding in_row row
in-row first zero b p n h r = refl
in-row first (suc tries) b p n h r = rw (reply-none (model_at (M.empty first) b) p n h (not-zero n r), in-row first tries b p (after n) h (after-ranged n r))

-- ---- where a publisher's numbering stands

module _ (first : PublisherNumber) (ranged : Ranged first) (p : ℕ) (range : p < 8) where
  abbrev at : List Call → Model
  at cs = model_at (M.empty first) cs

  abbrev next : Model → PublisherNumber
  next m = get_or m.next p (record { 0 = pos 0 })

  -- the number that an accepted ask is given
  given-at : (b : List Call) (l : ℕ) (f : FrontNumber) (time s : ℕ) → check_ask (at b) l f p time ≡ Ok tt → next (at b) ≡ steps s first
      → given (at b) p ≡ steps (passed (model_answers first) first p b s + s) first
  given-at b l f time s a e =
      let m = at b in
      let es = m.requests in
      let inv = inv_at first ranged b in
      let n : ℕ = length es in
      let w = bounded-space es p inv.bounded (accepts m l f p time a) in
      let k : row 64 es p (next m) ≡ row n es p (next m) = row-enough n 64 es p (next m) (omega arith) (new-number m l f p time inv a) in
      let r : passed (model_answers first) first p b s ≡ row n es p (next m) = ap (in_row (model_answers first) p b 64) (sym e) ∙ in-row first 64 b p (next m) range (inv.ranged p range) ∙ k in
      free-steps n es p (next m) ∙ ap (λ (i : ℕ). steps i (next m)) (sym r) ∙ ap (steps (passed (model_answers first) first p b s)) e ∙ steps-add (passed (model_answers first) first p b s) s first

  keeps : (m : Model) (y : Bool) (r : Model) → r.next ≡ m.next → next (pick y r m) ≡ next m
  keeps m true r h = ap (λ (x : List PublisherNumber). get_or x p (record { 0 = pos 0 })) h
  keeps m false r h = refl

  next-ask : (b : List Call) (s : ℕ) (l : ℕ) (f : FrontNumber) (q time timeout : ℕ) → next (at b) ≡ steps s first
      → next (M.ask (at b) l f q time timeout)
      ≡ steps (moved (model_answers first) first p b s (ask l f q time timeout)) first
  unfolding M.ask M.accept M.ask_answer moved steps
  next-ask b s l f q time timeout e = go (eqb q p) refl (check_ask (at b) l f q time) refl
    where
      go : (x : Bool) → eqb q p ≡ x → (y : Result ⊤ Refusal) → check_ask (at b) l f q time ≡ y
          → next (pick (is_ok y) (M.accept (at b) l f q time timeout) (at b))
          ≡ steps (pick (x && not (is_err (result_and y (Ok (given (at b) q))))) (suc (passed (model_answers first) first p b s + s)) s) first
      go true u (Ok o) v =
          let w : q ≡ p = eqb-true q p u in
          let a : check_ask (at b) l f p time ≡ Ok tt = ap (λ (j : ℕ). check_ask (at b) l f j time) (sym w) ∙ v in
          let o : p < length (at b).next = omega (arith, (inv_at first ranged b).eight) in
          ap (λ (j : ℕ). get_or (set (at b).next j (after (given (at b) j))) p (record { 0 = pos 0 })) w ∙ get_or-set_same (at b).next p (after (given (at b) p)) (record { 0 = pos 0 }) o ∙ ap after (given-at b l f time s a e)
      go true u (Err o) v = e
      go false u (Ok o) v = get_or-set_other (at b).next q p (after (given (at b) q)) (record { 0 = pos 0 }) (λ i. eqb-false q p u (sym i)) ∙ e
      go false u (Err o) v = e

  next-step : (b : List Call) (s : ℕ) (c : Call) → next (at b) ≡ steps s first
      → next (model_after (at b) c) ≡ steps (moved (model_answers first) first p b s c) first
  unfolding moved M.taken M.dropped M.run_out
  next-step b s (ask l f q time timeout) e = next-ask b s l f q time timeout e
  next-step b s (reply q x) e = keeps (at b) (is_ok (check_take (at b) (M.no_publisher q) x.0 (Reply q x))) (M.remove (at b) (Reply q x)) refl ∙ e
  next-step b s (cancel l f) e = keeps (at b) (is_ok (check_take (at b) (M.no_link l) f.0 (Cancel l f))) (M.remove (at b) (Cancel l f)) refl ∙ e
  next-step b s (gone peer out) e =
      keeps (at b) (is_ok (check_drop (at b) (M.no_peer peer) (key_of peer) out)) (M.remove (at b) (key_of peer)) refl ∙ e
  next-step b s (run_out time out) e =
      keeps (at b) (is_ok (check_drop (at b) (M.no_time time) (M.run_out_key (at b) time) out)) _ refl ∙ e

  next-from : (cs b : List Call) (s : ℕ) → next (at b) ≡ steps s first
      → next (at (b ++ cs)) ≡ steps (stepped_from (model_answers first) first p b s cs) first
  unfolding stepped_from
  next-from [] b s e = rw (append-nil b) e
  next-from (c ∷ cs) b s e =
      let k : next (at (b ++ c ∷ [])) ≡ steps (moved (model_answers first) first p b s c) first = rw (at_snoc b c (M.empty first)) (next-step b s c e) in
      ap (λ (x : List Call). next (at x)) (sym (append_assoc b (c ∷ []) cs)) ∙ next-from cs (b ++ c ∷ []) (moved (model_answers first) first p b s c) k

  -- after every list of calls the next number stands as many steps from the first as the numbering has gone
  pub next-stepped : (cs : List Call) → next (at cs) ≡ steps (stepped (model_answers first) first p cs) first
  unfolding M.empty model_at steps
  next-stepped cs = next-from cs [] 0 (get_or-replicate 8 p first (record { 0 = pos 0 }) range)

  pub numbered-at : (cs : List Call) (l : ℕ) (f : FrontNumber) (time timeout : ℕ) (x : PublisherNumber)
      → model_answers first cs (ask l f p time timeout) ≡ asked (Ok x)
      → x ≡ steps (passed (model_answers first) first p cs (stepped (model_answers first) first p cs) + stepped (model_answers first) first p cs) first
  numbered-at cs l f time timeout x h =
      let a : M.ask_answer (at cs) l f p time ≡ Ok x = cc in
      let k = answer-accepted (at cs) l f p time x a in
      sym k.1 ∙ given-at cs l f time (stepped (model_answers first) first p cs) k.0 (next-stepped cs)

-- ---- how far a numbering has gone, of any answers

module _ (ans : Answers) (first : PublisherNumber) (p : ℕ) where
  moved_up : (b : List Call) (s : ℕ) (c : Call) → s ≤ moved ans first p b s c
  unfolding moved
  moved_up b s (ask l f q time timeout) = go (eqb q p && not (refused (ans b (ask l f q time timeout))))
    where
      go : (x : Bool) → s ≤ pick x (suc (passed ans first p b s + s)) s
      go true = omega arith
      go false = omega arith
  moved_up b s (reply q x) = omega arith
  moved_up b s (cancel l f) = omega arith
  moved_up b s (gone peer out) = omega arith
  moved_up b s (run_out time out) = omega arith

  stepped_up : (cs b : List Call) (s : ℕ) → s ≤ stepped_from ans first p b s cs
  unfolding stepped_from
  stepped_up [] b s = omega arith
  stepped_up (c ∷ cs) b s = let i = moved_up b s c in let j = stepped_up cs (b ++ c ∷ []) (moved ans first p b s c) in omega arith

  stepped-append : (x y b : List Call) (s : ℕ) → stepped_from ans first p b s (x ++ y) ≡ stepped_from ans first p (b ++ x) (stepped_from ans first p b s x) y
  unfolding stepped_from
  stepped-append [] y b s = ap (λ (z : List Call). stepped_from ans first p z s y) (sym (append-nil b))
  stepped-append (c ∷ x) y b s =
      stepped-append x y (b ++ c ∷ []) (moved ans first p b s c) ∙ ap (λ (z : List Call). stepped_from ans first p z (stepped_from ans first p (b ++ c ∷ []) (moved ans first p b s c) x) y) (append_assoc b (c ∷ []) x)

  pub stepped-more : (x y : List Call) → stepped ans first p x ≤ stepped ans first p (x ++ y)
  stepped-more x y = let e = stepped-append x y [] 0 in let i = stepped_up y x (stepped ans first p x) in omega arith

  -- an accepted ask goes one step, and one for each number passed over
  pub stepped-ask : (cs : List Call) (l : ℕ) (f : FrontNumber) (time timeout : ℕ) (x : PublisherNumber)
      → ans cs (ask l f p time timeout) ≡ asked (Ok x)
      → stepped ans first p (cs ++ ask l f p time timeout ∷ []) ≡ suc (passed ans first p cs (stepped ans first p cs) + stepped ans first p cs)
  unfolding stepped_from moved
  stepped-ask cs l f time timeout x h = stepped-append cs (ask l f p time timeout ∷ []) [] 0 ∙ rw (eq-eqb p p refl, h)
