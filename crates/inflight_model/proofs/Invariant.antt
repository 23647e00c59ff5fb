-- At every point of a list of calls no two requests have one publisher and number, nor one link and front number, and the number that an
-- accepted ask is given is not in flight with its publisher.
-- Assumes nothing.
use mathlib.Core.Path.{◌≡◌, refl, sym, ap, ◌∙◌}
use Prim.Native.Nat.{ℕ, zero, suc, ◌+◌, ◌*◌, ◌≤◌, ◌<◌, max}
use native.Mathlib.Omega.{arith}
use mathlib.Core.Bool.{Bool, true, false, ◌&&◌, false≢true}
use mathlib.Core.List.{List, [], ◌∷◌, ◌++◌}
use lib.Dec.{eqb, ltb}
use lib.IntN.{ℤ, pos}
use lib.Signed.{mag}
use lib.ListN.{length, get_or, set, length-append, get_or-replicate, length-set, length-replicate}
use lib.Seq.{get_or-set_same, get_or-set_other}
use borrow.Author.Tests.{eqb-true, eqb-false, leb-false}
use Rattle.wire.specs.Choice.{pick}
use Rattle.inflight.specs.Numbers.{same, after}
use Rattle.inflight.proofs.NumberLaws.{same_true, eq-same, ne_same}
use Rattle.inflight.specs.Matching.{matches, matching, without, next_free}
use Rattle.inflight.specs.Model.{Model, check_ask, check_take, check_drop, given, entry}
use Rattle.inflight.specs.Model as M
use Rattle.inflight.specs.Calls.{Call, ask, reply, cancel, gone, run_out, model_after, model_at}
use Rattle.inflight.specs.declared.FrontNumber.{FrontNumber}
use Rattle.inflight.specs.declared.PublisherNumber.{PublisherNumber}
use Rattle.inflight.specs.Requests.{Request}
use Rattle.inflight.specs.Requests.{Key}
use Rattle.inflight.specs.Requests.{Reply, Cancel, key_of}
use Rattle.inflight.proofs.MatchLaws.{matching-append}
use Rattle.inflight_model.proofs.Capacity.{Bounded, accepts, bounded-none, bounded-space, bounded-snoc}
use Rattle.inflight_model.proofs.Capacity.{bounded-without}
use Rattle.inflight_model.proofs.Flight.{top, given-new}
use Rattle.refusal.specs.declared.Refusal.TheVariants.{OutOfRange, BufferTooSmall}
use Rattle.refusal.specs.declared.Refusal.{Refusal}
use Rattle.std.specs.Prelude.{Result, Ok, Err, is_ok, ⊤}
use Rattle.inflight.proofs.CheckLaws.{passes}

-- a number from 1 to the largest
pub record Ranged (n : PublisherNumber) : Type 0 where
  pub at : ℕ
  pub is : n ≡ record { 0 = pos at }
  pub low : 1 ≤ at
  pub high : at ≤ top

pub after-ranged : (n : PublisherNumber) → Ranged n → Ranged (after n)
unfolding after
after-ranged n r = go (eqb r.at top) refl
  where
    go : (x : Bool) → eqb r.at top ≡ x → Ranged (after n)
    go true e = record { at = 1; is = rw (r.is, eq-same (pos r.at) (pos top) (ap pos (eqb-true r.at top e))); low = omega arith; high = omega arith }
    go false e =
        let d = eqb-false r.at top e in
        record {
          at = r.at + 1;
          is = rw (r.is, ne_same (pos r.at) (pos top) (λ q. d (ap mag q)));
          low = omega arith;
          high = omega (arith, d, r.high);
        }

free-ranged : (f : ℕ) (es : List Request) (p : ℕ) (n : PublisherNumber) → Ranged n → Ranged (next_free f es p n)
unfolding next_free
free-ranged zero es p n r = r
free-ranged (suc f) es p n r = go (eqb (length (matching (Reply p n) es)) 0) (free-ranged f es p (after n) (after-ranged n r))
  where
    go : (x : Bool) → Ranged (next_free f es p (after n)) → Ranged (pick x n (next_free f es p (after n)))
    go true i = r
    go false i = i

-- removing leaves no key with more than it had
matching-without : (j k : Key) (es : List Request) → length (matching j (without k es)) ≤ length (matching j es)
unfolding matching without
matching-without j k [] = omega arith
matching-without j k (e ∷ es) = go (matches k e) (matches j e) refl (matching-without j k es)
  where
    go : (x y : Bool) → matches j e ≡ y → length (matching j (without k es)) ≤ length (matching j es)
        → length (matching j (pick x (without k es) (e ∷ without k es))) ≤ length (pick y (e ∷ matching j es) (matching j es))
    go true true q i = omega arith
    go true false q i = i
    go false true q i = rw q (omega arith)
    go false false q i = rw q i

-- one request more
matching-snoc-no : (j : Key) (es : List Request) (e : Request) → matches j e ≡ false → length (matching j (es ++ e ∷ [])) ≡ length (matching j es)
unfolding matching
matching-snoc-no j es e h = ap length (matching-append j es (e ∷ [])) ∙ length-append (matching j es) (matching j (e ∷ [])) ∙ rw h (omega arith)

matching-snoc-yes : (j : Key) (es : List Request) (e : Request) → matches j e ≡ true → length (matching j (es ++ e ∷ [])) ≡ length (matching j es) + 1
unfolding matching
matching-snoc-yes j es e h = ap length (matching-append j es (e ∷ [])) ∙ length-append (matching j es) (matching j (e ∷ [])) ∙ rw h (omega arith)

-- ---- what holds of the model at every point

pub record Invariant (b : Model) : Type 0 where
  pub bounded : Bounded b.requests
  pub eight : length b.next ≡ 8
  pub ranged : (p : ℕ) → p < 8 → Ranged (get_or b.next p (record { 0 = pos 0 }))
  pub once : (p : ℕ) (n : PublisherNumber) → length (matching (Reply p n) b.requests) ≤ 1
  pub front_once : (l : ℕ) (n : FrontNumber) → length (matching (Cancel l n) b.requests) ≤ 1
  pub seen : b.seen < 4611686018427387904

pub inv-empty : (first : PublisherNumber) → Ranged first → Invariant (M.empty first)
unfolding M.empty matching
inv-empty first r =
    record {
      bounded = bounded-none;
      eight = length-replicate 8 first;
      ranged = λ p h. rw (get_or-replicate 8 p first (record { 0 = pos 0 }) h) r;
      once = λ p n. omega arith;
      front_once = λ l n. omega arith;
      seen = omega arith;
    }

-- fewer requests, and a time seen
inv-remove : (b : Model) (k : Key) (now : ℕ) → Invariant b → now < 4611686018427387904
    → Invariant (record { requests = without k b.requests; next = b.next; seen = now })
inv-remove b k now f h =
    record {
      bounded = bounded-without k f.bounded;
      eight = f.eight;
      ranged = f.ranged;
      once = λ p n. omega (arith, matching-without (Reply p n) k b.requests, f.once p n);
      front_once = λ l n. omega (arith, matching-without (Cancel l n) k b.requests, f.front_once l n);
      seen = h;
    }

-- the number that an ask accepted by the model is given is not in flight with its publisher
pub not-in-flight : (b : Model) (p : ℕ) → Invariant b → p < 8 → length b.requests < top → length (matching (Reply p (given b p)) b.requests) ≡ 0
not-in-flight b p f h l =
    let r = f.ranged p h in
    rw r.is (given-new b.requests p r.at r.low r.high l)

pub both : (a b : Bool) → a && b ≡ true → (a ≡ true) × (b ≡ true)
both true b e = (refl, e)
both false b e = absurd (false≢true e)

reply-same : (p q : ℕ) (x y : PublisherNumber) (e : Request) → e.publisher ≡ p → e.number ≡ x → matches (Reply q y) e ≡ true → Reply p x ≡ Reply q y
unfolding matches
reply-same p q x y e a b h =
    let m = both (eqb e.publisher q) (same e.number.0 y.0) h in
    let s : p ≡ q = sym a ∙ eqb-true e.publisher q m.0 in
    let u : x.0 ≡ y.0 = ap (λ (v : PublisherNumber). v.0) (sym b) ∙ same_true e.number.0 y.0 m.1 in
    ap (λ (v : ℤ). Reply p (record { 0 = v })) u ∙ ap (λ (j : ℕ). Reply j y) s

cancel-same : (l k : ℕ) (x y : FrontNumber) (e : Request) → e.link ≡ l → e.front ≡ x → matches (Cancel k y) e ≡ true → Cancel l x ≡ Cancel k y
unfolding matches
cancel-same l k x y e a b h =
    let m = both (eqb e.link k) (same e.front.0 y.0) h in
    let s : l ≡ k = sym a ∙ eqb-true e.link k m.0 in
    let u : x.0 ≡ y.0 = ap (λ (v : FrontNumber). v.0) (sym b) ∙ same_true e.front.0 y.0 m.1 in
    ap (λ (v : ℤ). Cancel l (record { 0 = v })) u ∙ ap (λ (j : ℕ). Cancel j y) s

-- a key that matching nothing names one at most with one request more
one_more : (j : Key) (es : List Request) (e : Request) → length (matching j es) ≤ 1 → (matches j e ≡ true → length (matching j es) ≡ 0)
    → length (matching j (es ++ e ∷ [])) ≤ 1
one_more j es e a z = go (matches j e) refl
  where
    go : (x : Bool) → matches j e ≡ x → length (matching j (es ++ e ∷ [])) ≤ 1
    go true h = omega (arith, matching-snoc-yes j es e h, z h)
    go false h = omega (arith, matching-snoc-no j es e h)

-- the number that an ask is given is from 1 to the largest
pub given-ranged : (b : Model) (p : ℕ) → Invariant b → p < 8 → Ranged (given b p)
given-ranged b p f h = free-ranged (length b.requests) b.requests p (get_or b.next p (record { 0 = pos 0 })) (f.ranged p h)

next-ranged : (b : Model) (p q : ℕ) → Invariant b → p < 8 → q < 8 → Ranged (get_or (set b.next p (after (given b p))) q (record { 0 = pos 0 }))
next-ranged b p q f g h = go (eqb q p) refl
  where
    go : (x : Bool) → eqb q p ≡ x → Ranged (get_or (set b.next p (after (given b p))) q (record { 0 = pos 0 }))
    go true i =
        let s : q ≡ p = eqb-true q p i in
        let l : p < length b.next = omega (arith, f.eight) in
        rw (s, get_or-set_same b.next p (after (given b p)) (record { 0 = pos 0 }) l)
        (after-ranged (given b p) (given-ranged b p f g))
    go false i = rw (get_or-set_other b.next p q (after (given b p)) (record { 0 = pos 0 }) (eqb-false q p i)) (f.ranged q h)

inv-ask : (b : Model) (l : ℕ) (n : FrontNumber) (p time timeout : ℕ) → Invariant b
    → Invariant (M.ask b l n p time timeout)
unfolding M.ask M.accept
inv-ask b l n p time timeout f = go (is_ok (check_ask b l n p time)) refl
  where
    go : (x : Bool) → is_ok (check_ask b l n p time) ≡ x → Invariant (pick x (M.accept b l n p time timeout) b)
    go false e = f
    go true e =
        let es = b.requests in
        let E = entry b l n p time timeout in
        let r = accepts b l n p time (passes (check_ask b l n p time) e) in
        let w = bounded-space es p f.bounded r in
        let new = not-in-flight b p f r.range (omega arith) in
        record {
          bounded = bounded-snoc es E f.bounded r;
          eight = length-set b.next p (after (given b p)) ∙ f.eight;
          ranged = λ q h. next-ranged b p q f r.range h;
          once = λ q y. one_more (Reply q y) es E (f.once q y) (λ h. ap (λ (j : Key). length (matching j es)) (sym (reply-same p q (given b p) y E refl refl h)) ∙ new);
          front_once = λ k y. one_more (Cancel k y) es E (f.front_once k y) (λ h. ap (λ (j : Key). length (matching j es)) (sym (cancel-same l k n y E refl refl h)) ∙ r.own);
          seen = omega (arith, f.seen, r.clock);
        }

inv-pick : (x : Bool) (a b : Model) → Invariant a → Invariant b → Invariant (pick x a b)
inv-pick true a b f g = f
inv-pick false a b f g = g

inv-removed : (b : Model) (k : Key) → Invariant b → Invariant (M.remove b k)
inv-removed b k f = inv-remove b k b.seen f f.seen

-- a run-out that is not refused has a time in range
in-range : (a b : Bool) → ◌≡◌ {A = Result ⊤ Refusal} (pick a (Err OutOfRange) (pick b (Err BufferTooSmall) (Ok tt))) (Ok tt) → a ≡ false
in-range true b e = cc
in-range false b e = refl

inv-run-out : (b : Model) (time : ℕ) (out : List ℤ) → Invariant b → Invariant (M.run_out b time out)
unfolding M.run_out check_drop
inv-run-out b time out f = go (is_ok (check_drop b (M.no_time time) (M.run_out_key b time) out)) refl
  where
    go : (x : Bool) → is_ok (check_drop b (M.no_time time) (M.run_out_key b time) out) ≡ x
        → Invariant (pick x (record { requests = without (M.run_out_key b time) b.requests; next = b.next; seen = max b.seen time }) b)
    go false e = f
    go true e =
        let short : Bool = ltb (length out) (2 * length (matching (M.run_out_key b time) b.requests)) in
        let no = check_drop b (M.no_time time) (M.run_out_key b time) out in
        let r = leb-false 4611686018427387904 time (in-range (M.no_time time) short (passes no e)) in
        inv-remove b (M.run_out_key b time) (max b.seen time) f (omega (arith, f.seen, r))

pub inv-call : (b : Model) (c : Call) → Invariant b → Invariant (model_after b c)
unfolding M.taken M.dropped
inv-call b (ask l n p time timeout) f = inv-ask b l n p time timeout f
inv-call b (reply p n) f = inv-pick (is_ok (check_take b (M.no_publisher p) n.0 (Reply p n))) _ b (inv-removed b (Reply p n) f) f
inv-call b (cancel l n) f = inv-pick (is_ok (check_take b (M.no_link l) n.0 (Cancel l n))) _ b (inv-removed b (Cancel l n) f) f
inv-call b (gone peer out) f =
    inv-pick (is_ok (check_drop b (M.no_peer peer) (key_of peer) out)) _ b (inv-removed b (key_of peer) f) f
inv-call b (run_out time out) f = inv-run-out b time out f

inv-from : (cs : List Call) (b : Model) → Invariant b → Invariant (model_at b cs)
unfolding model_at
inv-from [] b f = f
inv-from (c ∷ cs) b f = inv-from cs (model_after b c) (inv-call b c f)

-- the model keeps the invariant after every list of calls
pub inv_at : (first : PublisherNumber) → Ranged first → (cs : List Call) → Invariant (model_at (M.empty first) cs)
inv_at first r cs = inv-from cs (M.empty first) (inv-empty first r)

-- and the number that an accepted ask is given is not in flight with its publisher
pub new-number : (b : Model) (l : ℕ) (n : FrontNumber) (p time : ℕ) → Invariant b → check_ask b l n p time ≡ Ok tt
    → length (matching (Reply p (given b p)) b.requests) ≡ 0
new-number b l n p time f e =
    let r = accepts b l n p time e in
    not-in-flight b p f r.range (let w = bounded-space b.requests p f.bounded r in omega arith)
