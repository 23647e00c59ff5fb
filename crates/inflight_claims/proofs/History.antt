-- What the model holds at a point of the list is what the calls before it carried: a request stays until a call frees it, and each has its
-- accepted ask.
-- Assumes nothing.
use mathlib.Core.Path.{◌≡◌, refl, sym, ap, ◌∙◌, subst}
use mathlib.Core.Logic.{⊎_elim, ◌⊎◌, inl, inr}
use Prim.Native.Nat.{ℕ, max}
use native.Mathlib.Omega.{arith}
use mathlib.Core.Bool.{Bool, true, false, not, ◌&&◌, ◌||◌, false≢true}
use mathlib.Core.List.{List, [], ◌∷◌, ◌++◌, append_assoc, append-nil}
use Rattle.wire.specs.Choice.{pick}
use Rattle.inflight.specs.Matching.{matches, without}
use Rattle.inflight.specs.Model.{Model, check_ask, check_take, check_drop, deadline_at, entry}
use Rattle.inflight.specs.Model as M
use Rattle.inflight.specs.Calls.{Call, ask, reply, cancel, gone, run_out, asked}
use Rattle.inflight.specs.Calls.{model_heard, model_after, model_at}
use Rattle.inflight.specs.declared.FrontNumber.{FrontNumber}
use Rattle.inflight.specs.declared.PublisherNumber.{PublisherNumber}
use Rattle.inflight.specs.Requests.{Request}
use Rattle.inflight.specs.Requests.{Key}
use Rattle.inflight.specs.Requests.{Reply, Cancel, key_of}
use Rattle.inflight_claims.specs.Delivery.{Answers, refused, time_of, seen_from, latest_seen, frees, freed_since}
use Rattle.inflight_claims.specs.Delivery.{ask_for, deadline_after, Carried}
use Rattle.inflight_claims.proofs.Membership.{In, in_left, in-snoc, in_without, without_in}
use Rattle.std.specs.Prelude.{Result, Ok, Err, is_ok, is_err, ⊤}
use Rattle.std.specs.Result.{result_and}
use Rattle.refusal.specs.declared.Refusal.{Refusal}
use Rattle.inflight.proofs.CheckLaws.{passes}

-- the model's answers
abbrev pub model_answers : PublisherNumber → Answers
model_answers first before c = model_heard (model_at (M.empty first) before) c

pub at-append : (a b : List Call) (m : Model) → model_at m (a ++ b) ≡ model_at (model_at m a) b
unfolding model_at
at-append [] b m = refl
at-append (c ∷ a) b m = at-append a b (model_after m c)

pub at_snoc : (a : List Call) (c : Call) (m : Model) → model_at m (a ++ c ∷ []) ≡ model_after (model_at m a) c
unfolding model_at
at_snoc a c m = at-append a (c ∷ []) m

-- ---- one call

-- an answer after a check is a refusal where the check refuses
and-refused : {T : Type 0} (r : Result ⊤ Refusal) (x : T) → is_err (result_and r (Ok x)) ≡ not (is_ok r)
and-refused (Ok y) x = refl
and-refused (Err e) x = refl

-- reply, cancel, gone and run out, over the key: y says that the call is not refused, r that it is; after it the time
-- `now` was seen
module _ (m : Model) (k : Key) (now : ℕ) (e : Request) where
  abbrev left : Model
  left = record { requests = without k m.requests; next = m.next; seen = now }

  keep-pick : (y r : Bool) → r ≡ not y → In e m.requests → not r && matches k e ≡ false → In e (pick y left m).requests
  keep-pick true true q i f = absurd (false≢true (sym q))
  keep-pick true false q i f = in_without k e m.requests i f
  keep-pick false r q i f = i

  came-pick : (y r : Bool) → r ≡ not y → In e (pick y left m).requests → In e m.requests × (not r && matches k e ≡ false)
  came-pick true true q i = absurd (false≢true (sym q))
  came-pick true false q i = without_in k e m.requests i
  came-pick false true q i = (i, refl)
  came-pick false false q i = absurd (false≢true q)

-- a call gives a request if it is the ask for it, and is accepted with its number and deadline
record Gives (m : Model) (c : Call) (e : Request) : Type 0 where
  time : ℕ
  timeout : ℕ
  is : c ≡ ask_for e time timeout
  accepted : model_heard m (ask_for e time timeout) ≡ asked (Ok e.number)
  deadline : e.deadline ≡ deadline_at (max m.seen time) timeout

module _ (m : Model) (l : ℕ) (n : FrontNumber) (p time timeout : ℕ) (e : Request) where
  keep-ask : In e m.requests → In e (M.ask m l n p time timeout).requests
  unfolding M.ask M.accept
  keep-ask i = go (is_ok (check_ask m l n p time))
    where
      go : (y : Bool) → In e (pick y (M.accept m l n p time timeout) m).requests
      go true = in_left e m.requests (entry m l n p time timeout ∷ []) i
      go false = i

  came-ask : In e (M.ask m l n p time timeout).requests
      → In e m.requests ⊎ Gives m (ask l n p time timeout) e
  unfolding M.ask M.accept M.ask_answer
  came-ask = go (is_ok (check_ask m l n p time)) refl
    where
      go : (y : Bool) → is_ok (check_ask m l n p time) ≡ y
          → In e (pick y (M.accept m l n p time timeout) m).requests
          → In e m.requests ⊎ Gives m (ask l n p time timeout) e
      go true q i =
          ⊎_elim (λ j. inl j) (λ h. inr (own h)) (in-snoc e m.requests (entry m l n p time timeout) i)
        where
          own : entry m l n p time timeout ≡ e → Gives m (ask l n p time timeout) e
          own h =
              subst (λ (d : Request). Gives m (ask l n p time timeout) d) h
              (record { time = time; timeout = timeout; is = refl; accepted = rw (passes (check_ask m l n p time) q); deadline = refl })
      go false q i = inl i

keep : (m : Model) (c : Call) (e : Request) → In e m.requests → frees m.seen e c (model_heard m c) ≡ false
    → In e (model_after m c).requests
unfolding frees M.taken M.dropped M.run_out M.reply_answer M.cancel_answer M.drop_answer
keep m (ask l n p time timeout) e i f = keep-ask m l n p time timeout e i
keep m (reply p n) e i f =
    let r = check_take m (M.no_publisher p) n.0 (Reply p n) in
    keep-pick m (Reply p n) m.seen e (is_ok r) _ (and-refused r _) i f
keep m (cancel l n) e i f =
    let r = check_take m (M.no_link l) n.0 (Cancel l n) in
    keep-pick m (Cancel l n) m.seen e (is_ok r) _ (and-refused r _) i f
keep m (gone peer out) e i f =
    let r = check_drop m (M.no_peer peer) (key_of peer) out in
    keep-pick m (key_of peer) m.seen e (is_ok r) _ (and-refused r _) i f
keep m (run_out time out) e i f =
    let r = check_drop m (M.no_time time) (M.run_out_key m time) out in
    keep-pick m (M.run_out_key m time) (M.latest m time) e (is_ok r) _ (and-refused r _) i f

came : (m : Model) (c : Call) (e : Request) → In e (model_after m c).requests
    → (In e m.requests × (frees m.seen e c (model_heard m c) ≡ false)) ⊎ Gives m c e
unfolding frees M.taken M.dropped M.run_out M.reply_answer M.cancel_answer M.drop_answer
came m (ask l n p time timeout) e i = ⊎_elim (λ j. inl (j, refl)) (λ g. inr g) (came-ask m l n p time timeout e i)
came m (reply p n) e i =
    let r = check_take m (M.no_publisher p) n.0 (Reply p n) in
    inl (came-pick m (Reply p n) m.seen e (is_ok r) _ (and-refused r _) i)
came m (cancel l n) e i =
    let r = check_take m (M.no_link l) n.0 (Cancel l n) in
    inl (came-pick m (Cancel l n) m.seen e (is_ok r) _ (and-refused r _) i)
came m (gone peer out) e i =
    let r = check_drop m (M.no_peer peer) (key_of peer) out in
    inl (came-pick m (key_of peer) m.seen e (is_ok r) _ (and-refused r _) i)
came m (run_out time out) e i =
    let r = check_drop m (M.no_time time) (M.run_out_key m time) out in
    inl (came-pick m (M.run_out_key m time) (M.latest m time) e (is_ok r) _ (and-refused r _) i)

-- ---- the latest time

-- y says that a call is not refused, r that it is
seen_pick : (m : Model) (es : List Request) (ns : List PublisherNumber) (time : ℕ) (y r : Bool) → r ≡ not y
    → (pick y (record { requests = es; next = ns; seen = max m.seen time }) m).seen
    ≡ pick r m.seen (max m.seen time)
seen_pick m es ns time true true q = absurd (false≢true (sym q))
seen_pick m es ns time true false q = refl
seen_pick m es ns time false true q = refl
seen_pick m es ns time false false q = absurd (false≢true q)

-- a call that brings no time
same-pick : (m : Model) (k : Key) (y r : Bool) → (pick y (M.remove m k) m).seen ≡ pick r m.seen (max m.seen 0)
same-pick m k true true = refl
same-pick m k true false = omega arith
same-pick m k false true = refl
same-pick m k false false = omega arith

seen_step : (m : Model) (c : Call)
    → (model_after m c).seen ≡ pick (refused (model_heard m c)) m.seen (max m.seen (time_of c))
unfolding M.ask M.accept M.ask_answer M.taken M.dropped M.run_out M.drop_answer
seen_step m (ask l n p time timeout) =
    let r = check_ask m l n p time in
    seen_pick m _ _ time (is_ok r) _ (and-refused r _)
seen_step m (reply p n) =
    same-pick m (Reply p n) (is_ok (check_take m (M.no_publisher p) n.0 (Reply p n))) (refused (model_heard m (reply p n)))
seen_step m (cancel l n) =
    same-pick m (Cancel l n) (is_ok (check_take m (M.no_link l) n.0 (Cancel l n)))
    (refused (model_heard m (cancel l n)))
seen_step m (gone peer out) =
    same-pick m (key_of peer) (is_ok (check_drop m (M.no_peer peer) (key_of peer) out))
    (refused (model_heard m (gone peer out)))
seen_step m (run_out time out) =
    let r = check_drop m (M.no_time time) (M.run_out_key m time) out in
    seen_pick m _ _ time (is_ok r) _ (and-refused r _)

-- ---- the list

pub or-false : (a b : Bool) → a || b ≡ false → (a ≡ false) × (b ≡ false)
or-false true b h = absurd (false≢true (sym h))
or-false false b h = (refl, h)

false-or : (a b : Bool) → a ≡ false → b ≡ false → a || b ≡ false
false-or true b p q = p
false-or false b p q = q

-- one call more before the rest
pub shift : (b : List Call) (c : Call) (cs : List Call) → (b ++ c ∷ []) ++ cs ≡ b ++ c ∷ cs
shift b c cs = append_assoc b (c ∷ []) cs

module _ (first : PublisherNumber) where
  abbrev at : List Call → Model
  at cs = model_at (M.empty first) cs

  seen-from : (cs b : List Call) → (at (b ++ cs)).seen ≡ seen_from (model_answers first) b (at b).seen cs
  unfolding seen_from
  seen-from [] b = ap (λ (x : List Call). (at x).seen) (append-nil b)
  seen-from (c ∷ cs) b =
      ap (λ (x : List Call). (at x).seen) (sym (shift b c cs))
      ∙ seen-from cs (b ++ c ∷ [])
      ∙ ap (λ (s : ℕ). seen_from (model_answers first) (b ++ c ∷ []) s cs)
      (ap (λ (m : Model). m.seen) (at_snoc b c (M.empty first)) ∙ seen_step (at b) c)

  -- the latest time that the model has seen is the latest that the calls brought
  pub seen_at : (cs : List Call) → (at cs).seen ≡ latest_seen (model_answers first) cs
  unfolding M.empty model_at
  seen_at cs = seen-from cs []

  -- a request stays while no call frees it
  pub stands : (cs b : List Call) (e : Request) → In e (at b).requests → freed_since (model_answers first) e b cs ≡ false
      → In e (at (b ++ cs)).requests
  unfolding freed_since
  stands [] b e i f = rw (append-nil b) i
  stands (c ∷ cs) b e i f =
      let g =
      or-false (frees (latest_seen (model_answers first) b) e c (model_answers first b c))
      (freed_since (model_answers first) e (b ++ c ∷ []) cs) f in
      let k : frees (at b).seen e c (model_answers first b c) ≡ false =
      ap (λ (s : ℕ). frees s e c (model_answers first b c)) (seen_at b) ∙ g.0 in
      let j : In e (at (b ++ c ∷ [])).requests = rw (at_snoc b c (M.empty first)) (keep (at b) c e i k) in
      subst (λ (x : List Call). In e (at x).requests) (shift b c cs) (stands cs (b ++ c ∷ []) e j g.1)

  -- as Carried, in the calls cs that come after the calls b
  record Later (b cs : List Call) (e : Request) : Type 0 where
    before : List Call
    since : List Call
    time : ℕ
    timeout : ℕ
    place : cs ≡ before ++ ask_for e time timeout ∷ since
    accepted : model_answers first (b ++ before) (ask_for e time timeout) ≡ asked (Ok e.number)
    deadline : e.deadline ≡ deadline_after (model_answers first) (b ++ before) time timeout
    standing : freed_since (model_answers first) e ((b ++ before) ++ ask_for e time timeout ∷ []) since ≡ false

  -- a request in flight was there before, and was not freed, or has its ask
  traced : (cs b : List Call) (e : Request) → In e (at (b ++ cs)).requests
      → (In e (at b).requests × (freed_since (model_answers first) e b cs ≡ false)) ⊎ Later b cs e
  unfolding freed_since
  traced [] b e i = inl (rw (append-nil b) at i, refl)
  traced (c ∷ cs) b e i = ⊎_elim there further (traced cs (b ++ c ∷ []) e (subst (λ (x : List Call). In e (at x).requests) (sym (shift b c cs)) i))
    where
      there : In e (at (b ++ c ∷ [])).requests × (freed_since (model_answers first) e (b ++ c ∷ []) cs ≡ false)
          → (In e (at b).requests × (freed_since (model_answers first) e b (c ∷ cs) ≡ false)) ⊎ Later b (c ∷ cs) e
      there h = ⊎_elim old new (came (at b) c e (rw (at_snoc b c (M.empty first)) at h.0))
        where
          old : In e (at b).requests × (frees (at b).seen e c (model_heard (at b) c) ≡ false)
              → (In e (at b).requests × (freed_since (model_answers first) e b (c ∷ cs) ≡ false)) ⊎ Later b (c ∷ cs) e
          old g =
              let k : frees (latest_seen (model_answers first) b) e c (model_answers first b c) ≡ false =
              ap (λ (s : ℕ). frees s e c (model_answers first b c)) (sym (seen_at b)) ∙ g.1 in
              inl (
                g.0,
                false-or (frees (latest_seen (model_answers first) b) e c (model_answers first b c))
                    (freed_since (model_answers first) e (b ++ c ∷ []) cs) k h.1,
              )

          new : Gives (at b) c e → (In e (at b).requests × (freed_since (model_answers first) e b (c ∷ cs) ≡ false)) ⊎ Later b (c ∷ cs) e
          new g =
              inr
              (record {
                before = [];
                since = cs;
                time = g.time;
                timeout = g.timeout;
                place = ap (λ (x : Call). x ∷ cs) g.is;
                accepted = rw (append-nil b) g.accepted;
                deadline =
                    g.deadline
                    ∙ ap (λ (s : ℕ). deadline_at (max s g.time) g.timeout)
                    (seen_at b ∙ ap (latest_seen (model_answers first)) (sym (append-nil b)));
                standing = rw (append-nil b) (subst (λ (x : Call). freed_since (model_answers first) e (b ++ x ∷ []) cs ≡ false) g.is h.1);
              })

      further : Later (b ++ c ∷ []) cs e → (In e (at b).requests × (freed_since (model_answers first) e b (c ∷ cs) ≡ false)) ⊎ Later b (c ∷ cs) e
      further l =
          inr
          (record {
            before = c ∷ l.before;
            since = l.since;
            time = l.time;
            timeout = l.timeout;
            place = ap (λ (x : List Call). c ∷ x) l.place;
            accepted =
                subst
                (λ (x : List Call). model_answers first x (ask_for e l.time l.timeout) ≡ asked (Ok e.number))
                (shift b c l.before) l.accepted;
            deadline =
                l.deadline
                ∙ ap (λ (x : List Call). deadline_after (model_answers first) x l.time l.timeout) (shift b c l.before);
            standing =
                subst
                (λ (x : List Call). freed_since (model_answers first) e (x ++ ask_for e l.time l.timeout ∷ []) l.since ≡ false)
                (shift b c l.before) l.standing;
          })

  -- what is in flight after the calls was carried by one of them
  pub was-carried : (cs : List Call) (e : Request) → In e (at cs).requests → Carried (model_answers first) cs e
  unfolding M.empty model_at
  was-carried cs e i = ⊎_elim (λ h. absurd h.0) (λ l. record {
    before = l.before;
    since = l.since;
    time = l.time;
    timeout = l.timeout;
    place = l.place;
    accepted = l.accepted;
    deadline = l.deadline;
    standing = l.standing;
  }) (traced cs [] e i)
