-- Delivery, proved: of the model's answers first, and then of the table's, which are the same.
-- Assumes nothing.
use mathlib.Core.Path.{◌≡◌, refl, sym, ap, ◌∙◌, subst, fun_ext}
use mathlib.Core.Logic.{⊎_elim, ◌⊎◌, inl, inr}
use Prim.Native.Nat.{ℕ, suc, ◌+◌, ◌≤◌, ◌<◌, max}
use native.Mathlib.Omega.{arith}
use mathlib.Core.Bool.{Bool, true, false, false≢true}
use mathlib.Core.List.{List, [], ◌∷◌, ◌++◌}
use lib.Dec.{eqb, leb}
use lib.IntN.{ℤ, pos}
use lib.ListN.{length}
use borrow.Author.Tests.{eqb-true, eqb-false, eq-eqb, ne_eqb, lt-leb, le-ltb}
use Rattle.wire.specs.Choice.{pick}
use Rattle.inflight.specs.Numbers.{same}
use Rattle.inflight.specs.Matching.{matches, matching, without, blank}
use Rattle.inflight.specs.Model.{Model, check_ask, check_take, reply_answer, matched, given, deadline_at, entry}
use Rattle.inflight.specs.Model as M
use Rattle.inflight.specs.Tables.{fresh_of}
use Rattle.inflight.specs.Calls.{Call, ask, reply, run_out, asked, replied, model_heard, model_after, model_at}
use Rattle.inflight.specs.declared.FrontNumber.{FrontNumber}
use Rattle.inflight.specs.declared.PublisherNumber.{PublisherNumber}
use Rattle.inflight.specs.Requests.{Request}
use Rattle.inflight.specs.Requests.{Key}
use Rattle.inflight.specs.Requests.{Reply}
use Rattle.inflight.proofs.NumberLaws.{same_true, eq-same, ne_same}
use Rattle.inflight_claims.specs.Delivery.{Answers, table_answers, latest_seen, frees, freed_since, ask_for}
use Rattle.inflight_claims.specs.Delivery.{deadline_after, Carried, told, round, steps, passed, stepped, request}
use Rattle.inflight_claims.specs.Delivery.{Delivery, Delivered}
use Rattle.inflight_claims.proofs.Membership.{In, in-last, in-matching, matching-in, in-single, in_some, head_in}
use Rattle.inflight_claims.proofs.History.{model_answers, at_snoc, seen_at, stands, was-carried, or-false}
use Rattle.inflight_claims.proofs.History.{shift}
use Rattle.inflight_claims.proofs.Told.{tells}
use Rattle.inflight_model.proofs.Capacity.{accepts}
use Rattle.inflight_model.proofs.Invariant.{Ranged, inv_at, new-number, both}
use Rattle.inflight_claims.proofs.ListClaim.{answer-accepted}
use Rattle.inflight_tied.proofs.Simulated.{heard-at, fresh-good, fresh-model}
use Rattle.inflight_claims.proofs.Numbering.{numbered-at, stepped-more, stepped-ask, right-round, steps-ranged, not-zero}
use Rattle.std.specs.Prelude.{Result, Ok, Err, ⊤}
use Rattle.std.specs.Result.{result_and}
use Rattle.refusal.specs.declared.Refusal.{Refusal}
use Rattle.inflight.specs.declared.FrontEnd.{FrontEnd}
use Rattle.refusal.specs.declared.Refusal.TheVariants.{OutOfRange, NumberZero, NoSuchRequest}

-- ---- two places of a list

record Behind (b : List Call) (c : Call) (r a : List Call) (d : Call) (s : List Call) : Type 0 where
  mid : List Call
  place : a ≡ b ++ c ∷ mid
  rest : r ≡ mid ++ d ∷ s

splits : (b a : List Call) (c d : Call) (r s : List Call) → b ++ c ∷ r ≡ a ++ d ∷ s → (b ≡ a) ⊎ (Behind b c r a d s ⊎ Behind a d s b c r)
splits [] [] c d r s h = inl refl
splits [] (x ∷ a) c d r s h = inr (inl (record { mid = a; place = cc; rest = cc }))
splits (x ∷ b) [] c d r s h = inr (inr (record { mid = b; place = cc; rest = cc }))
splits (x ∷ b) (y ∷ a) c d r s h = ⊎_elim (λ q. inl (cc)) (λ q. inr (⊎_elim (λ k. inl (one k)) (λ k. inr (two k)) q)) (splits b a c d r s (cc))
  where
    one : Behind b c r a d s → Behind (x ∷ b) c r (y ∷ a) d s
    one k = let p = k.place in record { mid = k.mid; place = cc; rest = k.rest }

    two : Behind a d s b c r → Behind (y ∷ a) d s (x ∷ b) c r
    two k = let p = k.place in record { mid = k.mid; place = cc; rest = k.rest }

-- ---- what a reply's check says

rows : (a b c : Bool)
    → ◌≡◌ {A = Result ⊤ Refusal} (pick a (Err OutOfRange) (pick b (Err NumberZero) (pick c (Err NoSuchRequest) (Ok tt)))) (Ok tt)
    → (a ≡ false) × (b ≡ false) × (c ≡ false)
rows true b c h = cc
rows false true c h = cc
rows false false true h = cc
rows false false false h = (refl, refl, refl)

module _ (m : Model) (p : ℕ) (x : PublisherNumber) where
  take-rows : check_take m (M.no_publisher p) x.0 (Reply p x) ≡ Ok tt
      → (leb 8 p ≡ false) × (same x.0 (pos 0) ≡ false) × (eqb (length (matching (Reply p x) m.requests)) 0 ≡ false)
  unfolding check_take
  take-rows e = rows (leb 8 p) (same x.0 (pos 0)) (eqb (length (matching (Reply p x) m.requests)) 0) e

  take_no : leb 8 p ≡ false → same x.0 (pos 0) ≡ false → eqb (length (matching (Reply p x) m.requests)) 0 ≡ true
      → reply_answer m p x ≡ Err NoSuchRequest
  unfolding check_take reply_answer
  take_no a b c = rw (a, b, c)

  take-zero : leb 8 p ≡ false → same x.0 (pos 0) ≡ false → eqb (length (matching (Reply p x) m.requests)) 0 ≡ false
      → check_take m (M.no_publisher p) x.0 (Reply p x) ≡ Ok tt
  unfolding check_take
  take-zero a b c = rw (a, b, c)

  answer-front : check_take m (M.no_publisher p) x.0 (Reply p x) ≡ Ok tt
      → reply_answer m p x ≡ Ok (record { link = (matched m (Reply p x)).link; number = (matched m (Reply p x)).front })
  unfolding reply_answer
  answer-front e = rw e

  front-answer : (l : ℕ) (f : FrontNumber) → reply_answer m p x ≡ Ok (record { link = l; number = f })
      → (check_take m (M.no_publisher p) x.0 (Reply p x) ≡ Ok tt) × ((matched m (Reply p x)).link ≡ l) × ((matched m (Reply p x)).front ≡ f)
  unfolding reply_answer
  front-answer l f = go (check_take m (M.no_publisher p) x.0 (Reply p x)) refl
    where
      go : (y : Result ⊤ Refusal) → check_take m (M.no_publisher p) x.0 (Reply p x) ≡ y
          → ◌≡◌ {A = Result FrontEnd Refusal}
          (result_and y (Ok (record { link = (matched m (Reply p x)).link; number = (matched m (Reply p x)).front })))
          (Ok (record { link = l; number = f }))
          → (check_take m (M.no_publisher p) x.0 (Reply p x) ≡ Ok tt) × ((matched m (Reply p x)).link ≡ l) × ((matched m (Reply p x)).front ≡ f)
      go (Ok o) e h =
          let k : ◌≡◌ {A = FrontEnd} (record { link = (matched m (Reply p x)).link; number = (matched m (Reply p x)).front }) (record { link = l; number = f }) = cc in
          (e, ap (λ (z : FrontEnd). z.link) k, ap (λ (z : FrontEnd). z.number) k)
      go (Err o) e h = cc

matches-own : (e : Request) (p : ℕ) (x : PublisherNumber) → e.publisher ≡ p → e.number ≡ x → matches (Reply p x) e ≡ true
unfolding matches
matches-own e p x a b = rw (eq-eqb e.publisher p a, eq-same e.number.0 x.0 (ap (λ (y : PublisherNumber). y.0) b))

own-matches : (e : Request) (p : ℕ) (x : PublisherNumber) → matches (Reply p x) e ≡ true → (e.publisher ≡ p) × (e.number ≡ x)
unfolding matches
own-matches e p x h =
    let b = both (eqb e.publisher p) (same e.number.0 x.0) h in
    (eqb-true e.publisher p b.0, ap (λ (z : ℤ). record { 0 = z }) (same_true e.number.0 x.0 b.1))

is-request : (e : Request) (l : ℕ) (f : FrontNumber) (p : ℕ) (x : PublisherNumber) (d : ℕ) → e.link ≡ l → e.front ≡ f
    → e.publisher ≡ p → e.number ≡ x → e.deadline ≡ d → e ≡ request l f p x d
is-request e l f p x d a b c h k = λ i. record { link = a i; front = b i; publisher = c i; number = h i; deadline = k i }

-- what a key matches is not in what it does not match
none_left : (k : Key) (es : List Request) → length (matching k (without k es)) ≡ 0
unfolding matching without
none_left k [] = refl
none_left k (e ∷ es) = go (matches k e) refl (none_left k es)
  where
    go : (t : Bool) → matches k e ≡ t → length (matching k (without k es)) ≡ 0 → length (matching k (pick t (without k es) (e ∷ without k es))) ≡ 0
    go true q i = i
    go false q i = rw q i

-- ---- the model's answers

freed-front : (ans : Answers) (e : Request) (mid b : List Call) (c : Call) (r : List Call) → freed_since ans e b (mid ++ c ∷ r) ≡ false
    → freed_since ans e b mid ≡ false
unfolding freed_since
freed-front ans e [] b c r h = refl
freed-front ans e (d ∷ mid) b c r h =
    let g = or-false (frees (latest_seen ans b) e d (ans b d)) (freed_since ans e (b ++ d ∷ []) (mid ++ c ∷ r)) h in
    rw g.0 (freed-front ans e mid (b ++ d ∷ []) c r g.1)

module _ (first : PublisherNumber) (ranged : Ranged first) where
  abbrev ans : Answers
  ans = model_answers first

  abbrev at : List Call → Model
  at cs = model_at (M.empty first) cs

  -- an accepted ask's request is in flight after it
  given-in : (b : List Call) (e : Request) (t u : ℕ) → ans b (ask_for e t u) ≡ asked (Ok e.number)
      → e.deadline ≡ deadline_after ans b t u → In e (at (b ++ ask_for e t u ∷ [])).requests
  unfolding M.ask M.accept
  given-in b e t u h due =
      let m = at b in
      let a : M.ask_answer m e.link e.front e.publisher t ≡ Ok e.number = cc in
      let k = answer-accepted m e.link e.front e.publisher t e.number a in
      let E : Request = entry m e.link e.front e.publisher t u in
      let d : E.deadline ≡ e.deadline =
      ap (λ (s : ℕ). deadline_at (max s t) u) (seen_at first b) ∙ sym due in
      let i : In e (m.requests ++ E ∷ []) =
      subst (λ (d : Request). In d (m.requests ++ E ∷ []))
      (is-request E e.link e.front e.publisher e.number e.deadline refl refl refl k.1 d)
      (in-last m.requests E) in
      let q : M.ask m e.link e.front e.publisher t u ≡ M.accept m e.link e.front e.publisher t u =
      rw k.0 in
      subst (λ (x : Model). In e x.requests) (sym (at_snoc b (ask_for e t u) (M.empty first) ∙ q)) i

  carried-in : (cs : List Call) (e : Request) → Carried ans cs e → In e (at cs).requests
  carried-in cs e c =
      let call : Call = ask_for e c.time c.timeout in
      let g = given-in c.before e c.time c.timeout c.accepted c.deadline in
      let i = stands first c.since (c.before ++ call ∷ []) e g c.standing in
      subst (λ (x : List Call). In e (at x).requests) (shift c.before call c.since ∙ sym c.place) i

  -- a number in flight is not given
  never-again : (b : List Call) (e d : Request) (v w : ℕ) → In e (at b).requests
      → ans b (ask_for d v w) ≡ asked (Ok d.number) → d.publisher ≡ e.publisher → d.number ≡ e.number → ⊥
  never-again b e d v w i h pe ne =
      let m = at b in
      let a : M.ask_answer m d.link d.front d.publisher v ≡ Ok d.number = cc in
      let k = answer-accepted m d.link d.front d.publisher v d.number a in
      let n = new-number m d.link d.front d.publisher v (inv_at first ranged b) k.0 in
      in_some e (matching (Reply d.publisher (given m d.publisher)) m.requests) (in-matching (Reply d.publisher (given m d.publisher)) e m.requests i (matches-own e d.publisher (given m d.publisher) (sym pe) (sym ne ∙ sym k.1))) n

  -- an ask still in flight has no later ask with its publisher and number
  none-behind : (cs : List Call) (e : Request) (c : Carried ans cs e) (d : Request) (v w : ℕ) (b s : List Call)
      → Behind c.before (ask_for e c.time c.timeout) c.since b (ask_for d v w) s
      → ans b (ask_for d v w) ≡ asked (Ok d.number) → d.publisher ≡ e.publisher → d.number ≡ e.number → ⊥
  none-behind cs e c d v w b s k h pe ne =
      let call : Call = ask_for e c.time c.timeout in
      let f : freed_since ans e (c.before ++ call ∷ []) (k.mid ++ ask_for d v w ∷ s) ≡ false =
      subst (λ (x : List Call). freed_since ans e (c.before ++ call ∷ []) x ≡ false) k.rest c.standing in
      let i =
      stands first k.mid (c.before ++ call ∷ []) e
      (given-in c.before e c.time c.timeout c.accepted c.deadline)
      (freed-front ans e k.mid (c.before ++ call ∷ []) (ask_for d v w) s f) in
      never-again b e d v w
      (subst (λ (x : List Call). In e (at x).requests) (shift c.before call k.mid ∙ sym k.place) i) h pe ne

  ask-range : (b : List Call) (l : ℕ) (f : FrontNumber) (p t u : ℕ) (x : PublisherNumber)
      → ans b (ask l f p t u) ≡ asked (Ok x) → p < 8
  ask-range b l f p t u x h =
      let a : M.ask_answer (at b) l f p t ≡ Ok x = cc in
      (accepts (at b) l f p t (answer-accepted (at b) l f p t x a).0).range

  again-at : (b s : List Call) (l : ℕ) (f : FrontNumber) (t u k : ℕ) (g : FrontNumber) (v w p : ℕ) (x : PublisherNumber)
      → ans b (ask l f p t u) ≡ asked (Ok x) → ans (b ++ ask l f p t u ∷ s) (ask k g p v w) ≡ asked (Ok x)
      → stepped ans first p (b ++ ask l f p t u ∷ []) + round
      ≤ stepped ans first p ((b ++ ask l f p t u ∷ s) ++ ask k g p v w ∷ [])
  again-at b s l f t u k g v w p x h q =
      let call : Call = ask l f p t u in
      let B = b ++ call ∷ s in
      let r = ask-range b l f p t u x h in
      let i : ℕ = passed ans first p b (stepped ans first p b) + stepped ans first p b in
      let j : ℕ = passed ans first p B (stepped ans first p B) + stepped ans first p B in
      let e : steps i first ≡ steps j first =
      sym (numbered-at first ranged p r b l f t u x h) ∙ numbered-at first ranged p r B k g v w x q in
      let y : stepped ans first p (b ++ call ∷ []) ≡ suc i = stepped-ask ans first p b l f t u x h in
      let o : stepped ans first p (B ++ ask k g p v w ∷ []) ≡ suc j = stepped-ask ans first p B k g v w x q in
      let m : stepped ans first p (b ++ call ∷ []) ≤ stepped ans first p B =
      subst (λ (z : List Call). stepped ans first p (b ++ call ∷ []) ≤ stepped ans first p z) (shift b call s)
      (stepped-more ans first p (b ++ call ∷ []) s) in
      let z = right-round i j first ranged (omega arith) e in
      omega arith

  again-of : (cs : List Call) (e d : Request) (t u v w : ℕ) (b s : List Call) → cs ≡ b ++ ask_for e t u ∷ s
      → ans b (ask_for e t u) ≡ asked (Ok e.number) → ans cs (ask_for d v w) ≡ asked (Ok d.number)
      → d.publisher ≡ e.publisher → d.number ≡ e.number
      → stepped ans first e.publisher (b ++ ask_for e t u ∷ []) + round
      ≤ stepped ans first e.publisher (cs ++ ask_for d v w ∷ [])
  again-of cs e d t u v w b s q h k pe ne =
      let asks : (ℕ → Call) = λ p. ask d.link d.front p v w in
      let g : ans (b ++ ask_for e t u ∷ s) (asks e.publisher) ≡ asked (Ok e.number) =
      sym (ap (λ (x : List Call). ans x (asks e.publisher)) q)
      ∙ sym (ap (λ (p : ℕ). ans cs (asks p)) pe)
      ∙ k
      ∙ ap (λ (x : PublisherNumber). asked (Ok x)) ne in
      let r = again-at b s e.link e.front t u d.link d.front v w e.publisher e.number h g in
      let m : stepped ans first e.publisher ((b ++ ask_for e t u ∷ s) ++ asks e.publisher ∷ [])
      ≡ stepped ans first e.publisher (cs ++ ask_for d v w ∷ []) =
      sym (ap (λ (x : List Call). stepped ans first e.publisher (x ++ asks e.publisher ∷ [])) q)
      ∙ sym (ap (λ (p : ℕ). stepped ans first e.publisher (cs ++ asks p ∷ [])) pe) in
      omega arith

  one_of : (cs : List Call) (e d : Request) → e.publisher ≡ d.publisher → e.number ≡ d.number → (c : Carried ans cs e) (b : Carried ans cs d)
      → c.before ≡ b.before
  one_of cs e d pe ne c b =
      ⊎_elim
      (λ q. q)
      (λ q. ⊎_elim
      (λ k. absurd (none-behind cs e c d b.time b.timeout b.before b.since k b.accepted (sym pe) (sym ne)))
      (λ k. absurd (none-behind cs d b e c.time c.timeout c.before c.since k c.accepted pe ne)) q)
      (splits c.before b.before (ask_for e c.time c.timeout) (ask_for d b.time b.timeout) c.since
      b.since (sym c.place ∙ b.place))

  only_of : (cs : List Call) (e : Request) (c : Carried ans cs e) (d : Request) (v w : ℕ) (b s : List Call)
      → cs ≡ b ++ ask_for d v w ∷ s
      → ans b (ask_for d v w) ≡ asked (Ok d.number) → d.publisher ≡ e.publisher → d.number ≡ e.number
      → stepped ans first e.publisher cs < stepped ans first e.publisher (b ++ ask_for d v w ∷ []) + round
      → b ≡ c.before
  only_of cs e c d v w b s q h pe ne less =
      ⊎_elim
      (λ k. sym k)
      (λ k. ⊎_elim (λ j. absurd (none-behind cs e c d v w b s j h pe ne)) (λ j. absurd (early j)) k)
      (splits c.before b call (ask_for d v w) c.since s (sym c.place ∙ q))
    where
      call : Call
      call = ask_for e c.time c.timeout

      early : Behind b (ask_for d v w) s c.before call c.since → ⊥
      early j =
          let l = again-of c.before d e v w c.time c.timeout b j.mid j.place h c.accepted (sym pe) (sym ne) in
          let l2 : stepped ans first e.publisher (b ++ ask_for d v w ∷ []) + round
          ≤ stepped ans first e.publisher (c.before ++ call ∷ []) =
          subst
          (λ (p : ℕ). stepped ans first p (b ++ ask_for d v w ∷ []) + round ≤ stepped ans first p (c.before ++ call ∷ []))
          pe l in
          let g : stepped ans first e.publisher (c.before ++ call ∷ []) ≤ stepped ans first e.publisher cs =
          subst
          (λ (x : List Call). stepped ans first e.publisher (c.before ++ call ∷ []) ≤ stepped ans first e.publisher x)
          (shift c.before call c.since ∙ sym c.place)
          (stepped-more ans first e.publisher (c.before ++ call ∷ []) c.since) in
          omega arith

  delivered-of : (cs : List Call) (l : ℕ) (f : FrontNumber) (p : ℕ) (x : PublisherNumber) → ans cs (reply p x) ≡ replied (Ok (record { link = l; number = f }))
      → (d : ℕ) × Carried ans cs (request l f p x d)
  delivered-of cs l f p x h =
      let m = at cs in
      let a : reply_answer m p x ≡ Ok (record { link = l; number = f }) = cc in
      let k = front-answer m p x l f a in
      let t = take-rows m p x k.0 in
      let i = matching-in (Reply p x) (matched m (Reply p x)) m.requests (head_in (matching (Reply p x) m.requests) blank (eqb-false (length (matching (Reply p x) m.requests)) 0 t.2)) in
      let o = own-matches (matched m (Reply p x)) p x i.1 in
      let d : ℕ = (matched m (Reply p x)).deadline in (
        d,
        was-carried first cs (request l f p x d)
            (subst (λ (e : Request). In e m.requests)
            (is-request (matched m (Reply p x)) l f p x d k.1 k.2 o.0 o.1 refl) i.0),
      )

  carried_of : (cs : List Call) (l : ℕ) (f : FrontNumber) (p : ℕ) (x : PublisherNumber) (d : ℕ)
      → Carried ans cs (request l f p x d) → ans cs (reply p x) ≡ replied (Ok (record { link = l; number = f }))
  carried_of cs l f p x d c =
      let m = at cs in
      let e : Request = request l f p x d in
      let r = ask-range c.before l f p c.time c.timeout x c.accepted in
      let g : Ranged x = subst Ranged (sym (numbered-at first ranged p r c.before l f c.time c.timeout x c.accepted)) (steps-ranged (passed ans first p c.before (stepped ans first p c.before) + stepped ans first p c.before) first ranged) in
      let i = in-matching (Reply p x) e m.requests (carried-in cs e c) (matches-own e p x refl refl) in
      let s : matched m (Reply p x) ≡ e = in-single e (matching (Reply p x) m.requests) blank i ((inv_at first ranged cs).once p x) in
      let z = take-zero m p x (lt-leb 8 p r) (not-zero x g) (ne_eqb (length (matching (Reply p x) m.requests)) 0 (in_some e (matching (Reply p x) m.requests) i)) in
      ap replied (answer-front m p x z ∙ ap (λ (d : Request). Ok (record { link = d.link; number = d.front })) s)

  twice_of : (cs : List Call) (l : ℕ) (f : FrontNumber) (p : ℕ) (x : PublisherNumber) → ans cs (reply p x) ≡ replied (Ok (record { link = l; number = f }))
      → ans (cs ++ reply p x ∷ []) (reply p x) ≡ replied (Err NoSuchRequest)
  unfolding M.taken
  twice_of cs l f p x h =
      let m = at cs in
      let a : reply_answer m p x ≡ Ok (record { link = l; number = f }) = cc in
      let k = front-answer m p x l f a in
      let t = take-rows m p x k.0 in
      let q : model_after m (reply p x) ≡ M.remove m (Reply p x) = rw k.0 in
      let n = take_no (M.remove m (Reply p x)) p x t.0 t.1 (eq-eqb (length (matching (Reply p x) (without (Reply p x) m.requests))) 0 (none_left (Reply p x) m.requests)) in
      ap (λ (b : Model). replied (reply_answer b p x)) (at_snoc cs (reply p x) (M.empty first) ∙ q) ∙ ap replied n

  nowhere-of : (cs : List Call) (p : ℕ) (x : PublisherNumber) → p < 8 → (x.0 ≡ pos 0 → ⊥)
      → ((l : ℕ) (f : FrontNumber) (d : ℕ) → Carried ans cs (request l f p x d) → ⊥)
      → ans cs (reply p x) ≡ replied (Err NoSuchRequest)
  nowhere-of cs p x r n h = go (eqb (length (matching (Reply p x) (at cs).requests)) 0) refl
    where
      go : (y : Bool) → eqb (length (matching (Reply p x) (at cs).requests)) 0 ≡ y → ans cs (reply p x) ≡ replied (Err NoSuchRequest)
      go true e = ap replied (take_no (at cs) p x (lt-leb 8 p r) (ne_same x.0 (pos 0) n) e)
      go false e =
          let m = at cs in
          let z = answer-front m p x (take-zero m p x (lt-leb 8 p r) (ne_same x.0 (pos 0) n) e) in
          let c = delivered-of cs (matched m (Reply p x)).link (matched m (Reply p x)).front p x (ap replied z) in
          absurd (h (matched m (Reply p x)).link (matched m (Reply p x)).front c.0 c.1)

  -- the two asks at one place of the list are one
  same_place : (b : List Call) (e d : Request) (t u v w : ℕ) (r s : List Call)
      → b ++ ask_for e t u ∷ r ≡ b ++ ask_for d v w ∷ s
      → (e.link ≡ d.link) × (e.front ≡ d.front) × (t ≡ v) × (u ≡ w) × (r ≡ s)
  same_place [] e d t u v w r s h = ((cc), (cc), (cc), (cc), (cc))
  same_place (c ∷ b) e d t u v w r s h = same_place b e d t u v w r s (cc)

  overdue-of : (cs : List Call) (e : Request) (t u : ℕ) (b s : List Call) → cs ≡ b ++ ask_for e t u ∷ s
      → ans b (ask_for e t u) ≡ asked (Ok e.number) → e.deadline ≡ deadline_after ans b t u
      → freed_since ans e (b ++ ask_for e t u ∷ []) s ≡ true
      → stepped ans first e.publisher cs < stepped ans first e.publisher (b ++ ask_for e t u ∷ []) + round
      → ans cs (reply e.publisher e.number) ≡ replied (Err NoSuchRequest)
  overdue-of cs e t u b s q h due freed less =
      let p = e.publisher in
      let x = e.number in
      let r = ask-range b e.link e.front p t u x h in
      let g : Ranged x =
      subst Ranged (sym (numbered-at first ranged p r b e.link e.front t u x h))
      (steps-ranged (passed ans first p b (stepped ans first p b) + stepped ans first p b) first ranged) in
      nowhere-of cs p x r (λ z. false≢true (sym (not-zero x g) ∙ eq-same x.0 (pos 0) z)) (λ l f n c. none l f n c)
    where
      none : (l : ℕ) (f : FrontNumber) (n : ℕ) → Carried ans cs (request l f e.publisher e.number n) → ⊥
      none l f n c =
          let d : Request = request l f e.publisher e.number n in
          let v : ℕ = c.time in
          let w : ℕ = c.timeout in
          let k : b ≡ c.before = only_of cs d c e t u b s q h refl refl less in
          let place : b ++ ask_for e t u ∷ s ≡ b ++ ask_for d v w ∷ c.since =
          sym q ∙ c.place ∙ ap (λ (y : List Call). y ++ ask_for d v w ∷ c.since) (sym k) in
          let o = same_place b e d t u v w s c.since place in
          let n-is : e.deadline ≡ n =
          due
          ∙ ap (λ (z : List Call). deadline_after ans z t u) k
          ∙ ap (λ (z : ℕ). deadline_after ans c.before z u) o.2
          ∙ ap (λ (z : ℕ). deadline_after ans c.before v z) o.3
          ∙ sym c.deadline in
          let y : e ≡ d = is-request e l f e.publisher e.number n o.0 o.1 refl refl n-is in
          let stood : freed_since ans d (b ++ ask_for d v w ∷ []) c.since ≡ false =
          subst (λ (z : List Call). freed_since ans d (z ++ ask_for d v w ∷ []) c.since ≡ false) (sym k) c.standing in
          let m : freed_since ans e (b ++ ask_for e t u ∷ []) s ≡ freed_since ans d (b ++ ask_for d v w ∷ []) c.since =
          ap (λ (z : Request). freed_since ans z (b ++ ask_for z t u ∷ []) s) y
          ∙ ap (λ (z : ℕ). freed_since ans d (b ++ ask_for d z u ∷ []) s) o.2
          ∙ ap (λ (z : ℕ). freed_since ans d (b ++ ask_for d v z ∷ []) s) o.3
          ∙ ap (λ (z : List Call). freed_since ans d (b ++ ask_for d v w ∷ []) z) o.4 in
          false≢true (sym stood ∙ sym m ∙ freed)

  tells-of : (cs : List Call) (e : Request) → Carried ans cs e → (time : ℕ) (out : List ℤ)
      → told e (ans cs (run_out time out)) ≡ frees (latest_seen ans cs) e (run_out time out) (ans cs (run_out time out))
  tells-of cs e c time out =
      tells (at cs) e (carried-in cs e c) ((inv_at first ranged cs).front_once e.link e.front) time out
      ∙ ap (λ (s : ℕ). frees s e (run_out time out) (ans cs (run_out time out))) (seen_at first cs)

  of-model : (cs : List Call) → Delivery ans first cs
  of-model cs =
      record {
        delivered = delivered-of cs;
        carried = carried_of cs;
        one = one_of cs;
        only = only_of cs;
        twice = twice_of cs;
        nowhere = nowhere-of cs;
        overdue = overdue-of cs;
        numbered = λ e t u h.
            numbered-at first ranged e.publisher
            (ask-range cs e.link e.front e.publisher t u e.number h) cs e.link e.front t u e.number h;
        again = again-of cs;
        apart = λ e d v w c h pe ne. never-again cs e d v w (carried-in cs e c) h pe ne;
        tells = tells-of cs;
      }

-- ---- the table's answers

pub delivered : Delivered
delivered t z n a b cs =
    let first : PublisherNumber = record { 0 = pos n } in
    let r : Ranged first = record { at = n; is = refl; low = a; high = b } in
    let l = le-ltb n 1 a in
    let same-answers : table_answers t first ≡ model_answers first =
    fun_ext (λ before. fun_ext (λ c. heard-at before c (fresh_of t first).table (fresh-good t first z l r)
    ∙ ap (λ (m : Model). model_heard (model_at m before) c) (fresh-model t first z l))) in
    subst (λ (answers : Answers). Delivery answers first cs) (sym same-answers) (of-model first r cs)
