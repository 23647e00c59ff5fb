-- What stands at the front of some bytes: each return is a row of the definition. Assumes nothing.
use Rattle.std.proofs.Common.{◌≡◌, ◌<◌, ◌≤◌, ◌∙◌, ap, refl, ℕ, List, [], ◌∷◌, length, get_or, slice_get, Some, None, Ok, Err, arith}
use borrow.Author.Tests.{eq-eqb, ne_eqb, le-leb, lt-leb}
use Rattle.refusal.proofs.Passing.{passed}
use Rattle.walk_turn.specs.declared.NoEvent.TheVariants.{End, Cut, Unknown}
use Rattle.walk_events.specs.Events.{body_size, body_of, event_of}
use Rattle.walk_events.specs.Kinds.{number}
use Rattle.walk_events.specs.declared.kind.Kind.{Kind}
use Rattle.walk_events.specs.declared.kind.Kind.TheVariants.{Ask, Reply, Cancel, Closed, Lost, AskBy, RunOut}
use Rattle.walk_events.proofs.events.event.Goals as goal

-- each of the seven kinds has a body
has_body : (k : Kind) → body_size (number k) ≡ 0 → ⊥
unfolding body_size
has_body Ask z = cc
has_body Reply z = cc
has_body Cancel z = cc
has_body Closed z = cc
has_body Lost z = cc
has_body AskBy z = cc
has_body RunOut z = cc

at_end : (s : List ℕ) → None ≡ slice_get s 0 → Err End ≡ event_of s
unfolding event_of
at_end [] h = refl
at_end (x ∷ s) h = absurd (cc)

module _ (s : List ℕ) (x : ℕ) (h : Some x ≡ slice_get s 0) where
  is_first : (t : List ℕ) → Some x ≡ slice_get t 0 → get_or t 0 0 ≡ x
  is_first [] e = absurd (cc)
  is_first (y ∷ t) e = cc

  is_some : (t : List ℕ) → Some x ≡ slice_get t 0 → length t ≡ 0 → ⊥
  is_some [] e z = cc
  is_some (y ∷ t) e z = omega arith

  unknown : body_size x ≡ 0 → Err Unknown ≡ event_of s
  unfolding event_of
  unknown z = simp (ne_eqb _ _ (is_some s h), is_first s h, eq-eqb _ _ z)

  cut : (body_size x ≡ 0 → ⊥) → length s ≤ body_size x → Err Cut ≡ event_of s
  unfolding event_of
  cut z l = simp (ne_eqb _ _ (is_some s h), is_first s h, ne_eqb _ _ z, le-leb _ _ l)

  whole : (body_size x ≡ 0 → ⊥) → body_size x < length s → Ok (body_of x s) ≡ event_of s
  unfolding event_of
  whole z l = simp (ne_eqb _ _ (is_some s h), is_first s h, ne_eqb _ _ z, lt-leb _ _ l)

pub returns-in_default : goal.returns-in_default
returns-in_default c = at_end c.args.s.now c.in_default.ensures.value

pub returns-in_err-kind : goal.returns-in_err-kind
returns-in_err-kind c =
    let p = passed c.from_residual.result _ c.from_residual.ensures.1 in
    let h : Some c.in-Some.field-0.now ≡ slice_get c.args.s.now 0 = c.in-Some.ensures.value in
    p ∙ ap Err c.in_err-kind.ensures.0 ∙ unknown c.args.s.now c.in-Some.field-0.now h c.in_err-kind.ensures.1

pub returns-then-s-body_size : goal.returns-then-s-body_size
returns-then-s-body_size c =
    let k = c.in_ok-kind.kind in
    let n : number k ≡ c.in-Some.field-0.now = c.in_ok-kind.ensures in
    let size = c.body_size.ensures ∙ ap body_size n in
    cut c.args.s.now c.in-Some.field-0.now c.in-Some.ensures.value (λ z. has_body k (ap body_size n ∙ z))
    (rw size at c.if-s-body_size.true)

pub returns : goal.returns
returns c =
    let k = c.in_ok-kind.kind in
    let n : number k ≡ c.in-Some.field-0.now = c.in_ok-kind.ensures in
    let size = c.body_size.ensures ∙ ap body_size n in
    ap Ok (c.event.ensures ∙ ap (λ (x : ℕ). body_of x c.args.s.now) n)
    ∙ whole c.args.s.now c.in-Some.field-0.now c.in-Some.ensures.value (λ z. has_body k (ap body_size n ∙ z))
    (rw size at c.if-s-body_size.false)
