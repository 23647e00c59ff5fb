-- A walk over the first bytes, with any room, and then the rest: together the full text.
-- Assumes nothing.
use mathlib.Core.Path.{◌≡◌, refl, sym, ap, ◌∙◌}
use Prim.Native.Nat.{ℕ, zero, suc, ◌+◌, ◌-◌, ◌≤◌}
use native.Mathlib.Omega.{arith}
use mathlib.Core.Bool.{Bool, true, false}
use mathlib.Core.List.{List, [], ◌++◌, append_assoc}
use lib.Dec.{eqb, ltb}
use lib.ListN.{length, drop, length-append, length-drop}
use lib.Seq.{drop-append-le, drop-drop}
use Rattle.wire.specs.Choice.{pick}
use Rattle.inflight.specs.declared.Table.{Table}
use Rattle.walk_turn.specs.Turn.{lines_of, after_event}
use Rattle.walk_turn.specs.declared.Event.{Event}
use Rattle.walk_turn.specs.declared.Event.TheVariants.{Ask, Reply, Cancel, Gone, AskBy, RunOut}
use Rattle.walk_turn.specs.declared.NoEvent.{NoEvent}
use Rattle.walk_turn.specs.declared.NoEvent.TheVariants.{End, Cut, Unknown}
use Rattle.std.specs.Prelude.{Result, Ok, Err}
use Rattle.walk_events.specs.Events.{event_of, record_size, waits}
use Rattle.walk.specs.Walk.{Outcome, ends, after, walk_from}
use Rattle.walk_events.proofs.EventLaws.{record-fits}
use Rattle.walk_claims.proofs.FullText.{full_from, full-fuel}
use Rattle.walk_claims.proofs.SameEvent.{same-event}

-- the full text from a table on
abbrev pub full : Table → List ℕ → List ℕ
full t es = full_from (length es) t es

-- the text of a walk over some bytes, and of what is left of them
abbrev pub with_rest : Outcome → List ℕ → List ℕ
with_rest o es = o.text ++ pick o.stopped [] (full o.table (drop o.consumed es))

abbrev pub step_of : Bool → Bool → Bool → Table → List ℕ → Outcome → Outcome
step_of w f z t lines on = pick w (ends t [] false) (pick f (ends t [] false) (pick z (ends t lines true) on))

step_is : (j : ℕ) (t : Table) (es : List ℕ) (room : ℕ) (last : Bool)
    → walk_from (suc j) t es room last
    ≡ step_of (waits (event_of es) last) (ltb room 4096) (eqb (record_size (event_of es)) 0) t (lines_of t (event_of es))
    (after (record_size (event_of es)) (lines_of t (event_of es))
    (walk_from j (after_event t (event_of es)) (drop (record_size (event_of es)) es) (room - length (lines_of t (event_of es))) last))
unfolding walk_from
step_is j t es room last = refl

-- what does not wait for more bytes does not wait at the end
no-wait : (e : Result Event NoEvent) (last : Bool) → waits e last ≡ false → waits e true ≡ false
no-wait (Ok e) last h = refl
no-wait (Err End) last h = h
no-wait (Err Cut) last h = refl
no-wait (Err Unknown) last h = refl

module _ (t : Table) (es more : List ℕ) (last : Bool) (k : ℕ) (m : last ≡ true → more ≡ []) (fuel : length (es ++ more) ≤ k) where
  -- nothing is done
  stay : full_from k t (es ++ more) ≡ with_rest (ends t [] false) (es ++ more)
  stay = full-fuel k (length (es ++ more)) t (es ++ more) fuel (omega arith)

  module _ (w : waits (event_of es) last ≡ false) where
    first-event : full_from k t (es ++ more)
        ≡ lines_of t (event_of es) ++ pick (eqb (record_size (event_of es)) 0) [] (full_from k (after_event t (event_of es)) (drop (record_size (event_of es)) (es ++ more)))
    unfolding full_from
    first-event = full-fuel k (suc k) t (es ++ more) fuel (omega arith) ∙ rw (same-event es more last m w, no-wait (event_of es) last w)

    stops : eqb (record_size (event_of es)) 0 ≡ true → full_from k t (es ++ more) ≡ with_rest (ends t (lines_of t (event_of es)) true) (es ++ more)
    stops z = first-event ∙ rw z

    goes : (o : Outcome) → eqb (record_size (event_of es)) 0 ≡ false
        → full_from k (after_event t (event_of es)) (drop (record_size (event_of es)) es ++ more) ≡ with_rest o (drop (record_size (event_of es)) es ++ more)
        → full_from k t (es ++ more) ≡ with_rest (after (record_size (event_of es)) (lines_of t (event_of es)) o) (es ++ more)
    unfolding after
    goes o z h =
        let a : List ℕ = lines_of t (event_of es) in
        let n : ℕ = record_size (event_of es) in
        let d : drop n (es ++ more) ≡ drop n es ++ more = drop-append-le n es more (record-fits es) in
        let r : drop (n + o.consumed) (es ++ more) ≡ drop o.consumed (drop n es ++ more) = sym (drop-drop o.consumed n (es ++ more)) ∙ ap (drop o.consumed) d in
        first-event
        ∙ rw (z, d, h) refl
        ∙ sym (append_assoc a o.text (pick o.stopped [] (full o.table (drop o.consumed (drop n es ++ more)))))
        ∙ ap (λ (x : List ℕ). (a ++ o.text) ++ pick o.stopped [] (full o.table x)) (sym r)

pub resume : (j : ℕ) (t : Table) (es more : List ℕ) (room : ℕ) (last : Bool) (k : ℕ) → (last ≡ true → more ≡ []) → length (es ++ more) ≤ k
    → full_from k t (es ++ more) ≡ with_rest (walk_from j t es room last) (es ++ more)
unfolding walk_from
resume zero t es more room last k m fuel = stay t es more last k m fuel
resume (suc j) t es more room last k m fuel =
    go (waits (event_of es) last) (ltb room 4096) (eqb (record_size (event_of es)) 0) refl refl
    (λ z. resume j (after_event t (event_of es)) (drop (record_size (event_of es)) es) more (room - length (lines_of t (event_of es))) last k m
    (omega (arith, length-append (drop (record_size (event_of es)) es) more, length-append es more, length-drop (record_size (event_of es)) es)))
  where
    on : Outcome
    on = walk_from j (after_event t (event_of es)) (drop (record_size (event_of es)) es) (room - length (lines_of t (event_of es))) last

    go : (w f z : Bool) → waits (event_of es) last ≡ w → eqb (record_size (event_of es)) 0 ≡ z
        → (Unit {0} → full_from k (after_event t (event_of es)) (drop (record_size (event_of es)) es ++ more) ≡ with_rest on (drop (record_size (event_of es)) es ++ more))
        → full_from k t (es ++ more) ≡ with_rest (step_of w f z t (lines_of t (event_of es)) (after (record_size (event_of es)) (lines_of t (event_of es)) on)) (es ++ more)
    go true f z p q h = stay t es more last k m fuel
    go false true z p q h = stay t es more last k m fuel
    go false false true p q h = stops t es more last k m fuel p q
    go false false false p q h = goes t es more last k m fuel p on q (h tt)

-- no more is consumed than there is
step-most : (w f z : Bool) (t : Table) (lines : List ℕ) (o : Outcome) (most : ℕ) → o.consumed ≤ most → (step_of w f z t lines o).consumed ≤ most
step-most true f z t lines o most h = omega arith
step-most false true z t lines o most h = omega arith
step-most false false true t lines o most h = omega arith
step-most false false false t lines o most h = h

pub consumed-most : (j : ℕ) (t : Table) (es : List ℕ) (room : ℕ) (last : Bool) → (walk_from j t es room last).consumed ≤ length es
unfolding walk_from after
consumed-most zero t es room last = omega arith
consumed-most (suc j) t es room last =
    step-most (waits (event_of es) last) (ltb room 4096) (eqb (record_size (event_of es)) 0) t (lines_of t (event_of es)) _ (length es)
    (omega (
      arith,
      record-fits es,
      length-drop (record_size (event_of es)) es,
      consumed-most j (after_event t (event_of es)) (drop (record_size (event_of es)) es) (room - length (lines_of t (event_of es))) last,
    ))
