-- The bounds of a walk.
-- Assumes nothing.
use mathlib.Core.Path.{◌≡◌, refl}
use Prim.Native.Nat.{ℕ, zero, suc, ◌-◌, ◌≤◌, ◌<◌}
use native.Mathlib.Omega.{arith}
use mathlib.Core.Bool.{Bool, true, false, true≢false}
use mathlib.Core.List.{List, [], ◌∷◌}
use borrow.Author.Tests.{le-ltb, ltb-false, eqb-false}
use lib.Dec.{eqb, ltb}
use lib.ListN.{length, drop, length-append}
use Rattle.inflight.specs.declared.Table.{Table}
use Rattle.walk_turn.specs.Turn.{lines_of, after_event}
use Rattle.walk_events.specs.Events.{event_of, record_size, waits}
use Rattle.walk.specs.Walk.{Outcome, after, walk_from, walk_of}
use Rattle.walk.proofs.WalkLaws.{lines-short}
use Rattle.walk_claims.specs.Bounds.{Bounds}
use Rattle.walk_claims.proofs.FullText.{positive}
use Rattle.walk_claims.proofs.Resume.{step_of, consumed-most}

step-written : (w z : Bool) (t : Table) (lines : List ℕ) (o : Outcome) (size room : ℕ) → length lines ≤ 4096 → length o.text ≤ room - length lines
    → length (step_of w (ltb room 4096) z t lines (after size lines o)).text ≤ room
unfolding after
step-written true z t lines o size room k h = omega arith
step-written false z t lines o size room k h = go (ltb room 4096) z refl
  where
    go : (f z : Bool) → ltb room 4096 ≡ f → length (step_of false f z t lines (after size lines o)).text ≤ room
    go true z q = omega arith
    go false true q = let l = ltb-false room 4096 q in omega (arith, l, k)
    go false false q = let l = ltb-false room 4096 q in omega (arith, length-append lines o.text, h, l, k)

written-most : (j : ℕ) (t : Table) (es : List ℕ) (room : ℕ) (last : Bool) → length (walk_from j t es room last).text ≤ room
unfolding walk_from
written-most zero t es room last = omega arith
written-most (suc j) t es room last =
    step-written (waits (event_of es) last) (eqb (record_size (event_of es)) 0) t (lines_of t (event_of es)) _ (record_size (event_of es)) room (lines-short t (event_of es))
    (written-most j (after_event t (event_of es)) (drop (record_size (event_of es)) es) (room - length (lines_of t (event_of es))) last)

step-moves : (w z : Bool) (t : Table) (lines : List ℕ) (o : Outcome) (size room : ℕ) → w ≡ false → 4096 ≤ room → (z ≡ false → 0 < size)
    → (step_of w (ltb room 4096) z t lines (after size lines o)).stopped ≡ false → 0 < (step_of w (ltb room 4096) z t lines (after size lines o)).consumed
unfolding after
step-moves true z t lines o size room w f p h = absurd (true≢false w)
step-moves false true t lines o size room w f p h = absurd (true≢false (rw (le-ltb room 4096 f) at h))
step-moves false false t lines o size room w f p h = rw (le-ltb room 4096 f) (omega (arith, p refl))

moves-at : (j : ℕ) (t : Table) (es : List ℕ) (room : ℕ) (last : Bool) → waits (event_of es) last ≡ false → 4096 ≤ room
    → (walk_from (suc j) t es room last).stopped ≡ false → 0 < (walk_from (suc j) t es room last).consumed
unfolding walk_from
moves-at j t es room last w f h =
    step-moves (waits (event_of es) last) (eqb (record_size (event_of es)) 0) t (lines_of t (event_of es)) _ (record_size (event_of es)) room w f
    (λ z. positive (record_size (event_of es)) (eqb-false _ _ z)) h

moves_from : (t : Table) (es : List ℕ) (room : ℕ) (last : Bool) → waits (event_of es) last ≡ false → 4096 ≤ room
    → (walk_from (length es) t es room last).stopped ≡ false → 0 < (walk_from (length es) t es room last).consumed
unfolding event_of
moves_from t [] room last w f h = absurd (true≢false w)
moves_from t (x ∷ xs) room last w f h = moves-at (length xs) t (x ∷ xs) room last w f h

pub bounds : (t : Table) (es : List ℕ) (room : ℕ) (last : Bool) → Bounds t es room last
unfolding walk_of
bounds t es room last =
    record {
      consumed = consumed-most (length es) t es room last;
      written = written-most (length es) t es room last;
      moves = moves_from t es room last;
    }
