-- An event that stands whole in some bytes, or is of an unknown kind, stands the same at the front of more bytes.
-- Assumes nothing.
use mathlib.Core.Path.{◌≡◌, refl, sym, ap, ◌∙◌}
use Prim.Native.Nat.{ℕ, ◌+◌, ◌≤◌, ◌<◌}
use native.Mathlib.Omega.{arith}
use mathlib.Core.Bool.{Bool, true, false, true≢false}
use mathlib.Core.List.{List, [], ◌∷◌, ◌++◌, append-nil}
use borrow.Author.Tests.{lt-leb, leb-false, ne_eqb}
use lib.Dec.{eqb, leb}
use lib.ListN.{length, get_or, drop, length-append, length-drop, get_or-append}
use lib.Seq.{take-append-le, drop-append-le}
use Rattle.wire.specs.Bytes.{le, part}
use Rattle.wire.specs.Choice.{first}
use Rattle.inflight.specs.declared.Peer.TheVariants as P
use Rattle.walk_turn.specs.declared.Event.TheVariants.{Ask, Reply, Cancel, Gone, AskBy, RunOut}
use Rattle.walk_turn.specs.declared.NoEvent.TheVariants.{Cut, Unknown}
use Rattle.std.specs.Prelude.{Ok, Err}
use Rattle.walk_events.specs.Events.{body_size, body_of, event_of, front_number, publisher_number, waits}

module _ (es more : List ℕ) where
  same_byte : (i : ℕ) → i < length es → get_or (es ++ more) i 0 ≡ get_or es i 0
  same_byte i h = get_or-append es more 0 i h

  same-part : (at k : ℕ) → at + k ≤ length es → part (es ++ more) at k ≡ part es at k
  same-part at k h =
      rw (drop-append-le at es more (omega arith)) (take-append-le k (drop at es) more (rw length-drop (omega arith)))

  same-front : 10 ≤ length es → front_number (es ++ more) ≡ front_number es
  unfolding front_number
  same-front h = rw (same-part 2 8 h)

  same_number : 10 ≤ length es → publisher_number (es ++ more) ≡ publisher_number es
  unfolding publisher_number
  same_number h = rw (same-part 2 8 h)

  kinds-same : (a b c d e f g : Bool) → eqb (first ((a, 10) ∷ (b, 9) ∷ (c, 9) ∷ (d, 1) ∷ (e, 1) ∷ (f, 22) ∷ (g, 8) ∷ []) 0) 0 ≡ false
      → first ((a, 10) ∷ (b, 9) ∷ (c, 9) ∷ (d, 1) ∷ (e, 1) ∷ (f, 22) ∷ (g, 8) ∷ []) 0 < length es
      → first
      ((a, Ask (get_or (es ++ more) 1 0) (front_number (es ++ more)) (get_or (es ++ more) 10 0))
      ∷ (b, Reply (get_or (es ++ more) 1 0) (publisher_number (es ++ more)))
      ∷ (c, Cancel (get_or (es ++ more) 1 0) (front_number (es ++ more)))
      ∷ (d, Gone (P.Front (get_or (es ++ more) 1 0)))
      ∷ (e, Gone (P.Publisher (get_or (es ++ more) 1 0)))
      ∷ (f, AskBy (get_or (es ++ more) 1 0) (front_number (es ++ more)) (get_or (es ++ more) 10 0) (le (part (es ++ more) 11 8)) (le (part (es ++ more) 19 4)))
      ∷ [])
      (RunOut (le (part (es ++ more) 1 8)))
      ≡ first
      ((a, Ask (get_or es 1 0) (front_number es) (get_or es 10 0))
      ∷ (b, Reply (get_or es 1 0) (publisher_number es))
      ∷ (c, Cancel (get_or es 1 0) (front_number es))
      ∷ (d, Gone (P.Front (get_or es 1 0)))
      ∷ (e, Gone (P.Publisher (get_or es 1 0)))
      ∷ (f, AskBy (get_or es 1 0) (front_number es) (get_or es 10 0) (le (part es 11 8)) (le (part es 19 4)))
      ∷ [])
      (RunOut (le (part es 1 8)))
  kinds-same true b c d e f g z h = rw (same_byte 1 (omega arith), same-front (omega arith), same_byte 10 (omega arith))
  kinds-same false true c d e f g z h = rw (same_byte 1 (omega arith), same_number (omega arith))
  kinds-same false false true d e f g z h = rw (same_byte 1 (omega arith), same-front (omega arith))
  kinds-same false false false true e f g z h = rw (same_byte 1 (omega arith))
  kinds-same false false false false true f g z h = rw (same_byte 1 (omega arith))
  kinds-same false false false false false true g z h =
      rw (
        same_byte 1 (omega arith),
        same-front (omega arith),
        same_byte 10 (omega arith),
        same-part 11 8 (omega arith),
        same-part 19 4 (omega arith),
      )
  kinds-same false false false false false false true z h = rw (same-part 1 8 (omega arith))
  kinds-same false false false false false false false z h = absurd (true≢false z)

  body_same : (kind : ℕ) → eqb (body_size kind) 0 ≡ false → body_size kind < length es → body_of kind (es ++ more) ≡ body_of kind es
  unfolding body_size body_of
  body_same kind z h =
      kinds-same (eqb kind 1) (eqb kind 2) (eqb kind 3) (eqb kind 4) (eqb kind 5) (eqb kind 6) (eqb kind 7) z h

-- the event at the front of some bytes, of which there is one at least
pub event-at : (x : ℕ) (xs : List ℕ) → event_of (x ∷ xs) ≡ first ((eqb (body_size x) 0, Err Unknown) ∷ (leb (length (x ∷ xs)) (body_size x), Err Cut) ∷ []) (Ok (body_of x (x ∷ xs)))
unfolding event_of
event-at x xs = rw (ne_eqb (length (x ∷ xs)) 0 (λ q. omega arith))

event-more : (es more : List ℕ) → waits (event_of es) false ≡ false → event_of (es ++ more) ≡ event_of es
unfolding event_of
event-more [] more h = absurd (true≢false h)
event-more (x ∷ xs) more h = event-at x (xs ++ more) ∙ go (eqb (body_size x) 0) (leb (length (x ∷ xs)) (body_size x)) refl refl (rw (event-at x xs) at h) ∙ sym (event-at x xs)
  where
    go : (a b : Bool) → eqb (body_size x) 0 ≡ a → leb (length (x ∷ xs)) (body_size x) ≡ b
        → waits (first ((a, Err Unknown) ∷ (b, Err Cut) ∷ []) (Ok (body_of x (x ∷ xs)))) false ≡ false
        → first ((a, Err Unknown) ∷ (leb (length (x ∷ (xs ++ more))) (body_size x), Err Cut) ∷ []) (Ok (body_of x (x ∷ (xs ++ more))))
        ≡ first ((a, Err Unknown) ∷ (b, Err Cut) ∷ []) (Ok (body_of x (x ∷ xs)))
    go true b p q w = refl
    go false true p q w = absurd (true≢false w)
    go false false p q w =
        let l = leb-false (length (x ∷ xs)) (body_size x) q in
        rw (lt-leb (length (x ∷ (xs ++ more))) (body_size x) (omega (arith, length-append (x ∷ xs) more))) (ap Ok (body_same (x ∷ xs) more x p (omega arith)))

-- the same, where nothing follows the last bytes
pub same-event : (es more : List ℕ) (last : Bool) → (last ≡ true → more ≡ []) → waits (event_of es) last ≡ false → event_of (es ++ more) ≡ event_of es
same-event es more true m h = ap (λ (x : List ℕ). event_of (es ++ x)) (m refl) ∙ ap event_of (append-nil es)
same-event es more false m h = event-more es more h
