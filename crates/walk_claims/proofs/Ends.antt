-- A caller that goes on calling comes to the end.
-- Assumes nothing.
use mathlib.Core.Path.{◌≡◌, refl, sym, ap, subst}
use Prim.Native.Nat.{ℕ, zero, suc, ◌+◌, ◌≤◌}
use native.Mathlib.Omega.{arith}
use mathlib.Core.Bool.{Bool, true, false, ◌||◌}
use mathlib.Core.List.{List, [], ◌∷◌, ◌++◌}
use borrow.Author.Tests.{eq-eqb}
use lib.Dec.{eqb, leb}
use lib.ListN.{length, drop, replicate, length-append, length-drop}
use Rattle.wire.specs.Choice.{pick}
use Rattle.walk_turn.specs.declared.Event.{Event}
use Rattle.walk_turn.specs.declared.NoEvent.{NoEvent}
use Rattle.std.specs.Prelude.{Result}
use Rattle.walk_events.specs.Events.{body_size, body_of, event_of, waits}
use Rattle.walk.specs.Walk.{Outcome, walk_of}
use Rattle.walk_claims.specs.ProgramText.{Fed, fed_next, feed, Piece, feed_all, finish, joined, over}
use Rattle.walk_claims.proofs.Bounds.{bounds}
use Rattle.walk_claims.proofs.SameEvent.{event-at}

-- of bytes that are the last, only their end waits
pick_goes : (b : Bool) (e d : Result Event NoEvent) → waits e true ≡ false → waits d true ≡ false → waits (pick b e d) true ≡ false
pick_goes true e d h k = h
pick_goes false e d h k = k

event-goes : (x : ℕ) (xs : List ℕ) → waits (event_of (x ∷ xs)) true ≡ false
event-goes x xs =
    rw (event-at x xs)
    (pick_goes (eqb (body_size x) 0) _ _ refl (pick_goes (leb (length (x ∷ xs)) (body_size x)) _ _ refl refl))

-- a walk that stopped stays
fed-stopped : (last : Bool) (s : Fed) (room : ℕ) → s.stopped ≡ true → feed last s [] room ≡ s
unfolding feed
fed-stopped last s room h = rw h

fed-goes : (last : Bool) (s : Fed) → s.stopped ≡ false → feed last s [] 4096 ≡ fed_next s (s.left ++ []) (walk_of s.table (s.left ++ []) 4096 last)
unfolding feed
fed-goes last s h = rw h

over-stopped : (s : Fed) → s.stopped ≡ true → over s ≡ true
over-stopped s h = rw h

finish-stopped : (s : Fed) (rooms : List ℕ) → s.stopped ≡ true → over (finish s rooms) ≡ true
unfolding finish
finish-stopped s [] h = over-stopped s h
finish-stopped s (room ∷ rooms) h = subst (λ (z : Fed). over (finish z rooms) ≡ true) (sym (fed-stopped _ s room h)) (finish-stopped s rooms h)

-- a call with bytes left, of which none waits for more, moves on, or the walk stops
module _ (last : Bool) (goes : (x : ℕ) (xs : List ℕ) → waits (event_of (x ∷ xs)) last ≡ false) where
  drain-step : (k : ℕ) (s : Fed) → length s.left ≤ suc k → ((z : Fed) → length z.left ≤ k → over (finish z (replicate k 4096)) ≡ true)
      → over (finish (feed last s [] 4096) (replicate k 4096)) ≡ true
  drain-step k s h again = go s.stopped refl
    where
      xs : List ℕ
      xs = s.left ++ []

      o : Outcome
      o = walk_of s.table xs 4096 last

      less : (ys : List ℕ) → xs ≡ ys → o.stopped ≡ false → length (drop o.consumed xs) ≤ k
      less [] e q = omega (arith, length-drop o.consumed xs, ap length e)
      less (y ∷ ys) e q =
          let m = (bounds s.table xs 4096 last).moves (rw e (goes y ys)) (omega arith) q in
          omega (arith, length-drop o.consumed xs, m, length-append s.left [], h)

      next : (b : Bool) → o.stopped ≡ b → over (finish (fed_next s xs o) (replicate k 4096)) ≡ true
      next true q = finish-stopped (fed_next s xs o) (replicate k 4096) q
      next false q = again (fed_next s xs o) (less xs refl q)

      go : (b : Bool) → s.stopped ≡ b → over (finish (feed last s [] 4096) (replicate k 4096)) ≡ true
      go true q =
          subst (λ (z : Fed). over (finish z (replicate k 4096)) ≡ true) (sym (fed-stopped last s 4096 q)) (finish-stopped s (replicate k 4096) q)
      go false q = subst (λ (z : Fed). over (finish z (replicate k 4096)) ≡ true) (sym (fed-goes last s q)) (next o.stopped refl)

or-true : (b : Bool) → b || true ≡ true
or-true true = refl
or-true false = refl

drain : (k : ℕ) (s : Fed) → length s.left ≤ k → over (finish s (replicate k 4096)) ≡ true
unfolding finish
drain zero s h = rw (eq-eqb (length s.left) 0 (omega arith)) (or-true s.stopped)
drain (suc k) s h = drain-step _ event-goes k s h (λ z l. drain k z l)

-- no call has more bytes left than it was given
feed-left : (s : Fed) (piece : List ℕ) (room : ℕ) → length (feed false s piece room).left ≤ length s.left + length piece
unfolding feed
feed-left s piece room = go s.stopped
  where
    xs : List ℕ
    xs = s.left ++ piece

    go : (b : Bool) → length (pick b s (fed_next s xs (walk_of s.table xs room false))).left ≤ length s.left + length piece
    go true = omega arith
    go false = omega (arith, length-drop (walk_of s.table xs room false).consumed xs, length-append s.left piece)

fed-left : (s : Fed) (ps : List Piece) → length (feed_all s ps).left ≤ length s.left + length (joined ps)
unfolding feed_all joined
fed-left s [] = omega arith
fed-left s (p ∷ ps) = omega (arith, fed-left (feed false s p.bytes p.room) ps, feed-left s p.bytes p.room, length-append p.bytes (joined ps))

pub comes-to-an-end : (s : Fed) (ps : List Piece) → s.left ≡ [] → over (finish (feed_all s ps) (replicate (length (joined ps)) 4096)) ≡ true
comes-to-an-end s ps h = drain (length (joined ps)) (feed_all s ps) (omega (arith, fed-left s ps, ap length h))
