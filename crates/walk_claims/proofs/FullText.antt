-- The text of a walk with no bound on its room, on a table; it is the table's run rendered, and the walk with room enough gives it.
-- Assumes nothing.
use mathlib.Core.Path.{◌≡◌, refl, sym, ap}
use Prim.Native.Nat.{ℕ, zero, suc, ◌+◌, ◌-◌, ◌≤◌, ◌<◌}
use native.Mathlib.Omega.{arith}
use mathlib.Core.Bool.{Bool, true, false}
use mathlib.Core.List.{List, [], ◌∷◌, ◌++◌, append-nil, append_assoc}
use borrow.Author.Tests.{le-ltb, eqb-false}
use lib.Dec.{eqb, ltb}
use lib.ListN.{length, drop, length-append, length-drop}
use Rattle.wire.specs.Choice.{pick}
use Rattle.inflight.specs.Calls.{Call, table_run}
use Rattle.inflight.specs.declared.Table.{Table}
use Rattle.walk_turn.specs.Lines.{refused_line}
use Rattle.walk_turn.specs.Turn.{lines_of, after_event}
use Rattle.walk_turn.specs.declared.Event.{Event}
use Rattle.walk_turn.specs.declared.Event.TheVariants.{Ask, Reply, Cancel, Gone, AskBy, RunOut}
use Rattle.walk_turn.specs.declared.NoEvent.{NoEvent}
use Rattle.walk_turn.specs.declared.NoEvent.TheVariants.{End, Cut, Unknown}
use Rattle.std.specs.Prelude.{Result, Ok, Err}
use Rattle.walk_events.specs.Events.{event_of, record_size, waits}
use Rattle.walk.specs.Walk.{Outcome, ends, after, walk_from}
use Rattle.walk_claims.specs.ProgramText.{call_before, calls_from, fault_before, fault_from, rendered}

-- ---- the full text

abbrev full_at : Table → Result Event NoEvent → List ℕ → List ℕ
full_at t e rest = pick (waits e true) [] (lines_of t e ++ pick (eqb (record_size e) 0) [] rest)

unfoldable pub full_from : ℕ → Table → List ℕ → List ℕ
full_from zero t es = []
full_from (suc k) t es = full_at t (event_of es) (full_from k (after_event t (event_of es)) (drop (record_size (event_of es)) es))

-- ---- it is the table's run, rendered

unfoldable pub told : List Call → Bool → Table → List ℕ
told cs fault t = rendered cs (table_run t cs) ++ pick fault (refused_line 35) []

full-is-at : (t : Table) (e : Result Event NoEvent) (cs : List Call) (fault : Bool) (rest : List ℕ)
    → rest ≡ told cs fault (after_event t e) → full_at t e rest ≡ told (call_before e cs) (fault_before e fault) t
unfolding told rendered table_run lines_of after_event
full-is-at t (Ok (Ask l n p)) cs fault rest h = rw (h, append_assoc)
full-is-at t (Ok (Reply p n)) cs fault rest h = rw (h, append_assoc)
full-is-at t (Ok (Cancel l n)) cs fault rest h = rw (h, append_assoc)
full-is-at t (Ok (Gone peer)) cs fault rest h = rw (h, append_assoc)
full-is-at t (Ok (AskBy l n p time timeout)) cs fault rest h = rw (h, append_assoc)
full-is-at t (Ok (RunOut time)) cs fault rest h = rw (h, append_assoc)
full-is-at t (Err End) cs fault rest h = refl
full-is-at t (Err Cut) cs fault rest h = append-nil (refused_line 35)
full-is-at t (Err Unknown) cs fault rest h = append-nil (refused_line 35)

zero_is : (t : Table) → [] ≡ told [] false t
unfolding told rendered
zero_is t = refl

pub full_is : (k : ℕ) (t : Table) (es : List ℕ) → full_from k t es ≡ told (calls_from k es) (fault_from k es) t
unfolding full_from calls_from fault_from
full_is zero t es = zero_is t
full_is (suc k) t es = full-is-at t (event_of es) (calls_from k (drop (record_size (event_of es)) es)) (fault_from k (drop (record_size (event_of es)) es)) _ (full_is k (after_event t (event_of es)) (drop (record_size (event_of es)) es))

-- ---- as many turns as bytes are enough

pub positive : (n : ℕ) → (n ≡ 0 → ⊥) → 0 < n
positive zero h = absurd (h refl)
positive (suc n) h = omega arith

pub shorter : (es : List ℕ) (k : ℕ) → (record_size (event_of es) ≡ 0 → ⊥) → length es ≤ suc k → length (drop (record_size (event_of es)) es) ≤ k
shorter es k z h = rw length-drop (omega (arith, positive (record_size (event_of es)) z))

at_rest : (t : Table) (e : Result Event NoEvent) (r s : List ℕ) → ((record_size e ≡ 0 → ⊥) → r ≡ s) → full_at t e r ≡ full_at t e s
at_rest t e r s h = go (eqb (record_size e) 0) refl
  where
    go : (b : Bool) → eqb (record_size e) 0 ≡ b → pick (waits e true) [] (lines_of t e ++ pick b [] r) ≡ pick (waits e true) [] (lines_of t e ++ pick b [] s)
    go true q = refl
    go false q = ap (λ (x : List ℕ). pick (waits e true) [] (lines_of t e ++ x)) (h (eqb-false _ _ q))

full-none : (k : ℕ) (t : Table) → full_from k t [] ≡ []
unfolding full_from event_of
full-none zero t = refl
full-none (suc k) t = refl

pub full-fuel : (k j : ℕ) (t : Table) (es : List ℕ) → length es ≤ k → length es ≤ j → full_from k t es ≡ full_from j t es
unfolding full_from
full-fuel zero j t [] h g = sym (full-none j t)
full-fuel zero j t (x ∷ es) h g = absurd (omega arith)
full-fuel (suc k) zero t [] h g = full-none (suc k) t
full-fuel (suc k) zero t (x ∷ es) h g = absurd (omega arith)
full-fuel (suc k) (suc j) t es h g =
    at_rest t (event_of es) _ _
    (λ z. full-fuel k j (after_event t (event_of es)) (drop (record_size (event_of es)) es) (shorter es k z h) (shorter es j z g))

-- ---- with room enough the walk gives it

enough-at : (w z : Bool) (t : Table) (lines rest : List ℕ) (o : Outcome) (size room : ℕ) → length (pick w [] (lines ++ pick z [] rest)) + 4096 ≤ room
    → (length rest + 4096 ≤ room - length lines → o.text ≡ rest)
    → (pick w (ends t [] false) (pick (ltb room 4096) (ends t [] false) (pick z (ends t lines true) (after size lines o)))).text ≡ pick w [] (lines ++ pick z [] rest)
unfolding after
enough-at true z t lines rest o size room h g = refl
enough-at false true t lines rest o size room h g =
    rw (le-ltb room 4096 (omega arith)) (sym (append-nil lines))
enough-at false false t lines rest o size room h g =
    rw (le-ltb room 4096 (omega arith)) (ap (λ (x : List ℕ). lines ++ x) (g (omega (arith, length-append lines rest))))

pub enough : (k : ℕ) (t : Table) (es : List ℕ) (room : ℕ) → length (full_from k t es) + 4096 ≤ room → (walk_from k t es room true).text ≡ full_from k t es
unfolding full_from walk_from
enough zero t es room h = refl
enough (suc k) t es room h =
    enough-at (waits (event_of es) true) (eqb (record_size (event_of es)) 0) t (lines_of t (event_of es)) _ _ (record_size (event_of es)) room h
    (enough k (after_event t (event_of es)) (drop (record_size (event_of es)) es) (room - length (lines_of t (event_of es))))
