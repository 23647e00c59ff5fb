-- A whole record is within the bytes that it was read from, and its size is told.
-- Assumes nothing.
use mathlib.Core.Path.{◌≡◌, refl}
use mathlib.Core.Bool.{Bool, true, false, true≢false}
use mathlib.Core.List.{List, [], ◌∷◌}
use Prim.Native.Nat.{ℕ, suc, ◌≤◌}
use native.Mathlib.Omega.{arith}
use borrow.Author.Tests.{leb-false}
use lib.Dec.{eqb, leb}
use lib.ListN.{length, get_or}
use Rattle.wire.specs.Bytes.{le, part}
use Rattle.wire.specs.Choice.{first}
use Rattle.inflight.specs.declared.FrontNumber.{FrontNumber}
use Rattle.inflight.specs.declared.PublisherNumber.{PublisherNumber}
use Rattle.inflight.specs.declared.Peer.TheVariants as P
use Rattle.walk_turn.specs.declared.Event.TheVariants.{Ask, Reply, Cancel, Gone, AskBy, RunOut}
use Rattle.walk_turn.specs.declared.NoEvent.TheVariants.{End, Cut, Unknown}
use Rattle.walk_turn.specs.declared.NoEvent.{NoEvent}
use Rattle.walk_turn.specs.declared.Event.{Event}
use Rattle.std.specs.Prelude.{Some, None, Result, Ok, Err}
use Rattle.walk_events.specs.Events.{body_size, body_of, event_of, record_size, size_of, front_number, publisher_number}

-- the seven kinds, by their tests
kinds : (a b c d e g h : Bool) (l p : ℕ) (f : FrontNumber) (n : PublisherNumber) (t u v : ℕ)
    → eqb (first ((a, 10) ∷ (b, 9) ∷ (c, 9) ∷ (d, 1) ∷ (e, 1) ∷ (g, 22) ∷ (h, 8) ∷ []) 0) 0 ≡ false
    → record_size
    (Ok (first
    ((a, Ask l f p)
    ∷ (b, Reply l n)
    ∷ (c, Cancel l f)
    ∷ (d, Gone (P.Front l))
    ∷ (e, Gone (P.Publisher l))
    ∷ (g, AskBy l f p t u)
    ∷ [])
    (RunOut v)))
    ≡ suc (first ((a, 10) ∷ (b, 9) ∷ (c, 9) ∷ (d, 1) ∷ (e, 1) ∷ (g, 22) ∷ (h, 8) ∷ []) 0)
kinds true b c d e g h l p f n t u v q = refl
kinds false true c d e g h l p f n t u v q = refl
kinds false false true d e g h l p f n t u v q = refl
kinds false false false true e g h l p f n t u v q = refl
kinds false false false false true g h l p f n t u v q = refl
kinds false false false false false true h l p f n t u v q = refl
kinds false false false false false false true l p f n t u v q = refl
kinds false false false false false false false l p f n t u v q = absurd (true≢false q)

body-record : (kind : ℕ) (es : List ℕ) → eqb (body_size kind) 0 ≡ false → record_size (Ok (body_of kind es)) ≡ suc (body_size kind)
unfolding body_size body_of
body-record kind es h =
    kinds (eqb kind 1) (eqb kind 2) (eqb kind 3) (eqb kind 4) (eqb kind 5) (eqb kind 6) (eqb kind 7) (get_or es 1 0)
    (get_or es 10 0) (front_number es) (publisher_number es) (le (part es 11 8)) (le (part es 19 4)) (le (part es 1 8)) h

pub record-fits : (es : List ℕ) → record_size (event_of es) ≤ length es
unfolding event_of
record-fits es = go (eqb (length es) 0) (eqb (body_size (get_or es 0 0)) 0) (leb (length es) (body_size (get_or es 0 0))) refl refl
  where
    go : (a b c : Bool) → eqb (body_size (get_or es 0 0)) 0 ≡ b → leb (length es) (body_size (get_or es 0 0)) ≡ c
        → record_size (first ((a, Err End) ∷ (b, Err Unknown) ∷ (c, Err Cut) ∷ []) (Ok (body_of (get_or es 0 0) es))) ≤ length es
    go true b c p q = omega arith
    go false true c p q = omega arith
    go false false true p q = omega arith
    go false false false p q = omega (arith, body-record (get_or es 0 0) es p, leb-false (length es) (body_size (get_or es 0 0)) q)

-- a record that has a size has it, and some bytes
pub sized : {n : ℕ} (e : Result Event NoEvent) → Some n ≡ size_of e → n ≡ record_size e
sized (Ok e) h = cc
sized (Err why) h = absurd (cc)

pub some-bytes : {n : ℕ} (e : Result Event NoEvent) → Some n ≡ size_of e → n ≡ 0 → ⊥
some-bytes (Ok (Ask l n p)) h z = cc
some-bytes (Ok (Reply p n)) h z = cc
some-bytes (Ok (Cancel l n)) h z = cc
some-bytes (Ok (Gone peer)) h z = cc
some-bytes (Ok (AskBy l n p time timeout)) h z = cc
some-bytes (Ok (RunOut time)) h z = cc
some-bytes (Err why) h z = cc

-- where none has a size there is no record
pub unsized : (e : Result Event NoEvent) → None ≡ size_of e → record_size e ≡ 0
unsized (Ok e) h = absurd (cc)
unsized (Err why) h = refl
