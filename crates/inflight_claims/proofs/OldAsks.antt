-- An ask with time 0 and timeout 0 is an ask as it was.
-- Assumes nothing.
use mathlib.Core.Path.{◌≡◌, refl, sym, ap, ◌∙◌}
use Prim.Native.Nat.{ℕ, ◌<◌}
use native.Mathlib.Omega.{arith}
use mathlib.Core.Bool.{Bool, true, false}
use mathlib.Core.List.{List}
use lib.Dec.{leb}
use lib.ListN.{get_or, set}
use lib.Seq.{get_or-set_other, set-get_or}
use borrow.Author.Tests.{leb-false}
use Rattle.inflight.specs.Masks.{lowest_free}
use Rattle.inflight.specs.Tables.{used, latest_of, timed_of, check_ask_of, ask_of}
use Rattle.inflight.specs.declared.Table.{Table}
use Rattle.inflight.specs.declared.FrontNumber.{FrontNumber}
use Rattle.inflight_claims.specs.OldAsks.{old_ask_of, OldAsk, OldAsks}
use Rattle.inflight_claims.specs.OldAsks as O
use Rattle.std.specs.Prelude.{Result, Ok, Err, ⊤}
use Rattle.refusal.specs.declared.Refusal.{Refusal}

-- time 0 is never out of range
refusal-as-before : (t : Table) (l : ℕ) (n : FrontNumber) (p : ℕ)
    → check_ask_of t l n p 0
    ≡ O.check_ask_of t l n p
unfolding check_ask_of O.check_ask_of
refusal-as-before t l n p = refl

-- a request without a timeout leaves its slot's deadline at none, and the latest time as it was
times-as-before : (ts : List ℕ) (s : ℕ) → s < 64 → get_or ts 64 0 < 4611686018427387904 → timed_of ts s 0 0 ≡ set ts s 0
unfolding timed_of
times-as-before ts s h seen =
    let e : latest_of ts 0 ≡ get_or (set ts s 0) 64 0 =
    (let a : latest_of ts 0 ≡ get_or ts 64 0 = omega (arith, seen) in a) ∙ sym (get_or-set_other ts s 64 0 0 (λ q. omega arith)) in
    ap (λ (x : ℕ). set (set ts s 0) 64 x) e ∙ set-get_or (set ts s 0) 64 0

pub old-asks : OldAsks
unfolding ask_of old_ask_of
old-asks t l n p = go (O.check_ask_of t l n p) refl (leb 64 s) refl
  where
    s : ℕ
    s = lowest_free (used t)

    go : (x : Result ⊤ Refusal) → O.check_ask_of t l n p ≡ x → (y : Bool) → leb 64 s ≡ y
        → OldAsk t l n p
    go (Err x) e y d =
        let r = refusal-as-before t l n p in
        record {
          answer = rw (r, e);
          masks = rw (r, e);
          numbers = rw (r, e);
          places = rw (r, e);
          order = rw (r, e);
          times = λ seen. rw (r, e);
        }
    go (Ok x) e true d =
        let r = refusal-as-before t l n p in
        record {
          answer = rw (r, e, d);
          masks = rw (r, e, d);
          numbers = rw (r, e, d);
          places = rw (r, e, d);
          order = rw (r, e, d);
          times = λ seen. rw (r, e, d);
        }
    go (Ok x) e false d =
        let r = refusal-as-before t l n p in
        record {
          answer = rw (r, e, d);
          masks = rw (r, e, d);
          numbers = rw (r, e, d);
          places = rw (r, e, d);
          order = rw (r, e, d);
          times = λ seen. rw (r, e, d) (times-as-before t.times s (leb-false 64 s d) seen);
        }
