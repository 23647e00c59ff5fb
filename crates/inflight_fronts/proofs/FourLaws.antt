-- Four slots at a time: where none has the number, and what a search goes on from.
-- Assumes nothing.
use mathlib.Core.Path.{◌≡◌, refl, sym, subst}
use Prim.Native.Nat.{ℕ, ◌+◌, ◌/◌, ◌%◌, ◌<◌}
use native.Mathlib.Omega.{arith}
use mathlib.Core.Bool.{Bool, true, false, not, ◌&&◌, ◌||◌, false≢true}
use mathlib.Core.List.{List}
use lib.Dec.{eqb}
use lib.IntN.{ℤ, pos}
use lib.ListN.{get_or}
use Rattle.wire.specs.Choice.{pick}
use Rattle.inflight.specs.Numbers.{same}
use Rattle.inflight.specs.Tables.{is_front}
use Rattle.inflight.specs.declared.FrontNumber.{FrontNumber}
use Rattle.inflight.proofs.MaskLaws.{Onward, onward-hit, onward-pass}
use Rattle.inflight_fronts.specs.Four.{none_of, first_of_four}

-- ---- none of four numbers

none : (a b c d : Bool) → not (((a || b) || c) || d) ≡ true → (a ≡ false) × (b ≡ false) × (c ≡ false) × (d ≡ false)
none false false false false e = (refl, refl, refl, refl)
none false false false true e = absurd (false≢true e)
none false false true d e = absurd (false≢true e)
none false true c d e = absurd (false≢true e)
none true b c d e = absurd (false≢true e)

-- three tests of which the last fails
off : (x y z : Bool) → z ≡ false → (x && (y && z)) ≡ false
off true true z e = e
off true false z e = refl
off false y z e = refl

pub four-none : (ns : List ℤ) (ps : List ℕ) (l : ℕ) (n : FrontNumber) (m i : ℕ) → none_of ns n i ≡ true
    → 64 ≡ first_of_four (is_front ns ps l n) m i
four-none ns ps l n m i e =
    let q = none (same (get_or ns i (pos 0)) n.0) (same (get_or ns (i + 1) (pos 0)) n.0)
    (same (get_or ns (i + 2) (pos 0)) n.0) (same (get_or ns (i + 3) (pos 0)) n.0) e in
    rw (
      off (eqb (m % 2) 1) (eqb (get_or ps i 0) l) _ q.0,
      off (eqb (m / 2 % 2) 1) (eqb (get_or ps (i + 1) 0) l) _ q.1,
      off (eqb (m / 4 % 2) 1) (eqb (get_or ps (i + 2) 0) l) _ q.2,
      off (eqb (m / 8 % 2) 1) (eqb (get_or ps (i + 3) 0) l) _ q.3,
    )

-- ---- a search by four

-- q is the first of the four slots, which the search ends with; or there is none, and it goes on behind them
abbrev Ways : (ℕ → Bool) → ℕ → ℕ → ℕ → ℕ → Type 0
Ways f m i r q = ((q ≡ 64 → ⊥) → q ≡ r) × (q ≡ 64 → Onward f (m / 16) (i + 4) r)

module _ (f : ℕ → Bool) (m i r : ℕ) (h : i + 3 < 64) where
  ways : Onward f m i r → (a : Bool) → (eqb (m % 2) 1 && f i) ≡ a → (b : Bool) → (eqb (m / 2 % 2) 1 && f (i + 1)) ≡ b
      → (c : Bool) → (eqb (m / 4 % 2) 1 && f (i + 2)) ≡ c → (d : Bool) → (eqb (m / 8 % 2) 1 && f (i + 3)) ≡ d
      → Ways f m i r (pick a i (pick b (i + 1) (pick c (i + 2) (pick d (i + 3) 64))))
  ways o true s b t c u d v = (λ e. onward-hit f m i r o (omega arith) s, λ e. absurd (omega arith))
  ways o false s b t c u d v = second b t (onward-pass f m i r o (m / 2) (i + 1) refl refl (omega arith) s)
    where
      fourth : (d : Bool) → (eqb (m / 8 % 2) 1 && f (i + 3)) ≡ d → Onward f (m / 8) (i + 3) r → Ways f m i r (pick d (i + 3) 64)
      fourth true v o = (λ e. onward-hit f (m / 8) (i + 3) r o (omega arith) v, λ e. absurd (omega arith))
      fourth false v o = (
        λ e. absurd (e refl),
        λ e. onward-pass f (m / 8) (i + 3) r o (m / 16) (i + 4) (omega arith) (omega arith) (omega arith) v,
      )

      third : (c : Bool) → (eqb (m / 4 % 2) 1 && f (i + 2)) ≡ c → Onward f (m / 4) (i + 2) r
          → Ways f m i r (pick c (i + 2) (pick d (i + 3) 64))
      third true u o = (λ e. onward-hit f (m / 4) (i + 2) r o (omega arith) u, λ e. absurd (omega arith))
      third false u o =
          fourth d v (onward-pass f (m / 4) (i + 2) r o (m / 8) (i + 3) (omega arith) (omega arith) (omega arith) u)

      second : (b : Bool) → (eqb (m / 2 % 2) 1 && f (i + 1)) ≡ b → Onward f (m / 2) (i + 1) r
          → Ways f m i r (pick b (i + 1) (pick c (i + 2) (pick d (i + 3) 64)))
      second true t o = (λ e. onward-hit f (m / 2) (i + 1) r o (omega arith) t, λ e. absurd (omega arith))
      second false t o =
          third c u (onward-pass f (m / 2) (i + 1) r o (m / 4) (i + 2) (omega arith) (omega arith) (omega arith) t)

  pub by-four : Onward f m i r → (q : ℕ) → q ≡ first_of_four f m i → Ways f m i r q
  by-four o q e =
      subst (Ways f m i r) (sym e)
      (ways o (eqb (m % 2) 1 && f i) refl (eqb (m / 2 % 2) 1 && f (i + 1)) refl (eqb (m / 4 % 2) 1 && f (i + 2)) refl
      (eqb (m / 8 % 2) 1 && f (i + 3)) refl)
