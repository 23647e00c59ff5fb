-- A timeout of 0 is none. Assumes nothing.
use native.Mathlib.Omega.{arith}
use mathlib.Core.Path.{◌≡◌, refl}
use mathlib.Core.Bool.{Bool, true, false}
use Prim.Native.Nat.{ℕ}
use lib.Dec.{eqb}
use borrow.Author.Tests.{eq-eqb}
use Rattle.wire.specs.Choice.{pick}
use Rattle.invoke.specs.Fields.{effective_timeout}
use Rattle.std.specs.Prelude.{Option, Some, None}

-- what is meant is meant: a relay that passes it on changes nothing
pub meant-twice : (t : Option ℕ) → effective_timeout (effective_timeout t) ≡ effective_timeout t
meant-twice None = refl
meant-twice (Some ms) = go (eqb ms 0) refl
  where
    go : (b : Bool) → eqb ms 0 ≡ b
        → effective_timeout (pick b None (Some ms))
        ≡ pick b None (Some ms)
    go true e = refl
    go false e = rw e refl

-- and never 0 ms
pub never-0-ms : (t : Option ℕ) → effective_timeout t ≡ Some 0 → ⊥
never-0-ms None e = let z : ◌≡◌ {A = ℕ} 0 1 = cc in omega arith
never-0-ms (Some ms) e = go (eqb ms 0) refl e
  where
    go : (b : Bool) → eqb ms 0 ≡ b → pick b None (Some ms) ≡ Some 0 → ⊥
    go true x y = let z : ◌≡◌ {A = ℕ} 0 1 = cc in omega arith
    go false x y = let same : ms ≡ 0 = cc in let t = eq-eqb ms 0 same in let z : ◌≡◌ {A = ℕ} 0 1 = cc in omega arith
