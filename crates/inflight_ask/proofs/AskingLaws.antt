-- Laws for ask: an ask that is not refused.
-- Assumes nothing.
use mathlib.Core.Path.{◌≡◌, refl}
use Prim.Native.Nat.{ℕ, ◌<◌}
use mathlib.Core.Bool.{Bool, true, false}
use lib.Dec.{leb}
use borrow.Author.Tests.{leb-false}
use Rattle.std.specs.Prelude.{Result, Ok, Err, ⊤}
use Rattle.refusal.specs.declared.Refusal.{Refusal}
use Rattle.refusal.specs.declared.Refusal.TheVariants.{OutOfRange}
use Rattle.wire.specs.Choice.{pick}
use Rattle.inflight.specs.declared.FrontNumber.{FrontNumber}
use Rattle.inflight.specs.Tables.{check_ask_of}
use Rattle.inflight.specs.declared.Table.{Table}

two : (a b : Bool) (x : Result ⊤ Refusal) → pick a (Err OutOfRange) (pick b (Err OutOfRange) x) ≡ Ok tt → (a ≡ false) × (b ≡ false)
two true b x e = cc
two false true x e = cc
two false false x e = (refl, refl)

-- an ask that is not refused is in range
pub ask-range : (t : Table) (l : ℕ) (n : FrontNumber) (p time : ℕ) → check_ask_of t l n p time ≡ Ok tt → (l < 32) × (p < 8)
unfolding check_ask_of
ask-range t l n p time e =
    let f = two (leb 32 l) (leb 8 p) _ e in
    (leb-false 32 l f.0, leb-false 8 p f.1)
