-- Links that meet get no 9, and where the tables say none, two links with lowest versions up to 2 and one profile meet.
-- Assumes nothing.
use native.Mathlib.Omega.{arith}
use borrow.Author.Tests.{eqb-true, eq-eqb}
use mathlib.Core.Path.{◌≡◌, refl}
use mathlib.Core.Bool.{Bool, true, false, not, ◌&&◌, ◌||◌}
use Prim.Native.Nat.{ℕ, ◌≤◌, ◌<◌, ◌^◌}
use lib.Dec.{eqb}
use Rattle.wire.specs.Choice.{pick}
use Rattle.pair.specs.Opens.{Choices, both_of, Meet}
use Rattle.cipher_choice.specs.Nine.{nine_of}

module _ (x y : Choices) where
  pub met : Meet x y → nine_of x y ≡ false
  unfolding nine_of
  met meet =
      rw (meet.client_not_alone, meet.server_not_alone) (go (both_of x y) meet.same_key)
    where
      go : (b : Bool) → (b ≡ true → x.keyid ≡ y.keyid) → (b && not (eqb x.keyid y.keyid)) ≡ false
      go true same = rw (eq-eqb x.keyid y.keyid (same refl))
      go false same = refl

  pub meets : nine_of x y ≡ false → x.lowest ≤ 2 → y.lowest ≤ 2 → x.keyid < 2 ^ 32 → y.keyid < 2 ^ 32
      → (x.padded || both_of x y) ≡ (y.padded || both_of x y) → Meet x y
  unfolding nine_of
  meets e low_x low-y key-x key-y profile =
      let parts = go (x.cipher && (x.only && not y.cipher)) (y.cipher && (y.only && not x.cipher)) e in
      record {
        client_lowest = low_x;
        server_lowest = low-y;
        client_not_alone = parts.0;
        server_not_alone = parts.1.0;
        same_key = λ b. same (both_of x y) (eqb x.keyid y.keyid) refl parts.1.1 b;
        same_profile = profile;
        client_key = key-x;
        server_key = key-y;
      }
    where
      rest : Bool
      rest = both_of x y && not (eqb x.keyid y.keyid)

      go : (a b : Bool) → pick a true (pick b true rest) ≡ false → (a ≡ false) × ((b ≡ false) × (rest ≡ false))
      go false false e = (refl, (refl, e))
      go true b e = let z : ◌≡◌ {A = ℕ} 0 1 = cc in absurd (omega arith)
      go false true e = let z : ◌≡◌ {A = ℕ} 0 1 = cc in absurd (omega arith)

      same : (b k : Bool) → eqb x.keyid y.keyid ≡ k → (b && not k) ≡ false → b ≡ true → x.keyid ≡ y.keyid
      same b true q f g = eqb-true x.keyid y.keyid q
      same true false q f g = let z : ◌≡◌ {A = ℕ} 0 1 = cc in absurd (omega arith)
      same false false q f g = let z : ◌≡◌ {A = ℕ} 0 1 = cc in absurd (omega arith)
