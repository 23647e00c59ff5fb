-- Tables as a `match` of 256 arms on 256 + x: what an arm owes, by a test that is computed. Assumes nothing.
--
-- The numbers start at 256 so that the compiler does not take them for signed bytes and turn each index.
use mathlib.Core.Path.{◌≡◌, sym, ap, ◌∙◌, subst}
use mathlib.Core.Bool.{Bool, ◌&&◌}
use mathlib.Core.List.{[], ◌∷◌}
use Prim.Native.Nat.{ℕ, zero, suc, ◌+◌, ◌-◌, ◌/◌, ◌%◌, ◌≤◌, ◌<◌}
use native.Mathlib.Omega.{arith}
use lib.Dec.{T, eqb, eqb→eq}
use Rattle.aes.specs.Field.{mul, sbox, unsbox}
use Rattle.aes.specs.Words.{bytes4, products, unproducts}
use Rattle.aes.proofs.Words.{list4}
use Rattle.aes.proofs.Computed.{and_left, and_right}
use Rattle.aes_arms.specs.Twice.{Twice}

-- ---- the last arm: y is none of the n numbers from 256 on
abbrev pub Rest : ℕ → ℕ → Type 0
Rest zero y = Unit
Rest (suc n) y = Rest n y × (y ≡ 256 + n → ⊥)

past : (n y : ℕ) → Rest n y → 256 ≤ y → 256 + n ≤ y
past zero y r h = h
past (suc n) y r h =
    let a = past n y r.0 h in
    let b = r.1 in
    omega arith

pub last : (x : ℕ) → x < 256 → Rest 255 (x + 256) → x + 256 ≡ 511
last x h r =
    let a = past 255 (x + 256) r (omega arith) in
    omega arith

-- ---- bytes
module _ (k x : ℕ) (e : x + 256 ≡ k) where
  place : x ≡ k - 256
  place = omega arith

  pub sub-arm : {r : ℕ} → T (eqb r (sbox (k - 256))) → r ≡ sbox x
  sub-arm {r} t = eqb→eq r (sbox (k - 256)) t ∙ ap sbox (sym place)

  pub unsub-arm : {r : ℕ} → T (eqb r (unsbox (k - 256))) → r ≡ unsbox x
  unsub-arm {r} t = eqb→eq r (unsbox (k - 256)) t ∙ ap unsbox (sym place)

-- ---- words, each twice in a number
-- r against four bytes
abbrev test : ℕ → ℕ → ℕ → ℕ → ℕ → Bool
test r a b c d =
    eqb (r % 4294967296 % 256) a && (eqb (r % 4294967296 / 256 % 256) b && (eqb (r % 4294967296 / 65536 % 256) c
    && (eqb (r % 4294967296 / 16777216 % 256) d && eqb (r / 4294967296) (r % 4294967296))))

tested : (r a b c d : ℕ) → T (test r a b c d) → Twice (a ∷ b ∷ c ∷ d ∷ []) r
unfolding bytes4
tested r a b c d t =
    let p = eqb (r % 4294967296 % 256) a in
    let q = eqb (r % 4294967296 / 256 % 256) b in
    let u = eqb (r % 4294967296 / 65536 % 256) c in
    let v = eqb (r % 4294967296 / 16777216 % 256) d in
    let w = eqb (r / 4294967296) (r % 4294967296) in
    let t1 = and_right p (q && (u && (v && w))) t in
    let t2 = and_right q (u && (v && w)) t1 in
    let t3 = and_right u (v && w) t2 in
    record {
      word =
          list4 (eqb→eq _ _ (and_left p (q && (u && (v && w))) t)) (eqb→eq _ _ (and_left q (u && (v && w)) t1))
          (eqb→eq _ _ (and_left u (v && w) t2)) (eqb→eq _ _ (and_left v w t3));
      again = eqb→eq _ _ (and_right v w t3);
    }

abbrev pub forward : ℕ → ℕ → Bool
forward s r = test r (mul s 2) (mul s 1) (mul s 1) (mul s 3)

abbrev pub backward : ℕ → ℕ → Bool
backward s r = test r (mul s 14) (mul s 9) (mul s 13) (mul s 11)

module _ (k x : ℕ) (e : x + 256 ≡ k) where
  pub products-arm : {r : ℕ} → T (forward (sbox (k - 256)) r) → Twice (products x) r
  unfolding products
  products-arm {r} t =
      let s = sbox (k - 256) in
      subst (λ (y : ℕ). Twice (products y) r) (sym (place k x e)) (tested r (mul s 2) (mul s 1) (mul s 1) (mul s 3) t)

  pub unproducts-arm : {r : ℕ} → T (backward (unsbox (k - 256)) r) → Twice (unproducts (unsbox x)) r
  unfolding unproducts
  unproducts-arm {r} t =
      let s = unsbox (k - 256) in
      subst (λ (y : ℕ). Twice (unproducts (unsbox y)) r) (sym (place k x e))
      (tested r (mul s 14) (mul s 9) (mul s 13) (mul s 11) t)
