-- Laws on definitions that code needed once and nothing cites now: all but the first bytes as a part, and the digits of
-- a number one by one, with its sign. Assumes nothing.
use mathlib.Core.Path.{◌≡◌, refl, sym, ap, ◌∙◌}
use Prim.Native.Nat.{ℕ, zero, suc, ◌+◌, ◌-◌, ◌*◌, ◌/◌, ◌%◌, ◌≤◌, ◌<◌, ◌^◌}
use native.Mathlib.Nat.{pow-suc}
use native.Mathlib.Omega.{arith}
use mathlib.Core.Bool.{Bool, true, false, true≢false}
use mathlib.Core.List.{List, [], ◌∷◌, ◌++◌}
use lib.Dec.{ltb, leb}
use lib.IntN.{ℤ, pos, negsuc, nat_abs}
use lib.Signed.{lt_z}
use lib.ListN.{length, drop, drop_of_length-le}
use borrow.Author.Tests.{lt-ltb, le-ltb, ltb-true, leb-false}
use mir.Syntax.{w64}
use mir.Val.{SFits, of_z, to_z}
use mir.Facts.{to_z-of_z}
use Rattle.wire.specs.Bytes.{within}
use Rattle.wire.proofs.StoreLaws.{lent}
use Rattle.walk_turn.specs.Lines.{digits, decimal, signed}

-- all but the first k bytes, as a part
pub within-rest : (s : List ℕ) (k : ℕ) → within s k (length s - k) ≡ drop k s
within-rest s k = go (leb (k + (length s - k)) (length s)) refl
  where
    go : (t : Bool) → leb (k + (length s - k)) (length s) ≡ t → within s k (length s - k) ≡ drop k s
    go true e = rw e (lent s k)
    go false e = let h = leb-false (k + (length s - k)) (length s) e in rw e (sym (drop_of_length-le s {i = k}
        (omega arith)))

-- a digit more is allowed, and not needed
digits_more : (more n : ℕ) → n < 10 ^ suc more → digits (suc more) n ≡ digits more n
unfolding digits
digits_more zero n h = rw (lt-ltb n 10 h) refl
digits_more (suc more) n h =
    let p : n < 10 ^ suc more * 10 = rw pow-suc at h in
    rw (digits_more more (n / 10) (omega arith)) refl

digits_step : (more n : ℕ) → 10 ≤ n → digits (suc more) n ≡ digits more (n / 10) ++ (48 + n % 10) ∷ []
unfolding digits
digits_step more n h = rw (le-ltb n 10 h) refl

pub decimal-small : (n : ℕ) → n < 10 → decimal n ≡ (48 + n % 10) ∷ []
unfolding decimal digits
decimal-small n h = rw (lt-ltb n 10 h) refl

pub decimal_step : (n : ℕ) → 10 ≤ n → n < 2 ^ 64 → decimal n ≡ decimal (n / 10) ++ (48 + n % 10) ∷ []
unfolding decimal
decimal_step n h l = digits_step 18 n h ∙ ap (λ (ds : List ℕ). ds ++ (48 + n % 10) ∷ []) (sym (digits_more 18 (n / 10) (omega arith)))

pub signed_below : (n : ℤ) → SFits w64 n → lt_z (to_z w64 (of_z w64 n)) (pos 0) ≡ true → signed n ≡ 45 ∷ decimal (nat_abs n)
unfolding signed
signed_below (pos k) f t =
    let e : ltb k 0 ≡ true = ap (λ (x : ℤ). lt_z x (pos 0)) (sym (to_z-of_z f)) ∙ t in
    absurd (let h = ltb-true k 0 e in omega arith)
signed_below (negsuc k) f t = refl

pub signed_above : (n : ℤ) → SFits w64 n → lt_z (to_z w64 (of_z w64 n)) (pos 0) ≡ false → signed n ≡ decimal (nat_abs n)
unfolding signed
signed_above (pos k) f t = refl
signed_above (negsuc k) f t =
    let e : true ≡ false = ap (λ (x : ℤ). lt_z x (pos 0)) (sym (to_z-of_z f)) ∙ t in
    absurd (true≢false e)
