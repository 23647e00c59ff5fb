-- Texts written one after another, and how a number's digits are written. Assumes nothing.
use Rattle.std.proofs.Common.{◌≡◌, ◌<◌, ◌≤◌, ◌+◌, ◌*◌, ◌/◌, ◌%◌, ◌^◌, ◌∙◌, ℕ, zero, suc, Bool, true, false, List, [], ◌∷◌, ◌++◌, refl, sym, ap, subst, append_assoc, arith}
use borrow.Author.Tests.{lt-ltb, eq-eqb, ne_eqb, ltb-true, ltb-false}
use lib.Dec.{ltb}
use lib.ListN.{length-append}
use mathlib.Core.List.{append-nil}
use native.Mathlib.Nat.{pow-suc}
use lib.IntN.{ℤ, pos, negsuc}
use mir.Syntax.{w64}
use mir.Val.{SFits}
use Rattle.std.specs.Fmt.{digits_onto, signed_decimal}
use Rattle.std.specs.Fmt as F
use Rattle.wire.proofs.StoreLaws.{runs-2}
use Rattle.walk_turn.specs.declared.lines.Lines.{Lines}
use Rattle.walk_turn.specs.Wrote.{Wrote}
use Rattle.walk_turn.specs.Lines.{digits, decimal, signed, pair_line}

-- ---- texts

pub then : {x y z : Lines} {a b : List ℕ} → Wrote x y a → Wrote y z b → Wrote x z (a ++ b)
then {x} {y} {z} {a} {b} v w =
    record {
      text = runs-2 x.text.now x.size y.size a b v.text w.text v.size;
      same = w.same ∙ v.same;
      size = rw length-append (omega (arith, v.size, w.size));
    }

pub none-yet : (x : Lines) → Wrote x x []
none-yet x = record { text = refl; same = refl; size = omega arith }

-- the same text in other words
pub wrote_is : {x y : Lines} {a b : List ℕ} → a ≡ b → Wrote x y a → Wrote x y b
wrote_is {x} {y} e h = subst (λ (t : List ℕ). Wrote x y t) e h

pub pair_is : (word : List ℕ) {a b x y : ℤ} → a ≡ x → b ≡ y → pair_line word a b ≡ pair_line word x y
pair_is word p q = cc

-- ---- digits

-- the library's digits of a number that has few enough are ours
digits-onto : (k j n : ℕ) (acc : List ℕ) → k < j → n < 10 ^ suc k → digits_onto j 10 false n acc ≡ digits k n ++ acc
unfolding digits
digits-onto zero zero n acc h l = absurd (omega arith)
digits-onto zero (suc j) n acc h l = rw (eq-eqb (n / 10) 0 (omega arith), lt-ltb (n % 10) 10 (omega arith)) refl
digits-onto (suc k) zero n acc h l = absurd (omega arith)
digits-onto (suc k) (suc j) n acc h l = go (ltb n 10) refl (λ more p. digits-onto k j (n / 10) more (omega arith) p)
  where
    go : (b : Bool) → ltb n 10 ≡ b
        → ((more : List ℕ) → n / 10 < 10 ^ suc k → digits_onto j 10 false (n / 10) more ≡ digits k (n / 10) ++ more)
        → digits_onto (suc j) 10 false n acc ≡ digits (suc k) n ++ acc
    go true q again =
        let s : n < 10 = ltb-true n 10 q in
        rw (q, eq-eqb (n / 10) 0 (omega arith), lt-ltb (n % 10) 10 (omega arith)) refl
    go false q again =
        let s : 10 ≤ n = ltb-false n 10 q in
        let p : n < 10 ^ suc k * 10 = rw pow-suc at l in
        rw (q, ne_eqb (n / 10) 0 (λ z. omega (arith, z)), lt-ltb (n % 10) 10 (omega arith))
        (again ((48 + n % 10) ∷ acc) (omega (arith, p))
        ∙ sym (append_assoc (digits k (n / 10)) ((48 + n % 10) ∷ []) acc))

pub decimal_is : (n : ℕ) → n < 2 ^ 64 → F.decimal n ≡ decimal n
unfolding F.digits decimal
decimal_is n h = digits-onto 19 64 n [] (omega arith) (omega arith) ∙ append-nil (digits 19 n)

pub signed_is : (n : ℤ) → SFits w64 n → signed_decimal n ≡ signed n
unfolding signed
signed_is (pos n) f = decimal_is n (omega arith)
signed_is (negsuc n) f = ap (λ (ds : List ℕ). 45 ∷ ds) (decimal_is (suc n) (omega arith))
