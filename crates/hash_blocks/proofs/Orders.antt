-- The bytes of a number as the library lists them, the lowest first and the highest. Assumes nothing.
use Rattle.std.proofs.Common.{◌≡◌, ℕ, zero, suc, ◌/◌, ◌%◌, ◌^◌, ◌∷◌, reverse, refl, sym, ap, ap₂, ◌∙◌, add-one, arith}
use Rattle.std.proofs.lemmas.List.{reverse-append}
use Rattle.std.proofs.Math.Nat.{pow-suc, div-div-eq-div-mul}
use Rattle.std.specs.Int.{byte_at, bytes_low_first, bytes_high_first}
use Rattle.wire.specs.Bytes.{bytes}
use Rattle.wire.proofs.ByteLaws.{bytes-add}

byte-is : (i n : ℕ) → byte_at i n ≡ n / 256 ^ i % 256
byte-is zero n = omega arith
byte-is (suc i) n = refl

low_from : (k i n : ℕ) → bytes_low_first i k n ≡ bytes k (n / 256 ^ i)
unfolding bytes
low_from zero i n = refl
low_from (suc k) i n =
    let e : n / 256 ^ suc i ≡ n / 256 ^ i / 256 = rw (pow-suc 256 i) (sym (div-div-eq-div-mul n (256 ^ i) 256)) in
    ap₂ ◌∷◌ (byte-is i n) (low_from k (suc i) n ∙ ap (bytes k) e)

pub low-first : (k n : ℕ) → bytes_low_first 0 k n ≡ bytes k n
low-first k n = low_from k 0 n ∙ ap (bytes k) (omega arith)

pub high-first : (k n : ℕ) → bytes_high_first k n ≡ reverse (bytes k n)
unfolding bytes
high-first zero n = refl
high-first (suc k) n =
    ap₂ ◌∷◌ (byte-is k n) (high-first k n)
    ∙ sym (reverse-append (bytes k n) (bytes 1 (n / 256 ^ k)))
    ∙ ap reverse (sym (bytes-add k 1 n) ∙ ap (λ (m : ℕ). bytes m n) (add-one k))
