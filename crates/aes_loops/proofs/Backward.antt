-- Columns make a round, and rounds the inverse cipher. Assumes nothing.
use Rattle.std.specs.Prelude.{◌≡◌, ℕ, zero, suc, ◌*◌, ◌-◌, List, take, drop, refl}
use Rattle.std.proofs.Common.{ap, ap₂, ◌∙◌, arith}
use Rattle.aes.specs.declared.Quad.{Quad}
use Rattle.aes.specs.Aes.{add, unsub_bytes, placed, unshift_rows, columns, unmix_columns, round_key}
use Rattle.aes.specs.Back.{back_rounds, back_cipher}
use Rattle.aes.specs.Words.{bytes4, bytes_of, slant}
use Rattle.aes.proofs.Quads.{join4}
use Rattle.aes_loops.specs.Rounds.{Rounds, facing, backward, spun, rounds_of, ciphered}
use Rattle.aes_loops.proofs.Turns.{keyed}

-- the rows of column j of the block s
abbrev rows : Quad → ℕ → List ℕ
rows s j = let q = spun backward j (facing s) in slant q.a q.b q.c q.d

pub mixed-round : Rounds (λ l. unmix_columns (unsub_bytes l)) facing backward
    (λ s. unmix_columns (unsub_bytes (unshift_rows s)))
unfolding bytes_of bytes4 unmix_columns columns unshift_rows placed unsub_bytes
mixed-round l at h s o (a, (b, (c, d))) =
    join4 a b c d
    ∙ keyed l at h (unmix_columns (unsub_bytes (rows s 0))) (unmix_columns (unsub_bytes (rows s 1)))
    (unmix_columns (unsub_bytes (rows s 2))) (unmix_columns (unsub_bytes (rows s 3))) refl refl refl

pub unmixed-round : Rounds unsub_bytes facing backward (λ s. unsub_bytes (unshift_rows s))
unfolding bytes_of bytes4 unshift_rows placed unsub_bytes
unmixed-round l at h s o (a, (b, (c, d))) =
    join4 a b c d
    ∙ keyed l at h (unsub_bytes (rows s 0)) (unsub_bytes (rows s 1)) (unsub_bytes (rows s 2)) (unsub_bytes (rows s 3))
    refl refl refl

rounds_are : (n : ℕ) (d s : List ℕ)
    → rounds_of (λ s. unmix_columns (unsub_bytes (unshift_rows s))) (λ n. 224 - 16 * n) n d s ≡ back_rounds n d s
unfolding rounds_of back_rounds round_key
rounds_are zero d s = refl
rounds_are (suc n) d s =
    let e : 224 - 16 * suc n ≡ 16 * (13 - n) = omega arith in
    ap₂ (λ (t : List ℕ) (i : ℕ). add (unmix_columns (unsub_bytes (unshift_rows t))) (take 16 (drop i d)))
    (rounds_are n d s) e

pub cipher-is : (d s : List ℕ)
    → ciphered (λ s. unmix_columns (unsub_bytes (unshift_rows s))) (λ s. unsub_bytes (unshift_rows s))
    (λ n. 224 - 16 * n) d s ≡ back_cipher d s
unfolding ciphered back_cipher round_key
cipher-is d s =
    ap (λ (t : List ℕ). add (unsub_bytes (unshift_rows t)) (round_key 0 d)) (rounds_are 13 d (add s (round_key 14 d)))
