-- Columns make a round, and rounds the cipher. Assumes nothing.
use Rattle.std.specs.Prelude.{◌≡◌, ℕ, zero, suc, ◌*◌, List, refl}
use Rattle.std.proofs.Common.{ap, ◌∙◌}
use Rattle.aes.specs.declared.Quad.{Quad}
use Rattle.aes.specs.Aes.{add, sub_bytes, placed, shift_rows, columns, mix_columns, round_key, rounds, cipher}
use Rattle.aes.specs.Words.{bytes4, bytes_of, slant}
use Rattle.aes.proofs.Quads.{join4}
use Rattle.aes_loops.specs.Rounds.{Rounds, onward, spun, rounds_of, ciphered}
use Rattle.aes_loops.proofs.Turns.{keyed}

-- the rows of column j of the block s
abbrev rows : Quad → ℕ → List ℕ
rows s j = let q = spun onward j s in slant q.a q.b q.c q.d

pub mixed-round : Rounds (λ l. mix_columns (sub_bytes l)) (λ s. s) onward (λ s. mix_columns (shift_rows (sub_bytes s)))
unfolding bytes_of bytes4 mix_columns columns shift_rows placed sub_bytes
mixed-round l at h s o (a, (b, (c, d))) =
    join4 a b c d
    ∙ keyed l at h (mix_columns (sub_bytes (rows s 0))) (mix_columns (sub_bytes (rows s 1)))
    (mix_columns (sub_bytes (rows s 2))) (mix_columns (sub_bytes (rows s 3))) refl refl refl

pub unmixed-round : Rounds sub_bytes (λ s. s) onward (λ s. shift_rows (sub_bytes s))
unfolding bytes_of bytes4 shift_rows placed sub_bytes
unmixed-round l at h s o (a, (b, (c, d))) =
    join4 a b c d
    ∙ keyed l at h (sub_bytes (rows s 0)) (sub_bytes (rows s 1)) (sub_bytes (rows s 2)) (sub_bytes (rows s 3)) refl refl
    refl

rounds_are : (n : ℕ) (w s : List ℕ)
    → rounds_of (λ s. mix_columns (shift_rows (sub_bytes s))) (λ n. 16 * n) n w s ≡ rounds n w s
unfolding rounds_of rounds round_key
rounds_are zero w s = refl
rounds_are (suc n) w s =
    ap (λ (t : List ℕ). add (mix_columns (shift_rows (sub_bytes t))) (round_key (suc n) w)) (rounds_are n w s)

pub cipher-is : (w s : List ℕ) → ciphered (λ s. mix_columns (shift_rows (sub_bytes s))) (λ s. shift_rows (sub_bytes s))
    (λ n. 16 * n) w s ≡ cipher w s
unfolding ciphered cipher round_key
cipher-is w s =
    ap (λ (t : List ℕ). add (shift_rows (sub_bytes t)) (round_key 14 w)) (rounds_are 13 w (add s (round_key 0 w)))
