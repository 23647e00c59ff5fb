-- A word that is turned is its bytes turned. Assumes nothing.
use Rattle.std.proofs.Common.{◌≡◌, ℕ, zero, suc, ◌+◌, ◌*◌, ◌/◌, ◌%◌, ◌^◌, ◌<◌, ap, ap₂, ◌∙◌, arith, w32}
use Rattle.std.specs.Int.{rotate_left}
use Rattle.std.specs.Int.Bits.{bit_or, or_self}
use Rattle.std.proofs.lemmas.Nat.{or_shifted}
use Rattle.aes.specs.Words.{bytes4}
use Rattle.aes.proofs.Words.{turned8, turned16, turned24}
use Rattle.aes_loops.specs.Rows.{turns}

-- with no turn the word stays
joined-0 : (x : ℕ) → x < 2 ^ 32 → rotate_left w32 x 0 ≡ x
joined-0 x h =
    let e : x * 1 % 4294967296 ≡ x = omega (arith, h) in
    let f : x / 1 ≡ x = omega arith in
    ap₂ bit_or e f ∙ or_self x

-- the high part goes low
joined-1 : (x : ℕ) → x < 2 ^ 32 → bit_or (x * 256 % 4294967296) (x / 16777216) ≡ x % 16777216 * 256 + x / 16777216
joined-1 x h =
    let e : x * 256 % 4294967296 ≡ x % 16777216 * 256 = omega arith in
    ap (λ (y : ℕ). bit_or y (x / 16777216)) e ∙ or_shifted (x % 16777216) 8 (x / 16777216) (omega (arith, h))

joined-2 : (x : ℕ) → x < 2 ^ 32 → bit_or (x * 65536 % 4294967296) (x / 65536) ≡ x % 65536 * 65536 + x / 65536
joined-2 x h =
    let e : x * 65536 % 4294967296 ≡ x % 65536 * 65536 = omega arith in
    ap (λ (y : ℕ). bit_or y (x / 65536)) e ∙ or_shifted (x % 65536) 16 (x / 65536) (omega (arith, h))

joined-3 : (x : ℕ) → x < 2 ^ 32 → bit_or (x * 16777216 % 4294967296) (x / 256) ≡ x % 256 * 16777216 + x / 256
joined-3 x h =
    let e : x * 16777216 % 4294967296 ≡ x % 256 * 16777216 = omega arith in
    ap (λ (y : ℕ). bit_or y (x / 256)) e ∙ or_shifted (x % 256) 24 (x / 256) (omega (arith, h))

pub rotated-law : (x r : ℕ) → x < 2 ^ 32 → r < 4 → bytes4 (rotate_left w32 x (8 * r)) ≡ turns r (bytes4 x)
rotated-law x zero h q = ap bytes4 (joined-0 x h)
rotated-law x (suc zero) h q = ap bytes4 (joined-1 x h) ∙ turned8 h
rotated-law x (suc (suc zero)) h q = ap bytes4 (joined-2 x h) ∙ turned16 h
rotated-law x (suc (suc (suc zero))) h q = ap bytes4 (joined-3 x h) ∙ turned24 h
rotated-law x (suc (suc (suc (suc r)))) h q = absurd (omega arith)
