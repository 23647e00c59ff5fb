-- The library's turn of a word is the standards'. Assumes nothing.
use Rattle.std.proofs.Common.{◌≡◌, ℕ, ◌-◌, ◌%◌, ◌<◌, refl, arith, w32}
use Rattle.std.specs.Int.{rotate_left}
use Rattle.hash_blocks.specs.Words.{rotl}

pub rotated : (x n : ℕ) → 0 < n → n < 32 → rotate_left w32 x n ≡ rotl n x
unfolding rotl
rotated x n h k =
    let e : n % 32 ≡ n = omega arith in
    let f : (32 - n) % 32 ≡ 32 - n = omega arith in
    rw (e, f) refl
