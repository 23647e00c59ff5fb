-- The steps turn by 1 to 31 bits. Assumes nothing.
use Rattle.std.proofs.Common.{◌≡◌, ℕ, zero, suc, ◌+◌, ◌*◌, ◌/◌, ◌%◌, ◌<◌, Bool, true, false, ◌&&◌, T, ltb, List, [], ◌∷◌, length, get_or, le_of_suc-le-suc, not-suc-le-zero, arith, ltb→lt, w32}
use Rattle.std.specs.Int.{rotate_left}
use Rattle.hash_blocks.specs.Words.{rotl}
use Rattle.hash_blocks.proofs.Rotated.{rotated}
use Rattle.md5_hash.specs.Md5.{turns, turn_of}

abbrev turning : ℕ → Bool
turning n = ltb 0 n && ltb n 32

abbrev each : List ℕ → Bool
each [] = true
each (n ∷ l) = turning n && each l

and_left : (a b : Bool) → T (a && b) → T a
and_left true b t = tt
and_left false b t = t

and_right : (a b : Bool) → T (a && b) → T b
and_right true b t = t
and_right false b t = absurd t

each_at : (l : List ℕ) → T (each l) → (j : ℕ) → j < length l → T (turning (get_or l j 0))
each_at [] t j h = absurd (not-suc-le-zero h)
each_at (n ∷ l) t zero h = and_left (turning n) (each l) t
each_at (n ∷ l) t (suc j) h = each_at l (and_right (turning n) (each l) t) j (le_of_suc-le-suc h)

turning-of : (i : ℕ) → i < 64 → T (turning (turn_of i))
unfolding turn_of
turning-of i h = each_at turns tt (i / 16 * 4 + i % 4) (omega arith)

-- the library's turn of a word by as much
pub turned : (x i : ℕ) → i < 64 → rotate_left w32 x (turn_of i) ≡ rotl (turn_of i) x
turned x i h =
    let t = turning-of i h in
    let l = and_left (ltb 0 (turn_of i)) (ltb (turn_of i) 32) t in
    let u = and_right (ltb 0 (turn_of i)) (ltb (turn_of i) 32) t in
    rotated x (turn_of i) (ltb→lt _ _ l) (ltb→lt _ _ u)
