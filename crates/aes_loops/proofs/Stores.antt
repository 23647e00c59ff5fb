-- Words and blocks, read and stored byte by byte. Assumes nothing.
use mathlib.Core.Path.{◌≡◌, refl, sym, ap, ◌∙◌}
use mathlib.Core.List.{List, [], ◌∷◌, ◌++◌, append_assoc}
use Prim.Native.Nat.{ℕ, suc, ◌+◌, ◌-◌, ◌≤◌, ◌<◌}
use native.Mathlib.Omega.{arith}
use borrow.Rule.Slice.PartMut.{put_mid}
use lib.Bits.{bit_xor}
use lib.ListN.{length, set, take, drop, length-set}
use lib.Seq.{sets, sets-eq, take-take, drop-drop}
use Rattle.wire.proofs.StoreLaws.{runs-4}
use Rattle.aes.specs.declared.Quad.{Quad}
use Rattle.aes.specs.Aes.{add}
use Rattle.aes.specs.Words.{bytes4, bytes_of}
use Rattle.aes.proofs.Words.{quarters, bytes4-xor}
use Rattle.aes.proofs.Quads.{join4}

-- the places of a word stay in a list that is written to
module _ (b : List ℕ) (at : ℕ) where
  pub below-1 : (x : ℕ) → at + 4 ≤ length b → at + 1 < length (set b at x)
  below-1 x h = omega (arith, length-set b at x)

  pub below-2 : (x y : ℕ) → at + 4 ≤ length b → at + 2 < length (set (set b at x) (at + 1) y)
  below-2 x y h = omega (arith, length-set b at x, length-set (set b at x) (at + 1) y)

  pub below-3 : (x y z : ℕ) → at + 4 ≤ length b → at + 3 < length (set (set (set b at x) (at + 1) y) (at + 2) z)
  below-3 x y z h = omega (
    arith,
    length-set b at x,
    length-set (set b at x) (at + 1) y,
    length-set
        (set (set b at x) (at + 1) y) (at + 2) z,
  )

-- a word, stored
pub word-stored : (b : List ℕ) (at x0 x1 x2 x3 : ℕ)
    → set (set (set (set b at x0) (at + 1) x1) (at + 2) x2) (at + 3) x3 ≡ sets b at (x0 ∷ x1 ∷ x2 ∷ x3 ∷ [])
word-stored b at x0 x1 x2 x3 =
    let e1 : at + 1 ≡ suc at = omega arith in
    let e2 : at + 2 ≡ suc (suc at) = omega arith in
    let e3 : at + 3 ≡ suc (suc (suc at)) = omega arith in
    ap (λ (i : ℕ). set (set (set (set b at x0) i x1) (at + 2) x2) (at + 3) x3) e1
    ∙ ap (λ (i : ℕ). set (set (set (set b at x0) (suc at) x1) i x2) (at + 3) x3) e2
    ∙ ap (λ (i : ℕ). set (set (set (set b at x0) (suc at) x1) (suc (suc at)) x2) i x3) e3

-- four words, stored one after the other
pub block-stored : {b1 b2 b3 b4 : List ℕ} (b : List ℕ) (at x y z w : ℕ) → b1 ≡ sets b at (bytes4 x) → b2
    ≡ sets b1 (at + 4) (bytes4 y) → b3 ≡ sets b2 (at + 8) (bytes4 z)
    → b4 ≡ sets b3 (at + 12) (bytes4 w) → b4 ≡ sets b at (bytes4 x ++ (bytes4 y ++ (bytes4 z ++ bytes4 w)))
unfolding bytes4
block-stored b at x y z w e1 e2 e3 e4 =
    runs-4 b at (at + 4) (at + 8) (at + 12) (bytes4 x) (bytes4 y) (bytes4 z) (bytes4 w) e1 e2 e3 e4 refl (omega arith)
    (omega arith)

-- four words, read one after the other
pub block_read : (l : List ℕ) (at k0 k1 k2 k3 : ℕ) → bytes4 k0 ≡ take 4 (drop at l) → bytes4 k1
    ≡ take 4 (drop (at + 4) l) → bytes4 k2 ≡ take 4 (drop (at + 8) l) → bytes4 k3 ≡ take 4 (drop (at + 12) l)
    → bytes4 k0 ++ (bytes4 k1 ++ (bytes4 k2 ++ bytes4 k3)) ≡ take 16 (drop at l)
block_read l at k0 k1 k2 k3 e0 e1 e2 e3 = join4 e0 e1 e2 e3 ∙ sym (quarters l at)

-- a block, as the slice of it has it in front
pub chunk-here : (l : List ℕ) (at : ℕ) → take 16 (take (at + 16 - at) (drop at l)) ≡ take 16 (drop at l)
chunk-here l at = take-take 16 (at + 16 - at) (drop at l) (omega arith)

-- a block, stored in a part of a list
pub part-stored : {y : List ℕ} (d b : List ℕ) (at : ℕ) → y ≡ b → length b ≡ 16 → at + 16 ≤ length d
    → put_mid at (at + 16 - at) d y ≡ sets d at b
part-stored d b at f l g =
    let e : at + 16 - at ≡ 16 = omega arith in
    ap (put_mid at (at + 16 - at) d) f
    ∙ rw e (ap (λ (k : List ℕ). take at d ++ (b ++ k)) (drop-drop 16 at d)
    ∙ sym (rw l at (sets-eq b d at (rw l g)) ∙ append_assoc (take at d) b (drop (at + 16) d)))

-- two blocks, added
pub block-added : (p v : Quad)
    → bytes4 (bit_xor p.a v.a) ++ (bytes4 (bit_xor p.b v.b) ++
    (bytes4 (bit_xor p.c v.c) ++ bytes4 (bit_xor p.d v.d))) ≡ add (bytes_of p) (bytes_of v)
unfolding bytes_of bytes4 add
block-added p v = join4 (bytes4-xor p.a v.a) (bytes4-xor p.b v.b) (bytes4-xor p.c v.c)
    (bytes4-xor p.d v.d)
