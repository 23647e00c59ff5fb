-- A round in loops of four: rows of a column, and columns of a block. Assumes nothing.
use mathlib.Core.Path.{◌≡◌, refl, sym, ap, ◌∙◌}
use mathlib.Core.List.{List, [], ◌∷◌, ◌++◌}
use Prim.Native.Nat.{ℕ, zero, suc, ◌+◌, ◌*◌, ◌/◌, ◌%◌, ◌^◌, ◌≤◌, ◌<◌}
use native.Mathlib.Nat.{mod-lt, add-zero}
use native.Mathlib.Numerals.{add-one}
use native.Mathlib.Omega.{arith}
use lib.Dec.{lit<}
use lib.ListN.{length, get_or, take, drop, length-drop, get_or-eq_default}
use lib.Seq.{length-take-le}
use lib.Bits.{bit_xor, xor_comm, xor_zero_r}
use Rattle.wire.specs.Bytes.{bytes}
use Rattle.aes.specs.declared.Quad.{Quad}
use Rattle.aes.specs.Field.{mul, sbox, unsbox}
use Rattle.aes.specs.Aes.{add, sub_bytes, unsub_bytes, cell, columns, mix_columns, unmix_columns}
use Rattle.aes.specs.Words.{bytes4, products, unproducts, slant}
use Rattle.aes.proofs.Xor.{xor_assoc}
use Rattle.aes_loops.specs.Rows.{turns, ending, sums}
use Rattle.aes_loops.specs.Rounds.{Done}
use Rattle.aes.proofs.Words.{list4, turned8, turned16, turned24, quarters}

-- ---- four of w's eight bytes
pub ending-0 : (w : ℕ) → bytes4 (w % 4294967296) ≡ ending w 0
unfolding bytes bytes4
ending-0 w = list4 (omega arith) (omega arith) (omega arith) (omega arith)

pub ending-1 : (w : ℕ) → bytes4 (w / 16777216 % 4294967296) ≡ ending w 1
unfolding bytes bytes4
ending-1 w = list4 (omega arith) (omega arith) (omega arith) (omega arith)

pub ending-2 : (w : ℕ) → bytes4 (w / 65536 % 4294967296) ≡ ending w 2
unfolding bytes bytes4
ending-2 w = list4 (omega arith) (omega arith) (omega arith) (omega arith)

pub ending-3 : (w : ℕ) → bytes4 (w / 256 % 4294967296) ≡ ending w 3
unfolding bytes bytes4
ending-3 w = list4 (omega arith) (omega arith) (omega arith) (omega arith)

-- ---- a word that is in w twice, turned
top-1 : (w x q : ℕ) → q < 16777216 → w ≡ x * 16777216 + q → w / 16777216 ≡ x
top-1 w x q h e = omega arith

split-1 : (w l p q : ℕ) → w ≡ l * 4294967296 + l → l ≡ p * 16777216 + q → w ≡ (l * 256 + p) * 16777216 + q
split-1 w l p q e f = omega arith

kept-1 : (l p q : ℕ) → q < 16777216 → p < 256 → l ≡ p * 16777216 + q → (l * 256 + p) % 4294967296 ≡ q * 256 + p
kept-1 l p q h g e = omega arith

top-2 : (w x q : ℕ) → q < 65536 → w ≡ x * 65536 + q → w / 65536 ≡ x
top-2 w x q h e = omega arith

split-2 : (w l p q : ℕ) → w ≡ l * 4294967296 + l → l ≡ p * 65536 + q → w ≡ (l * 65536 + p) * 65536 + q
split-2 w l p q e f = omega arith

kept-2 : (l p q : ℕ) → q < 65536 → p < 65536 → l ≡ p * 65536 + q → (l * 65536 + p) % 4294967296 ≡ q * 65536 + p
kept-2 l p q h g e = omega arith

top-3 : (w x q : ℕ) → q < 256 → w ≡ x * 256 + q → w / 256 ≡ x
top-3 w x q h e = omega arith

split-3 : (w l p q : ℕ) → w ≡ l * 4294967296 + l → l ≡ p * 256 + q → w ≡ (l * 16777216 + p) * 256 + q
split-3 w l p q e f = omega arith

kept-3 : (l p q : ℕ) → q < 256 → p < 16777216 → l ≡ p * 256 + q → (l * 16777216 + p) % 4294967296 ≡ q * 16777216 + p
kept-3 l p q h g e = omega arith

module _ (w : ℕ) (e : w / 4294967296 ≡ w % 4294967296) where
  low : w % 4294967296 < 2 ^ 32
  low = mod-lt w (lit< tt)

  whole : w ≡ w % 4294967296 * 4294967296 + w % 4294967296
  whole = omega arith

  pub twice-1 : bytes4 (w / 16777216 % 4294967296) ≡ turns 1 (bytes4 (w % 4294967296))
  twice-1 =
      let l = w % 4294967296 in
      let f : l ≡ l / 16777216 * 16777216 + l % 16777216 = omega arith in
      let h : l % 16777216 < 16777216 = mod-lt l (lit< tt) in
      let g : l / 16777216 < 256 = omega (arith, low) in
      ap bytes4 (ap (λ (x : ℕ). x % 4294967296) (top-1 w (l * 256 + l / 16777216) (l % 16777216) h
      (split-1 w l (l / 16777216) (l % 16777216) whole f)) ∙ kept-1 l (l / 16777216) (l % 16777216) h g f)
      ∙ turned8 low

  pub twice-2 : bytes4 (w / 65536 % 4294967296) ≡ turns 2 (bytes4 (w % 4294967296))
  twice-2 =
      let l = w % 4294967296 in
      let f : l ≡ l / 65536 * 65536 + l % 65536 = omega arith in
      let h : l % 65536 < 65536 = mod-lt l (lit< tt) in
      let g : l / 65536 < 65536 = omega (arith, low) in
      ap bytes4 (ap (λ (x : ℕ). x % 4294967296) (top-2 w (l * 65536 + l / 65536) (l % 65536) h
      (split-2 w l (l / 65536) (l % 65536) whole f)) ∙ kept-2 l (l / 65536) (l % 65536) h g f)
      ∙ turned16 low

  pub twice-3 : bytes4 (w / 256 % 4294967296) ≡ turns 3 (bytes4 (w % 4294967296))
  twice-3 =
      let l = w % 4294967296 in
      let f : l ≡ l / 256 * 256 + l % 256 = omega arith in
      let h : l % 256 < 256 = mod-lt l (lit< tt) in
      let g : l / 256 < 16777216 = omega (arith, low) in
      ap bytes4 (ap (λ (x : ℕ). x % 4294967296) (top-3 w (l * 16777216 + l / 256) (l % 256) h
      (split-3 w l (l / 256) (l % 256) whole f)) ∙ kept-3 l (l / 256) (l % 256) h g f)
      ∙ turned24 low

  -- so four of its bytes are the word turned
  pub twice-ending : (r : ℕ) → r < 4 → ending w r ≡ turns r (bytes4 (w % 4294967296))
  twice-ending zero h = sym (ending-0 w)
  twice-ending (suc zero) h = sym (ending-1 w) ∙ twice-1
  twice-ending (suc (suc zero)) h = sym (ending-2 w) ∙ twice-2
  twice-ending (suc (suc (suc zero))) h = sym (ending-3 w) ∙ twice-3
  twice-ending (suc (suc (suc (suc r)))) h = absurd (omega arith)

-- a byte at a place of a word
pub placed-0 : {b : ℕ} → b < 256 → bytes4 b ≡ turns 0 (b ∷ 0 ∷ 0 ∷ 0 ∷ [])
unfolding bytes4
placed-0 h = list4 (omega arith) (omega arith) (omega arith) (omega arith)

pub placed-1 : {b : ℕ} → b < 256 → bytes4 (b * 256) ≡ turns 1 (b ∷ 0 ∷ 0 ∷ 0 ∷ [])
unfolding bytes4
placed-1 h = list4 (omega arith) (omega arith) (omega arith) (omega arith)

pub placed-2 : {b : ℕ} → b < 256 → bytes4 (b * 65536) ≡ turns 2 (b ∷ 0 ∷ 0 ∷ 0 ∷ [])
unfolding bytes4
placed-2 h = list4 (omega arith) (omega arith) (omega arith) (omega arith)

pub placed-3 : {b : ℕ} → b < 256 → bytes4 (b * 16777216) ≡ turns 3 (b ∷ 0 ∷ 0 ∷ 0 ∷ [])
unfolding bytes4
placed-3 h = list4 (omega arith) (omega arith) (omega arith) (omega arith)

-- ---- rows: the words of q have the row's bytes from place r on
abbrev pub Ahead : List ℕ → ℕ → Quad → Type 0
Ahead row r q =
    (q.a % 256 ≡ get_or row r 0) × ((q.b / 256 % 256 ≡ get_or row (r + 1) 0) × ((q.c / 65536 % 256 ≡ get_or row (r + 2) 0)
    × (q.d / 16777216 % 256 ≡ get_or row (r + 3) 0)))

pub ahead-all : (q : Quad) → Ahead (slant q.a q.b q.c q.d) 0 q
ahead-all q = (refl, (refl, (refl, refl)))

pub ahead-next : (row : List ℕ) (r : ℕ) (q : Quad) → length row ≡ 4 → Ahead row r q
    → Ahead row (r + 1) (record { a = q.b / 256; b = q.c / 256; c = q.d / 256; d = 0 })
ahead-next row r q l (ea, (eb, (ec, ed))) =
    let p : r + 2 ≡ r + 1 + 1 = omega arith in
    let s : r + 3 ≡ r + 1 + 2 = omega arith in
    let f : q.c / 256 / 256 % 256 ≡ q.c / 65536 % 256 = omega arith in
    let g : q.d / 256 / 65536 % 256 ≡ q.d / 16777216 % 256 = omega arith in (
      eb,
      (
        f ∙ ec ∙ ap (λ (i : ℕ). get_or row i 0) p,
        (g ∙ ed ∙ ap (λ (i : ℕ). get_or row i 0) s, sym (get_or-eq_default row 0 {n = r + 1 + 3} (omega arith))),
      ),
    )

gathered : (k a b c d : ℕ) → bit_xor (bit_xor (bit_xor (bit_xor k a) b) c) d ≡ bit_xor (bit_xor a (bit_xor b (bit_xor c d))) k
gathered k a b c d =
    xor_assoc (bit_xor (bit_xor k a) b) c d ∙ xor_assoc (bit_xor k a) b (bit_xor c d)
    ∙ xor_assoc k a (bit_xor b (bit_xor c d))
    ∙ xor_comm k (bit_xor a (bit_xor b (bit_xor c d)))

alone-0 : (k s : ℕ) → bit_xor (bit_xor (bit_xor (bit_xor k s) 0) 0) 0 ≡ bit_xor s k
alone-0 k s = xor_zero_r (bit_xor (bit_xor (bit_xor k s) 0) 0) ∙ xor_zero_r (bit_xor (bit_xor k s) 0)
    ∙ xor_zero_r (bit_xor k s) ∙ xor_comm k s

alone-1 : (k s : ℕ) → bit_xor (bit_xor (bit_xor (bit_xor k 0) s) 0) 0 ≡ bit_xor s k
alone-1 k s = ap (λ (t : ℕ). bit_xor (bit_xor (bit_xor t s) 0) 0) (xor_zero_r k) ∙ xor_zero_r (bit_xor (bit_xor k s) 0)
    ∙ xor_zero_r (bit_xor k s) ∙ xor_comm k s

alone-2 : (k s : ℕ) → bit_xor (bit_xor (bit_xor (bit_xor k 0) 0) s) 0 ≡ bit_xor s k
alone-2 k s = ap (λ (t : ℕ). bit_xor (bit_xor (bit_xor t 0) s) 0) (xor_zero_r k)
    ∙ ap (λ (t : ℕ). bit_xor (bit_xor t s) 0) (xor_zero_r k) ∙ xor_zero_r (bit_xor k s) ∙ xor_comm k s

alone-3 : (k s : ℕ) → bit_xor (bit_xor (bit_xor (bit_xor k 0) 0) 0) s ≡ bit_xor s k
alone-3 k s = ap (λ (t : ℕ). bit_xor (bit_xor (bit_xor t 0) 0) s) (xor_zero_r k)
    ∙ ap (λ (t : ℕ). bit_xor (bit_xor t 0) s) (xor_zero_r k) ∙ ap (λ (t : ℕ). bit_xor t s) (xor_zero_r k) ∙ xor_comm k s

module _ (x y z w k : ℕ) where
  abbrev row : List ℕ
  row = x ∷ y ∷ z ∷ w ∷ []

  pub mixed-sums : sums products row (bytes4 k) 4 ≡ add (mix_columns (sub_bytes row)) (bytes4 k)
  unfolding bytes4 products mix_columns columns cell sub_bytes add
  mixed-sums =
      list4 (gathered (k % 256) (mul (sbox x) 2) (mul (sbox y) 3) (mul (sbox z) 1) (mul (sbox w) 1))
      (gathered (k / 256 % 256) (mul (sbox x) 1) (mul (sbox y) 2) (mul (sbox z) 3) (mul (sbox w) 1))
      (gathered (k / 65536 % 256) (mul (sbox x) 1) (mul (sbox y) 1) (mul (sbox z) 2) (mul (sbox w) 3))
      (gathered (k / 16777216 % 256) (mul (sbox x) 3) (mul (sbox y) 1) (mul (sbox z) 1) (mul (sbox w) 2))

  pub unmixed-sums : sums (λ (v : ℕ). sbox v ∷ 0 ∷ 0 ∷ 0 ∷ []) row (bytes4 k) 4 ≡ add (sub_bytes row) (bytes4 k)
  unfolding bytes4 sub_bytes add
  unmixed-sums =
      list4 (alone-0 (k % 256) (sbox x)) (alone-1 (k / 256 % 256) (sbox y)) (alone-2 (k / 65536 % 256) (sbox z))
      (alone-3 (k / 16777216 % 256) (sbox w))

  pub back-mixed-sums : sums (λ (v : ℕ). unproducts (unsbox v)) row (bytes4 k) 4
      ≡ add (unmix_columns (unsub_bytes row)) (bytes4 k)
  unfolding bytes4 unproducts unmix_columns columns cell unsub_bytes add
  back-mixed-sums =
      list4 (gathered (k % 256) (mul (unsbox x) 14) (mul (unsbox y) 11) (mul (unsbox z) 13) (mul (unsbox w) 9))
      (gathered (k / 256 % 256) (mul (unsbox x) 9) (mul (unsbox y) 14) (mul (unsbox z) 11) (mul (unsbox w) 13))
      (gathered (k / 65536 % 256) (mul (unsbox x) 13) (mul (unsbox y) 9) (mul (unsbox z) 14) (mul (unsbox w) 11))
      (gathered (k / 16777216 % 256) (mul (unsbox x) 11) (mul (unsbox y) 13) (mul (unsbox z) 9) (mul (unsbox w) 14))

  pub back-unmixed-sums : sums (λ (v : ℕ). unsbox v ∷ 0 ∷ 0 ∷ 0 ∷ []) row (bytes4 k) 4
      ≡ add (unsub_bytes row) (bytes4 k)
  unfolding bytes4 unsub_bytes add
  back-unmixed-sums =
      list4 (alone-0 (k % 256) (unsbox x)) (alone-1 (k / 256 % 256) (unsbox y)) (alone-2 (k / 65536 % 256) (unsbox z))
      (alone-3 (k / 16777216 % 256) (unsbox w))

-- ---- columns
done-suc : (f : ℕ → List ℕ) (j : ℕ) (o : Quad) (x : ℕ) → j < 4 → Done f j o → bytes4 x ≡ f j
    → Done f (suc j) (record { a = o.b; b = o.c; c = o.d; d = x })
done-suc f zero o x h d e = e
done-suc f (suc zero) o x h d e = (d, e)
done-suc f (suc (suc zero)) o x h (p, q) e = (p, (q, e))
done-suc f (suc (suc (suc zero))) o x h (p, (q, r)) e = (p, (q, (r, e)))
done-suc f (suc (suc (suc (suc j)))) o x h d e = absurd (omega arith)

pub done_next : (f : ℕ → List ℕ) (j : ℕ) (o : Quad) (x : ℕ) → j < 4 → Done f j o → bytes4 x ≡ f j
    → Done f (j + 1) (record { a = o.b; b = o.c; c = o.d; d = x })
done_next f j o x h d e = rw (add-one j) (done-suc f j o x h d e)

add-append : (p q s t : List ℕ) → length p ≡ length q → add (p ++ s) (q ++ t) ≡ add p q ++ add s t
unfolding add
add-append [] [] s t e = refl
add-append [] (b ∷ q) s t e = absurd (omega arith)
add-append (a ∷ p) [] s t e = absurd (omega arith)
add-append (a ∷ p) (b ∷ q) s t e = ap (λ (l : List ℕ). bit_xor a b ∷ l) (add-append p q s t (omega arith))

-- four columns with their words of a round key are the block with the round key
module _ (l : List ℕ) (at : ℕ) (h : at + 16 ≤ length l) where
  key-long : (i : ℕ) → i + 4 ≤ 16 → length (take 4 (drop (at + i) l)) ≡ 4
  key-long i g = length-take-le 4 (drop (at + i) l) (omega (arith, length-drop (at + i) l))

  pub keyed : (p q r s : List ℕ) → length p ≡ 4 → length q ≡ 4 → length r ≡ 4
      → add p (take 4 (drop (at + 0 * 4) l)) ++ (add q (take 4 (drop (at + 1 * 4) l)) ++
      (add r (take 4 (drop (at + 2 * 4) l)) ++ add s (take 4 (drop (at + 3 * 4) l))))
      ≡ add (p ++ (q ++ (r ++ s))) (take 16 (drop at l))
  keyed p q r s lp lq lr =
      let k0 = take 4 (drop (at + 0) l) in
      let k1 = take 4 (drop (at + 4) l) in
      let k2 = take 4 (drop (at + 8) l) in
      let k3 = take 4 (drop (at + 12) l) in
      sym (add-append p k0 (q ++ (r ++ s)) (k1 ++ (k2 ++ k3)) (lp ∙ sym (key-long 0 (lit< tt)))
      ∙ ap (λ (t : List ℕ). add p k0 ++ t) (add-append q k1 (r ++ s) (k2 ++ k3) (lq ∙ sym (key-long 4 (lit< tt)))
      ∙ ap (λ (t : List ℕ). add q k1 ++ t) (add-append r k2 s k3 (lr ∙ sym (key-long 8 (lit< tt))))))
      ∙ ap (add (p ++ (q ++ (r ++ s)))) (ap (λ (i : ℕ). take 4 (drop i l) ++ (k1 ++ (k2 ++ k3))) (add-zero at)
      ∙ sym (quarters l at))
