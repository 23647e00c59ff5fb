-- Deciphering undoes enciphering, for every key and block. Assumes nothing.
use mathlib.Core.Path.{◌≡◌, refl, ap, ap₂, ◌∙◌}
use mathlib.Core.List.{List, [], ◌∷◌, ◌++◌}
use Prim.Native.Nat.{ℕ, zero, suc, ◌≤◌, ◌<◌}
use native.Mathlib.Omega.{arith}
use lib.Dec.{lit≤}
use lib.ListN.{length}
use lib.Bits.{bit_xor, xor_self, xor_zero_r}
use Rattle.aes.specs.Field.{mul}
use Rattle.aes.specs.Aes.{add, sub_bytes, unsub_bytes, placed, shift_rows, unshift_rows, cell}
use Rattle.aes.specs.Aes.{columns, mix_columns, unmix_columns, round_key, rounds, cipher, unrounds, decipher}
use Rattle.aes.proofs.Xor.{xor_assoc}
use Rattle.aes_bytes.proofs.Bytes.{unsbox-sbox, same, one, two, three}
use Rattle.cipher_laws.proofs.Linear.{four-eq, four-turn, cell-cell}
use Rattle.cipher_laws.specs.Sizes.{Bytes, Sized}
use Rattle.cipher_laws.proofs.Blocks.{Block, block, block-add, block-sub}
use Rattle.cipher_laws.proofs.Blocks.{block-shift, block-mix, block-key}
use Rattle.cipher_laws.proofs.Blocks.{block-rounds, bytes-in, same-long}

-- ---- SubBytes
pub undo-sub : (s : List ℕ) → Bytes s → unsub_bytes (sub_bytes s) ≡ s
unfolding sub_bytes unsub_bytes
undo-sub [] h = refl
undo-sub (b ∷ s) h = ap₂ ◌∷◌ (unsbox-sbox b h.0) (undo-sub s h.1)

-- ---- ShiftRows
pub undo-shift : {s : List ℕ} → Block s → unshift_rows (shift_rows s) ≡ s
unfolding shift_rows unshift_rows placed
undo-shift (block h) = refl

-- ---- AddRoundKey
xor-twice : (a b : ℕ) → bit_xor (bit_xor a b) b ≡ a
xor-twice a b = xor_assoc a b b ∙ ap (bit_xor a) (xor_self b) ∙ xor_zero_r a

pub undo-add : (s k : List ℕ) → length s ≡ length k → add (add s k) k ≡ s
unfolding add
undo-add [] k e = refl
undo-add (a ∷ s) [] e = absurd (omega arith)
undo-add (a ∷ s) (b ∷ k) e = ap₂ ◌∷◌ (xor-twice a b) (undo-add s k (omega arith))

-- ---- MixColumns
module _ (a b c d : ℕ) (ha : a < 256) (hb : b < 256) (hc : c < 256) (hd : d < 256) where
  row0 : cell 14 11 13 9 (cell 2 3 1 1 a b c d) (cell 1 2 3 1 a b c d) (cell 1 1 2 3 a b c d) (cell 3 1 1 2 a b c d)
      ≡ a
  row0 = cell-cell 14 11 13 9 2 3 1 1 a b c d ∙ four-eq (same a ha) (one b hb) (two c hc) (three d hd) ∙ xor_zero_r a

  row1 : cell 9 14 11 13 (cell 2 3 1 1 a b c d) (cell 1 2 3 1 a b c d) (cell 1 1 2 3 a b c d) (cell 3 1 1 2 a b c d)
      ≡ b
  row1 =
      cell-cell 9 14 11 13 2 3 1 1 a b c d
      ∙ four-eq
      (four-turn (mul (mul a 2) 9) (mul (mul a 1) 14) (mul (mul a 1) 11) (mul (mul a 3) 13) ∙ three a ha)
      (four-turn (mul (mul b 3) 9) (mul (mul b 2) 14) (mul (mul b 1) 11) (mul (mul b 1) 13) ∙ same b hb)
      (four-turn (mul (mul c 1) 9) (mul (mul c 3) 14) (mul (mul c 2) 11) (mul (mul c 1) 13) ∙ one c hc)
      (four-turn (mul (mul d 1) 9) (mul (mul d 1) 14) (mul (mul d 3) 11) (mul (mul d 2) 13) ∙ two d hd)
      ∙ xor_zero_r b

  row2 : cell 13 9 14 11 (cell 2 3 1 1 a b c d) (cell 1 2 3 1 a b c d) (cell 1 1 2 3 a b c d) (cell 3 1 1 2 a b c d)
      ≡ c
  row2 =
      cell-cell 13 9 14 11 2 3 1 1 a b c d
      ∙ four-eq
      (four-turn (mul (mul a 2) 13) (mul (mul a 1) 9) (mul (mul a 1) 14) (mul (mul a 3) 11)
      ∙ four-turn (mul (mul a 1) 9) (mul (mul a 1) 14) (mul (mul a 3) 11) (mul (mul a 2) 13) ∙ two a ha)
      (four-turn (mul (mul b 3) 13) (mul (mul b 2) 9) (mul (mul b 1) 14) (mul (mul b 1) 11)
      ∙ four-turn (mul (mul b 2) 9) (mul (mul b 1) 14) (mul (mul b 1) 11) (mul (mul b 3) 13) ∙ three b hb)
      (four-turn (mul (mul c 1) 13) (mul (mul c 3) 9) (mul (mul c 2) 14) (mul (mul c 1) 11)
      ∙ four-turn (mul (mul c 3) 9) (mul (mul c 2) 14) (mul (mul c 1) 11) (mul (mul c 1) 13) ∙ same c hc)
      (four-turn (mul (mul d 1) 13) (mul (mul d 1) 9) (mul (mul d 3) 14) (mul (mul d 2) 11)
      ∙ four-turn (mul (mul d 1) 9) (mul (mul d 3) 14) (mul (mul d 2) 11) (mul (mul d 1) 13) ∙ one d hd)
      ∙ xor_zero_r c

  row3 : cell 11 13 9 14 (cell 2 3 1 1 a b c d) (cell 1 2 3 1 a b c d) (cell 1 1 2 3 a b c d) (cell 3 1 1 2 a b c d)
      ≡ d
  row3 =
      cell-cell 11 13 9 14 2 3 1 1 a b c d
      ∙ four-eq
      (four-turn (mul (mul a 2) 11) (mul (mul a 1) 13) (mul (mul a 1) 9) (mul (mul a 3) 14)
      ∙ four-turn (mul (mul a 1) 13) (mul (mul a 1) 9) (mul (mul a 3) 14) (mul (mul a 2) 11)
      ∙ four-turn (mul (mul a 1) 9) (mul (mul a 3) 14) (mul (mul a 2) 11) (mul (mul a 1) 13) ∙ one a ha)
      (four-turn (mul (mul b 3) 11) (mul (mul b 2) 13) (mul (mul b 1) 9) (mul (mul b 1) 14)
      ∙ four-turn (mul (mul b 2) 13) (mul (mul b 1) 9) (mul (mul b 1) 14) (mul (mul b 3) 11)
      ∙ four-turn (mul (mul b 1) 9) (mul (mul b 1) 14) (mul (mul b 3) 11) (mul (mul b 2) 13) ∙ two b hb)
      (four-turn (mul (mul c 1) 11) (mul (mul c 3) 13) (mul (mul c 2) 9) (mul (mul c 1) 14)
      ∙ four-turn (mul (mul c 3) 13) (mul (mul c 2) 9) (mul (mul c 1) 14) (mul (mul c 1) 11)
      ∙ four-turn (mul (mul c 2) 9) (mul (mul c 1) 14) (mul (mul c 1) 11) (mul (mul c 3) 13) ∙ three c hc)
      (four-turn (mul (mul d 1) 11) (mul (mul d 1) 13) (mul (mul d 3) 9) (mul (mul d 2) 14)
      ∙ four-turn (mul (mul d 1) 13) (mul (mul d 3) 9) (mul (mul d 2) 14) (mul (mul d 1) 11)
      ∙ four-turn (mul (mul d 3) 9) (mul (mul d 2) 14) (mul (mul d 1) 11) (mul (mul d 1) 13) ∙ same d hd)

  column : (s t : List ℕ) → s ≡ t
      → columns 14 11 13 9 (cell 2 3 1 1 a b c d ∷ cell 1 2 3 1 a b c d ∷ cell 1 1 2 3 a b c d ∷ cell 3 1 1 2 a b c
      d ∷ []) ++ s ≡ a ∷ b ∷ c ∷ d ∷ t
  unfolding columns
  column s t e = ap₂ ◌∷◌ row0 (ap₂ ◌∷◌ row1 (ap₂ ◌∷◌ row2 (ap₂ ◌∷◌ row3 e)))

pub undo-mix : {s : List ℕ} → Block s → unmix_columns (mix_columns s) ≡ s
unfolding mix_columns unmix_columns columns
undo-mix (block {a} {b} {c} {d} {e} {f} {g} {h} {i} {j} {k} {l} {m} {n} {o} {p}
    (ha, (hb, (hc, (hd, (he, (hf, (hg, (hh, (hi, (hj, (hk, (hl, (hm, (hn, (ho, (hp, z))))))))))))))))) =
    column a b c d ha hb hc hd _ _
    (column e f g h he hf hg hh _ _ (column i j k l hi hj hk hl _ _ (column m n o p hm hn ho hp [] [] refl)))

-- ---- a round, the rounds, the whole
undo-rounds : (n : ℕ) {w s : List ℕ} → Sized 240 w → n ≤ 13 → Block s → unrounds n w (rounds n w s) ≡ s
unfolding rounds unrounds
undo-rounds zero k l b = refl
undo-rounds (suc n) {w} {s} k l b =
    let x = block-rounds n k (omega arith) b in
    let y = block-mix (block-shift (block-sub x)) in
    ap (λ (t : List ℕ). unrounds n w (unsub_bytes (unshift_rows (unmix_columns t))))
    (undo-add _ _ (same-long y (block-key (suc n) k (omega arith))))
    ∙ ap (λ (t : List ℕ). unrounds n w (unsub_bytes (unshift_rows t))) (undo-mix (block-shift (block-sub x)))
    ∙ ap (λ (t : List ℕ). unrounds n w (unsub_bytes t)) (undo-shift (block-sub x))
    ∙ ap (unrounds n w) (undo-sub _ (bytes-in x))
    ∙ undo-rounds n k (omega arith) b

pub undo : {w s : List ℕ} → Sized 240 w → Block s → decipher w (cipher w s) ≡ s
unfolding cipher decipher
undo {w} {s} k b =
    let x = block-add b (block-key 0 k (lit≤ tt)) in
    let y = block-rounds 13 k (lit≤ tt) x in
    ap (λ (t : List ℕ). add (unrounds 13 w (unsub_bytes (unshift_rows t))) (round_key 0 w))
    (undo-add _ _ (same-long (block-shift (block-sub y)) (block-key 14 k (lit≤ tt))))
    ∙ ap (λ (t : List ℕ). add (unrounds 13 w (unsub_bytes t)) (round_key 0 w)) (undo-shift (block-sub y))
    ∙ ap (λ (t : List ℕ). add (unrounds 13 w t) (round_key 0 w)) (undo-sub _ (bytes-in y))
    ∙ ap (λ (t : List ℕ). add t (round_key 0 w)) (undo-rounds 13 k (lit≤ tt) x)
    ∙ undo-add _ _ (same-long b (block-key 0 k (lit≤ tt)))
