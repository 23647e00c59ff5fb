-- The inverse ciphers of crate aes are those of the standard's figures. Assumes nothing.
use mathlib.Core.Path.{◌≡◌, refl, ap, ◌∙◌}
use mathlib.Core.List.{List}
use Prim.Native.Nat.{ℕ, zero, suc, ◌-◌, ◌≤◌}
use native.Mathlib.Omega.{arith}
use lib.Dec.{lit≤}
use Rattle.aes.specs.Aes.{add, round_key, unshift_rows, unsub_bytes, placed, unmix_columns, unrounds, decipher}
use Rattle.aes.specs.Back.{back_rounds, back_cipher}
use Rattle.cipher_laws.specs.Sizes.{Sized}
use Rattle.cipher_laws.specs.Figures.{inverse_rounds, inverse_cipher, equivalent_rounds, equivalent_cipher}
use Rattle.cipher_laws.proofs.Blocks.{Block, block, block_of, block-add, block-key}
use Rattle.cipher_laws.proofs.Cbc.{block-back-rounds}

-- ---- figure 12
cut-otherwise : (n : ℕ) (w s : List ℕ)
    → unsub_bytes (unshift_rows (inverse_rounds n w s)) ≡ unrounds n w (unsub_bytes (unshift_rows s))
unfolding inverse_rounds unrounds
cut-otherwise zero w s = refl
cut-otherwise (suc n) w s = cut-otherwise n w (unmix_columns (add (unsub_bytes (unshift_rows s)) (round_key (suc n) w)))

pub figure-12 : (w s : List ℕ) → inverse_cipher w s ≡ decipher w s
unfolding inverse_cipher decipher
figure-12 w s = ap (λ (x : List ℕ). add x (round_key 0 w)) (cut-otherwise 13 w (add s (round_key 14 w)))

-- ---- figure 15: InvSubBytes and InvShiftRows in either order
either_order : {s : List ℕ} → Block s → unshift_rows (unsub_bytes s) ≡ unsub_bytes (unshift_rows s)
unfolding unsub_bytes unshift_rows placed
either_order (block u) = refl

same-rounds : (n : ℕ) {d s : List ℕ} → Sized 240 d → n ≤ 13 → Block s → equivalent_rounds n d s ≡ back_rounds n d s
unfolding equivalent_rounds back_rounds
same-rounds zero k l b = refl
same-rounds (suc n) {d} {s} k l b =
    ap (λ (x : List ℕ). add (unmix_columns (unshift_rows (unsub_bytes x))) (round_key (13 - n) d))
    (same-rounds n k (omega arith) b)
    ∙ ap (λ (x : List ℕ). add (unmix_columns x) (round_key (13 - n) d))
    (either_order (block-back-rounds n k (omega arith) b))

pub figure-15 : {d s : List ℕ} → Sized 240 d → Sized 16 s → equivalent_cipher d s ≡ back_cipher d s
unfolding equivalent_cipher back_cipher
figure-15 {d} {s} k h =
    let b = block-add (block_of h) (block-key 14 k (lit≤ tt)) in
    ap (λ (x : List ℕ). add (unshift_rows (unsub_bytes x)) (round_key 0 d)) (same-rounds 13 k (lit≤ tt) b)
    ∙ ap (λ (x : List ℕ). add x (round_key 0 d)) (either_order (block-back-rounds 13 k (lit≤ tt) b))
