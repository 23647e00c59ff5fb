-- The equivalent inverse cipher is the inverse cipher (FIPS 197, 5.3.5). Assumes nothing.
use mathlib.Core.Path.{◌≡◌, refl, sym, ap, ap₂, ◌∙◌}
use mathlib.Core.List.{List, ◌++◌, append_assoc}
use Prim.Native.Nat.{ℕ, zero, suc, ◌-◌, ◌*◌, ◌<◌, ◌≤◌}
use native.Mathlib.Omega.{arith}
use mathlib.Core.Bool.{Bool, true, false}
use lib.Dec.{eqb}
use borrow.Author.Tests.{eqb-true, eqb-false}
use lib.ListN.{length, take, drop, length-append}
use lib.Seq.{take_at, drop_at, take_all}
use Rattle.aes.specs.Aes.{add, unsub_bytes, unshift_rows, unmix_columns, round_key, unrounds, decipher}
use Rattle.aes.specs.Back.{back_to, back_keys, back_rounds, back_cipher}
use Rattle.aes.specs.Cbc.{block_at, before, decipher_all}
use Rattle.cipher_laws.proofs.Linear.{columns-add}
use Rattle.cipher_laws.specs.Sizes.{Sized}
use Rattle.cipher_laws.proofs.Blocks.{Block, block-key, long-in, long-columns}

unmix-add : (s u : List ℕ) → unmix_columns (add s u) ≡ add (unmix_columns s) (unmix_columns u)
unfolding unmix_columns
unmix-add s u = columns-add 14 11 13 9 s u

-- one round: q before it, and r after it
back_step : (n : ℕ) (w q r : List ℕ)
    → r ≡ add (unmix_columns (unsub_bytes (unshift_rows q))) (unmix_columns (round_key (suc n) w))
    → unrounds (suc n) w (unsub_bytes (unshift_rows q)) ≡ unrounds n w (unsub_bytes (unshift_rows r))
unfolding unrounds
back_step n w q r e =
    ap (λ (s : List ℕ). unrounds n w (unsub_bytes (unshift_rows s)))
    (unmix-add (unsub_bytes (unshift_rows q)) (round_key (suc n) w) ∙ sym e)

lt_of : (r n : ℕ) → r < suc n → (r ≡ n → ⊥) → r < n
lt_of r n h f = omega arith

-- ---- the keys
long-unmix : {s : List ℕ} → Block s → length (unmix_columns s) ≡ 16
unfolding unmix_columns
long-unmix b = long-columns 14 11 13 9 b

module _ {w : List ℕ} (k : Sized 240 w) where
  pub long-to : (n : ℕ) → n ≤ 13 → length (back_to n w) ≡ suc n * 16
  unfolding back_to
  long-to zero h = long-in (block-key 0 k (omega arith))
  long-to (suc n) h =
      length-append (back_to n w) (unmix_columns (round_key (suc n) w))
      ∙ omega (arith, long-to n (omega arith), long-unmix (block-key (suc n) k (omega arith)))

  pub long-back-keys : length (back_keys w) ≡ 240
  unfolding back_keys
  long-back-keys =
      length-append (back_to 13 w) (round_key 14 w)
      ∙ omega (arith, long-to 13 (omega arith), long-in (block-key 14 k (omega arith)))

  -- the key of a round that is there
  there : (n r : ℕ) → n ≤ 13 → r < n → (t : List ℕ)
      → take 16 (drop (16 * suc r) (back_to n w ++ t)) ≡ unmix_columns (round_key (suc r) w)
  unfolding back_to
  there zero r h i t = absurd (omega arith)
  there (suc n) r h i t = go (eqb r n) refl (λ j. there n r (omega arith) j (unmix_columns (round_key (suc n) w) ++ t))
    where
      go : (b : Bool) → eqb r n ≡ b
          → (r < n → take 16 (drop (16 * suc r) (back_to n w ++ (unmix_columns (round_key (suc n) w) ++ t)))
          ≡ unmix_columns (round_key (suc r) w))
          → take 16 (drop (16 * suc r) (back_to (suc n) w ++ t)) ≡ unmix_columns (round_key (suc r) w)
      go true e before =
          let f : r ≡ n = eqb-true r n e in
          let m = long-unmix (block-key (suc r) k (omega arith)) in
          let p : 16 * suc r ≡ length (back_to n w) = omega (arith, long-to n (omega arith)) in
          ap (λ (x : List ℕ). take 16 (drop (16 * suc r) x))
          (append_assoc (back_to n w) (unmix_columns (round_key (suc n) w)) t)
          ∙ ap (take 16) (drop_at (back_to n w) (unmix_columns (round_key (suc n) w) ++ t) (16 * suc r) (sym p))
          ∙ ap (λ (j : ℕ). take 16 (unmix_columns (round_key (suc j) w) ++ t)) (sym f)
          ∙ take_at (unmix_columns (round_key (suc r) w)) t 16 m
      go false e before =
          let g = eqb-false r n e in
          let j : r < n = lt_of r n i g in
          ap (λ (x : List ℕ). take 16 (drop (16 * suc r) x))
          (append_assoc (back_to n w) (unmix_columns (round_key (suc n) w)) t)
          ∙ before j

  first-there : (n : ℕ) (t : List ℕ) → take 16 (drop (16 * 0) (back_to n w ++ t)) ≡ round_key 0 w
  unfolding back_to
  first-there zero t = take_at (round_key 0 w) t 16 (long-in (block-key 0 k (omega arith)))
  first-there (suc n) t =
      ap (λ (x : List ℕ). take 16 (drop (16 * 0) x)) (append_assoc (back_to n w) (unmix_columns (round_key (suc n) w)) t)
      ∙ first-there n (unmix_columns (round_key (suc n) w) ++ t)

  last-there : round_key 14 (back_keys w) ≡ round_key 14 w
  unfolding back_keys round_key
  last-there =
      ap (take 16) (drop_at (back_to 13 w) (take 16 (drop 224 w)) 224 (long-to 13 (omega arith)))
      ∙ take_all 16 (take 16 (drop 224 w)) (omega (arith, long-in (block-key 14 k (omega arith))))

  mid-there : (r : ℕ) → r < 13 → round_key (suc r) (back_keys w) ≡ unmix_columns (round_key (suc r) w)
  unfolding back_keys round_key
  mid-there r h = there 13 r (omega arith) h (round_key 14 w)

  first_key : round_key 0 (back_keys w) ≡ round_key 0 w
  unfolding back_keys round_key
  first_key = first-there 13 (round_key 14 w)

  -- ---- the rounds
  rounds-back : (s : List ℕ) (m : ℕ) → m ≤ 13
      → unrounds 13 w (unsub_bytes (unshift_rows s))
      ≡ unrounds (13 - m) w (unsub_bytes (unshift_rows (back_rounds m (back_keys w) s)))
  unfolding back_rounds
  rounds-back s zero h = refl
  rounds-back s (suc m) h =
      let e : 13 - m ≡ suc (13 - suc m) = omega arith in
      let q = back_rounds m (back_keys w) s in
      let f : round_key (13 - m) (back_keys w) ≡ unmix_columns (round_key (suc (13 - suc m)) w) =
      ap (λ (j : ℕ). round_key j (back_keys w)) e ∙ mid-there (13 - suc m) (omega arith) in
      rounds-back s m (omega arith)
      ∙ ap (λ (j : ℕ). unrounds j w (unsub_bytes (unshift_rows q))) e
      ∙ back_step (13 - suc m) w q (back_rounds (suc m) (back_keys w) s)
      (ap (add (unmix_columns (unsub_bytes (unshift_rows q)))) f)

  -- THE EQUIVALENT INVERSE CIPHER is the inverse cipher, under the keys that are made for it
  pub back_is : (s : List ℕ) → back_cipher (back_keys w) s ≡ decipher w s
  unfolding back_cipher decipher unrounds
  back_is s =
      let x = add s (round_key 14 w) in
      ap₂ (λ (a b : List ℕ). add (unsub_bytes (unshift_rows (back_rounds 13 (back_keys w) (add s a)))) b) last-there
      first_key
      ∙ ap (λ (t : List ℕ). add t (round_key 0 w)) (sym (rounds-back x 13 (omega arith)))

-- ---- and so it is over any number of blocks
pub by_blocks : (f g : List ℕ → List ℕ) → ((s : List ℕ) → f s ≡ g s) → (v s : List ℕ) (n : ℕ)
    → decipher_all f v s n ≡ decipher_all g v s n
unfolding decipher_all
by_blocks f g e v s zero = refl
by_blocks f g e v s (suc n) =
    ap₂ ◌++◌ (by_blocks f g e v s n) (ap (λ (x : List ℕ). add x (before v s n)) (e (block_at n s)))
