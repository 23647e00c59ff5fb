-- CBC: deciphering undoes enciphering, and a call goes on where the one before it stopped. Assumes nothing.
use mathlib.Core.Path.{◌≡◌, refl, sym, ap, ap₂, ◌∙◌}
use mathlib.Core.List.{List, [], ◌∷◌, ◌++◌, append_assoc, append-nil}
use Prim.Native.Nat.{ℕ, zero, suc, ◌+◌, ◌*◌, ◌-◌, ◌≤◌, ◌<◌}
use native.Mathlib.Nat.{add-zero, add-suc, eq-or-lt_of_le}
use mathlib.Core.Logic.{⊎_elim}
use native.Mathlib.Omega.{arith}
use lib.Dec.{lit≤}
use lib.ListN.{length, take, drop, length-append, length-drop}
use lib.Seq.{take-add, drop-append-le, take-append-le, drop-append-add, length-take-le}
use lib.Bits.{xor_comm}
use Rattle.aes.specs.Aes.{add, sub_bytes, shift_rows, unsub_bytes, unshift_rows, round_key, rounds, cipher, decipher}
use Rattle.aes.specs.Back.{back_rounds, back_cipher}
use Rattle.aes.specs.Cbc.{block_at, vector, encipher, before, decipher_all}
use Rattle.cipher_laws.specs.Sizes.{Bytes, Sized}
use Rattle.cipher_laws.proofs.Blocks.{Block, block, shape, bytes-in, same-long}
use Rattle.cipher_laws.proofs.Blocks.{bytes_take, bytes_drop, bytes-append}
use Rattle.cipher_laws.proofs.Blocks.{long-key, long-shift, long-unshift, long-unsub}
use Rattle.cipher_laws.proofs.Blocks.{block-add, block-sub, block-shift, block-key, block-rounds}
use Rattle.cipher_laws.proofs.Blocks.{block-unsub, block-unshift, block-unmix}
use Rattle.cipher_laws.proofs.Undo.{undo, undo-add}

pub add_comm : (s t : List ℕ) → add s t ≡ add t s
unfolding add
add_comm [] [] = refl
add_comm [] (b ∷ t) = refl
add_comm (a ∷ s) [] = refl
add_comm (a ∷ s) (b ∷ t) = ap₂ ◌∷◌ (xor_comm a b) (add_comm s t)

-- ---- one block
pub block-cipher : {w s : List ℕ} → Sized 240 w → Block s → Block (cipher w s)
unfolding cipher
block-cipher k b =
    block-add (block-shift (block-sub (block-rounds 13 k (lit≤ tt) (block-add b (block-key 0 k (lit≤ tt))))))
    (block-key 14 k (lit≤ tt))

pub block-back-rounds : (n : ℕ) {d s : List ℕ} → Sized 240 d → n ≤ 13 → Block s → Block (back_rounds n d s)
unfolding back_rounds
block-back-rounds zero k l b = b
block-back-rounds (suc n) k l b =
    block-add (block-unmix (block-unsub (block-unshift (block-back-rounds n k (omega arith) b))))
    (block-key (13 - n) k (omega arith))

pub block_back : {d s : List ℕ} → Sized 240 d → Block s → Block (back_cipher d s)
unfolding back_cipher
block_back k b =
    block-add (block-unsub (block-unshift (block-back-rounds 13 k (lit≤ tt) (block-add b (block-key 14 k (lit≤ tt))))))
    (block-key 0 k (lit≤ tt))

-- its length, whatever is ciphered
long-add : (s t : List ℕ) → length s ≡ length t → length (add s t) ≡ length s
unfolding add
long-add [] t e = refl
long-add (a ∷ s) [] e = absurd (omega arith)
long-add (a ∷ s) (b ∷ t) e = ap suc (long-add s t (omega arith))

pub long-cipher : (w s : List ℕ) → length w ≡ 240 → length (cipher w s) ≡ 16
unfolding cipher
long-cipher w s h =
    let x = shift_rows (sub_bytes (rounds 13 w (add s (round_key 0 w)))) in
    let e : length x ≡ 16 = long-shift _ in
    long-add x (round_key 14 w) (e ∙ sym (long-key 14 w h (lit≤ tt))) ∙ e

pub long-back : (d s : List ℕ) → length d ≡ 240 → length (back_cipher d s) ≡ 16
unfolding back_cipher
long-back d s h =
    let y = unshift_rows (back_rounds 13 d (add s (round_key 14 d))) in
    let e : length (unsub_bytes y) ≡ 16 = long-unsub y ∙ long-unshift _ in
    long-add (unsub_bytes y) (round_key 0 d) (e ∙ sym (long-key 0 d h (lit≤ tt))) ∙ e

-- ---- the blocks of a list
pub long-at : (i : ℕ) (s : List ℕ) → i * 16 + 16 ≤ length s → length (block_at i s) ≡ 16
unfolding block_at
long-at i s h = length-take-le 16 (drop (i * 16) s) (rw length-drop (omega arith))

pub block-at : (n : ℕ) (s : List ℕ) → length s ≡ n * 16 → Bytes s → (i : ℕ) → i < n → Block (block_at i s)
unfolding block_at
block-at n s m u i h =
    shape (take 16 (drop (i * 16) s)) (long-at i s (omega arith))
    (bytes_take 16 (drop (i * 16) s) (bytes_drop (i * 16) s u))

-- one that lies in the first of two lists, and one that lies in the second
block-left : (i : ℕ) (s t : List ℕ) → i * 16 + 16 ≤ length s → block_at i (s ++ t) ≡ block_at i s
unfolding block_at
block-left i s t h =
    let a : i * 16 ≤ length s = omega arith in
    let b : 16 ≤ length (drop (i * 16) s) = simp length-drop (omega arith) in
    ap (take 16) (drop-append-le (i * 16) s t a) ∙ take-append-le 16 (drop (i * 16) s) t b

block-right : (n i : ℕ) (s t : List ℕ) → length s ≡ n * 16 → block_at (n + i) (s ++ t) ≡ block_at i t
unfolding block_at
block-right n i s t h =
    let e : (n + i) * 16 ≡ length s + i * 16 = omega arith in
    ap (λ (m : ℕ). take 16 (drop m (s ++ t))) e ∙ ap (take 16) (drop-append-add s t (i * 16))

pub block-whole : {s : List ℕ} → Block s → block_at 0 s ≡ s
unfolding block_at
block-whole (block h) = refl

-- ---- lengths: a block for a block
pub long-encipher : (w v s : List ℕ) (n : ℕ) → length w ≡ 240 → length (encipher w v s n) ≡ n * 16
unfolding encipher vector
long-encipher w v s zero k = refl
long-encipher w v s (suc n) k =
    let a = long-encipher w v s n k in
    let b = long-cipher w (add (vector w v s n) (block_at n s)) k in
    length-append (encipher w v s n) (vector w v s (suc n)) ∙ omega arith

module _ (f : List ℕ → List ℕ) (v s : List ℕ) (long : (b : List ℕ) → length (f b) ≡ 16) (lv : length v ≡ 16) where
  long-before : (i : ℕ) → i * 16 ≤ length s → length (before v s i) ≡ 16
  unfolding before
  long-before zero h = lv
  long-before (suc i) h = long-at i s (omega arith)

  pub long-decipher : (n : ℕ) → n * 16 ≤ length s → length (decipher_all f v s n) ≡ n * 16
  unfolding decipher_all
  long-decipher zero h = refl
  long-decipher (suc n) h =
      let a = long-decipher n (omega arith) in
      let x = f (block_at n s) in
      let y = before v s n in
      let b : length (add x y) ≡ 16 = long-add x y (long (block_at n s) ∙ sym (long-before n (omega arith)))
      ∙ long (block_at n s) in
      length-append (decipher_all f v s n) (add x y) ∙ omega arith

-- ---- bytes stay bytes, and deciphering undoes enciphering
module _ {w v : List ℕ} (s : List ℕ) (k : Sized 240 w) (bv : Block v) where
  pub block-vector : (n : ℕ) → ((i : ℕ) → i < n → Block (block_at i s)) → Block (vector w v s n)
  unfolding vector
  block-vector zero bs = bv
  block-vector (suc n) bs =
      block-cipher k (block-add (block-vector n (λ i h. bs i (omega arith))) (bs n (omega arith)))

  pub bytes-encipher : (n : ℕ) → ((i : ℕ) → i < n → Block (block_at i s)) → Bytes (encipher w v s n)
  unfolding encipher
  bytes-encipher zero bs = tt
  bytes-encipher (suc n) bs =
      bytes-append (encipher w v s n) (vector w v s (suc n)) (bytes-encipher n (λ i h. bs i (omega arith)))
      (bytes-in (block-vector (suc n) bs))

  -- the blocks of what was enciphered
  enciphered-at : (n : ℕ) → ((i : ℕ) → i < n → Block (block_at i s)) → (i : ℕ) → i < n
      → block_at i (encipher w v s n) ≡ vector w v s (suc i)
  unfolding encipher
  enciphered-at zero bs i h = absurd (omega arith)
  enciphered-at (suc n) bs i h =
      let bs' : (j : ℕ) → j < n → Block (block_at j s) = λ j l. bs j (omega arith) in
      let a : length (encipher w v s n) ≡ n * 16 = long-encipher w v s n k.long in
      ⊎_elim
      (λ (f : i ≡ n).
      let e : i ≡ n + 0 = omega arith in
      ap (λ (j : ℕ). block_at j (encipher w v s n ++ vector w v s (suc n))) e
      ∙ block-right n 0 (encipher w v s n) (vector w v s (suc n)) a
      ∙ block-whole (block-vector (suc n) bs)
      ∙ ap (λ (j : ℕ). vector w v s (suc j)) (sym f))
      (λ (l : i < n).
      let c : i * 16 + 16 ≤ length (encipher w v s n) = omega arith in
      block-left i (encipher w v s n) (vector w v s (suc n)) c ∙ enciphered-at n bs' i l)
      (eq-or-lt_of_le {n = i} {m = n} (omega arith))

  module _ (n : ℕ) (bs : (i : ℕ) → i < n → Block (block_at i s)) where
    -- what is before a ciphered block is the vector before the clear one; after all of them too
    pub before_at : (m : ℕ) → m ≤ n → before v (encipher w v s n) m ≡ vector w v s m
    unfolding before vector
    before_at zero h = refl
    before_at (suc m) h = enciphered-at n bs m (omega arith)

    one-back : (m : ℕ) → m < n
        → add (decipher w (block_at m (encipher w v s n))) (before v (encipher w v s n) m) ≡ block_at m s
    unfolding vector
    one-back m h =
        let x = block-vector m (λ i l. bs i (omega arith)) in
        let y = bs m h in
        ap₂ (λ (b c : List ℕ). add (decipher w b) c) (enciphered-at n bs m h) (before_at m (omega arith))
        ∙ ap (λ (b : List ℕ). add b (vector w v s m))
        (undo k (block-add x y) ∙ add_comm (vector w v s m) (block_at m s))
        ∙ undo-add (block_at m s) (vector w v s m) (same-long y x)

    back_to : (m : ℕ) → m ≤ n → decipher_all (decipher w) v (encipher w v s n) m ≡ take (m * 16) s
    unfolding decipher_all block_at
    back_to zero h = refl
    back_to (suc m) h =
        let e : m * 16 + 16 ≡ suc m * 16 = omega arith in
        ap₂ ◌++◌ (back_to m (omega arith)) (one-back m (omega arith)) ∙ sym (take-add (m * 16) 16 s)
        ∙ ap (λ (j : ℕ). take j s) e

    pub undo-cbc : decipher_all (decipher w) v (encipher w v s n) n ≡ take (n * 16) s
    undo-cbc = back_to n (omega arith)

module _ (f : List ℕ → List ℕ) {v : List ℕ} (s : List ℕ) (bf : (b : List ℕ) → Block b → Block (f b)) (bv : Block v)
  where
    pub block-before : (n : ℕ) → ((i : ℕ) → i < n → Block (block_at i s)) → Block (before v s n)
    unfolding before
    block-before zero bs = bv
    block-before (suc n) bs = bs n (omega arith)

    pub bytes-decipher : (n : ℕ) → ((i : ℕ) → i < n → Block (block_at i s)) → Bytes (decipher_all f v s n)
    unfolding decipher_all
    bytes-decipher zero bs = tt
    bytes-decipher (suc n) bs =
        bytes-append (decipher_all f v s n) (add (f (block_at n s)) (before v s n))
        (bytes-decipher n (λ i h. bs i (omega arith)))
        (bytes-in (block-add (bf (block_at n s) (bs n (omega arith))) (block-before n (λ i h. bs i (omega arith)))))

-- ---- from call to call
module _ (v s t : List ℕ) (n : ℕ) (long : length s ≡ n * 16) where
  module _ (w : List ℕ) where
    vector-in : (i : ℕ) → i ≤ n → vector w v (s ++ t) i ≡ vector w v s i
    unfolding vector
    vector-in zero h = refl
    vector-in (suc i) h =
        ap₂ (λ (a b : List ℕ). cipher w (add a b)) (vector-in i (omega arith)) (block-left i s t (omega arith))

    encipher-in : (i : ℕ) → i ≤ n → encipher w v (s ++ t) i ≡ encipher w v s i
    unfolding encipher
    encipher-in zero h = refl
    encipher-in (suc i) h = ap₂ ◌++◌ (encipher-in i (omega arith)) (vector-in (suc i) h)

    pub vector_on : (m : ℕ) → vector w v (s ++ t) (n + m) ≡ vector w (vector w v s n) t m
    unfolding vector
    vector_on zero = ap (vector w v (s ++ t)) (add-zero n) ∙ vector-in n (omega arith)
    vector_on (suc m) =
        ap (vector w v (s ++ t)) (add-suc n m)
        ∙ ap₂ (λ (a b : List ℕ). cipher w (add a b)) (vector_on m) (block-right n m s t long)

    -- enciphering s and then, from the vector that is left, t is enciphering both at once
    pub encipher-on : (m : ℕ) → encipher w v (s ++ t) (n + m) ≡ encipher w v s n ++ encipher w (vector w v s n) t m
    unfolding encipher
    encipher-on zero =
        ap (encipher w v (s ++ t)) (add-zero n) ∙ encipher-in n (omega arith) ∙ sym (append-nil (encipher w v s n))
    encipher-on (suc m) =
        ap (encipher w v (s ++ t)) (add-suc n m)
        ∙ ap₂ ◌++◌ (encipher-on m) (ap (vector w v (s ++ t)) (sym (add-suc n m)) ∙ vector_on (suc m))
        ∙ append_assoc (encipher w v s n) (encipher w (vector w v s n) t m) (vector w (vector w v s n) t (suc m))

  before-in : (i : ℕ) → i ≤ n → before v (s ++ t) i ≡ before v s i
  unfolding before
  before-in zero h = refl
  before-in (suc i) h = block-left i s t (omega arith)

  pub before_on : (m : ℕ) → before v (s ++ t) (n + m) ≡ before (before v s n) t m
  unfolding before
  before_on zero = ap (before v (s ++ t)) (add-zero n) ∙ before-in n (omega arith)
  before_on (suc m) = ap (before v (s ++ t)) (add-suc n m) ∙ block-right n m s t long

  module _ (f : List ℕ → List ℕ) where
    decipher-in : (i : ℕ) → i ≤ n → decipher_all f v (s ++ t) i ≡ decipher_all f v s i
    unfolding decipher_all
    decipher-in zero h = refl
    decipher-in (suc i) h =
        ap₂ ◌++◌ (decipher-in i (omega arith))
        (ap₂ (λ (a b : List ℕ). add (f a) b) (block-left i s t (omega arith)) (before-in i (omega arith)))

    -- and so for deciphering
    pub decipher-on : (m : ℕ) → decipher_all f v (s ++ t) (n + m) ≡ decipher_all f v s n
        ++ decipher_all f (before v s n) t m
    unfolding decipher_all
    decipher-on zero =
        ap (decipher_all f v (s ++ t)) (add-zero n) ∙ decipher-in n (omega arith)
        ∙ sym (append-nil (decipher_all f v s n))
    decipher-on (suc m) =
        ap (decipher_all f v (s ++ t)) (add-suc n m)
        ∙ ap₂ ◌++◌ (decipher-on m) (ap₂ (λ (a b : List ℕ). add (f a) b) (block-right n m s t long) (before_on m))
        ∙ append_assoc (decipher_all f v s n) (decipher_all f (before v s n) t m)
        (add (f (block_at m t)) (before (before v s n) t m))
