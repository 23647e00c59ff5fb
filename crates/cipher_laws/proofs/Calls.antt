-- The theorems on one call and on two. Assumes nothing.
use mathlib.Core.Path.{◌≡◌, refl, ap, ◌∙◌}
use mathlib.Core.Bool.{Bool, true, false}
use mathlib.Core.List.{List, ◌++◌}
use Prim.Native.Nat.{ℕ, ◌+◌, ◌*◌, ◌/◌, ◌%◌}
use native.Mathlib.Omega.{arith}
use borrow.Author.Tests.{eq-eqb, ne_eqb, eqb-true}
use lib.Dec.{eqb}
use lib.ListN.{length, length-append}
use lib.Seq.{take_all}
use Rattle.std.specs.Prelude.{Ok, Err}
use Rattle.std.specs.Result.{IsOk}
use Rattle.refusal.specs.declared.Refusal.TheVariants.{NotWholeBlocks}
use Rattle.wire.specs.Choice.{pick}
use Rattle.aes.specs.Aes.{add, keys, cipher, decipher}
use Rattle.aes.specs.Back.{back_keys, back_cipher}
use Rattle.aes.specs.Cbc.{block_at, vector, encipher, encipher_answer, encipher_buffer, encipher_vector, next_vector}
use Rattle.aes.specs.Cbc.{before, decipher_all, decipher_answer, decipher_buffer, decipher_vector}
use Rattle.cipher_laws.specs.Sizes.{Bytes, Sized, Whole}
use Rattle.cipher_laws.specs.Pieces.{forth, back, Joined, Stays}
use Rattle.cipher_laws.proofs.Blocks.{Block, block_of, bytes-in, long-in}
use Rattle.cipher_laws.proofs.Schedule.{keys_of}
use Rattle.cipher_laws.proofs.Undo.{undo}
use Rattle.cipher_laws.proofs.Back.{back_is, by_blocks}
use Rattle.cipher_laws.proofs.Cbc.{block-at, block_back, block-vector}
use Rattle.cipher_laws.proofs.Cbc.{block-before, long-back, long-encipher, long-decipher}
use Rattle.cipher_laws.proofs.Cbc.{bytes-encipher, bytes-decipher, before_at, undo-cbc}
use Rattle.cipher_laws.proofs.Cbc.{encipher-on, vector_on, decipher-on, before_on}

-- UNDONE: for every key, vector and buffer of whole blocks, deciphering what enciphering left, from the same vector,
-- gives the buffer back; and it answers as enciphering did, with the same vector, so that the next calls start alike
pub undone : {key v : List ℕ} (s : List ℕ) → Sized 32 key → Sized 16 v → Bytes s → Whole s
    → (decipher_buffer (back_cipher (back_keys (keys key))) v (encipher_buffer (keys key) v s) ≡ s)
    × (decipher_answer v (encipher_buffer (keys key) v s) ≡ encipher_answer (keys key) v s)
unfolding decipher_buffer encipher_buffer decipher_answer encipher_answer
undone {key} {v} s h hv u e =
    let n = length s / 16 in
    let w = keys key in
    let k = keys_of h in
    let b = block_of hv in
    let m : length s ≡ n * 16 = omega arith in
    let t = eq-eqb (length s % 16) 0 e in
    let c = encipher w v s n in
    let bs = block-at n s m u in
    let lc : length c ≡ n * 16 = long-encipher w v s n k.long in
    let p : length c % 16 ≡ 0 = omega arith in
    let q : length c / 16 ≡ n = omega arith in (
      rw (t, eq-eqb (length c % 16) 0 p, q)
          (by_blocks (back_cipher (back_keys w)) (decipher w) (back_is k) v c n
          ∙ undo-cbc s k b n bs ∙ take_all (n * 16) s (omega arith)),
      rw (t, eq-eqb (length c % 16) 0 p, q, before_at s k b n bs n (omega arith)) refl,
    )

-- one block of the standard's cipher
pub block-undone : {key s : List ℕ} → Sized 32 key → Sized 16 s → decipher (keys key) (cipher (keys key) s) ≡ s
block-undone h b = undo (keys_of h) (block_of b)

-- a buffer of whole blocks is never refused
pub done-forth : (w v s : List ℕ) → Whole s → IsOk (encipher_answer w v s)
unfolding encipher_answer
done-forth w v s e = rw (eq-eqb (length s % 16) 0 e)

pub done-back : (v s : List ℕ) → Whole s → IsOk (decipher_answer v s)
unfolding decipher_answer
done-back v s e = rw (eq-eqb (length s % 16) 0 e)

-- ---- JOINED: two calls in a row, the second from the first one's vector, are one on the joined buffer, both ways

pub joined-forth : (w v s t : List ℕ) → Whole s → Whole t → Joined (forth w) v s t
unfolding encipher_buffer encipher_answer next_vector
joined-forth w v s t e f =
    let n = length s / 16 in
    let m = length t / 16 in
    let l : length (s ++ t) ≡ length s + length t = length-append s t in
    let p = eq-eqb (length (s ++ t) % 16) 0 (omega arith) in
    let q : length (s ++ t) / 16 ≡ n + m = omega arith in
    let i : length s ≡ n * 16 = omega arith in
    let a = eq-eqb (length s % 16) 0 e in
    let b = eq-eqb (length t % 16) 0 f in
    record {
      buffers = rw (p, a, b, q) (encipher-on v s t n i w m);
      answers = rw (p, a, b, q, vector_on v s t n i w m) refl;
      vectors = rw (p, a, b, q, vector_on v s t n i w m) refl;
    }

pub joined_back : (d v s t : List ℕ) → Whole s → Whole t → Joined (back d) v s t
unfolding decipher_buffer decipher_answer next_vector
joined_back d v s t e f =
    let n = length s / 16 in
    let m = length t / 16 in
    let l : length (s ++ t) ≡ length s + length t = length-append s t in
    let p = eq-eqb (length (s ++ t) % 16) 0 (omega arith) in
    let q : length (s ++ t) / 16 ≡ n + m = omega arith in
    let i : length s ≡ n * 16 = omega arith in
    let a = eq-eqb (length s % 16) 0 e in
    let b = eq-eqb (length t % 16) 0 f in
    record {
      buffers = rw (p, a, b, q) (decipher-on v s t n i (back_cipher d) m);
      answers = rw (p, a, b, q, before_on v s t n i m) refl;
      vectors = rw (p, a, b, q, before_on v s t n i m) refl;
    }

-- where t is not of whole blocks, one call on both and the second of two are refused alike. The one then leaves all as
-- it was; of the two the first was done: by `stays-forth` and `stays-back`

pub answered-forth : (w v s t : List ℕ) → Whole s
    → encipher_answer w v (s ++ t) ≡ encipher_answer w (encipher_vector w v s) t
unfolding encipher_answer
answered-forth w v s t e = go (eqb (length t % 16) 0) refl
  where
    go : (b : Bool) → eqb (length t % 16) 0 ≡ b
        → encipher_answer w v (s ++ t) ≡ encipher_answer w (encipher_vector w v s) t
    go true f = (joined-forth w v s t e (eqb-true (length t % 16) 0 f)).answers
    go false f =
        let l : length (s ++ t) ≡ length s + length t = length-append s t in
        let m : length (s ++ t) % 16 ≡ length t % 16 = omega arith in
        rw (m, f)

pub answered-back : (v s t : List ℕ) → Whole s
    → decipher_answer v (s ++ t) ≡ decipher_answer (decipher_vector v s) t
unfolding decipher_answer
answered-back v s t e = go (eqb (length t % 16) 0) refl
  where
    go : (b : Bool) → eqb (length t % 16) 0 ≡ b
        → decipher_answer v (s ++ t) ≡ decipher_answer (decipher_vector v s) t
    go true f = (joined_back s v s t e (eqb-true (length t % 16) 0 f)).answers
    go false f =
        let l : length (s ++ t) ≡ length s + length t = length-append s t in
        let m : length (s ++ t) % 16 ≡ length t % 16 = omega arith in
        rw (m, f)

pub stays-forth : (w v s : List ℕ) → (Whole s → ⊥) → Stays (forth w) v s
unfolding encipher_buffer encipher_answer next_vector
stays-forth w v s n =
    let f = ne_eqb (length s % 16) 0 n in
    record { buffers = rw f; answers = rw f; vectors = rw f }

pub stays-back : (d v s : List ℕ) → (Whole s → ⊥) → Stays (back d) v s
unfolding decipher_buffer decipher_answer next_vector
stays-back d v s n =
    let f = ne_eqb (length s % 16) 0 n in
    record { buffers = rw f; answers = rw f; vectors = rw f }

-- ---- ONE BLOCK: a call on it is the standard's cipher of the sum with the vector, and back

pub one_block : (w v s : List ℕ) → length s ≡ 16
    → (encipher_buffer w v s ≡ cipher w (add v s))
    × (encipher_answer w v s ≡ Ok (cipher w (add v s)))
unfolding encipher_buffer encipher_answer encipher vector block_at
one_block w v s h = let e = take_all 16 s (omega arith) in (rw (h, e), rw (h, e))

one-back : (f : List ℕ → List ℕ) (v s : List ℕ) → length s ≡ 16 → decipher_buffer f v s ≡ add (f s) v
unfolding decipher_buffer decipher_all before block_at
one-back f v s h = let e = take_all 16 s (omega arith) in rw (h, e)

pub one-block-back : {w : List ℕ} (v s : List ℕ) → Sized 240 w → length s ≡ 16
    → (decipher_buffer (back_cipher (back_keys w)) v s ≡ add (decipher w s) v)
    × (decipher_answer v s ≡ Ok s)
unfolding decipher_answer before block_at
one-block-back {w} v s k h =
    let e = take_all 16 s (omega arith) in
    (one-back (back_cipher (back_keys w)) v s h ∙ ap (λ (x : List ℕ). add x v) (back_is k s), rw (h, e))

-- ---- SIZES: a call keeps the buffer's length, and what it leaves is bytes; the vector that it hands back is a block

pub sizes-forth : (w v s : List ℕ) → length w ≡ 240 → length (encipher_buffer w v s) ≡ length s
unfolding encipher_buffer
sizes-forth w v s k = go (eqb (length s % 16) 0) refl
  where
    go : (b : Bool) → eqb (length s % 16) 0 ≡ b → length (pick b (encipher w v s (length s / 16)) s) ≡ length s
    go true e = long-encipher w v s (length s / 16) k ∙ omega (arith, eqb-true (length s % 16) 0 e)
    go false e = refl

pub sizes-back : (d v s : List ℕ) → length d ≡ 240 → length v ≡ 16
    → length (decipher_buffer (back_cipher d) v s) ≡ length s
unfolding decipher_buffer
sizes-back d v s k lv = go (eqb (length s % 16) 0) refl
  where
    go : (b : Bool) → eqb (length s % 16) 0 ≡ b
        → length (pick b (decipher_all (back_cipher d) v s (length s / 16)) s) ≡ length s
    go true e =
        let m = eqb-true (length s % 16) 0 e in
        long-decipher (back_cipher d) v s (λ x. long-back d x k) lv (length s / 16) (omega arith) ∙ omega arith
    go false e = refl

sized-block : {s : List ℕ} → Block s → Sized 16 s
sized-block b = record { long = long-in b; low = bytes-in b }

pub bytes-forth : {w v : List ℕ} (s : List ℕ) → Sized 240 w → Sized 16 v → Bytes s
    → Bytes (encipher_buffer w v s) × Sized 16 (encipher_vector w v s)
unfolding encipher_buffer encipher_answer next_vector
bytes-forth {w} {v} s k hv u = go (eqb (length s % 16) 0) refl
  where
    go : (b : Bool) → eqb (length s % 16) 0 ≡ b
        → Bytes (pick b (encipher w v s (length s / 16)) s)
        × Sized 16 (next_vector v (pick b (Ok (vector w v s (length s / 16))) (Err NotWholeBlocks)))
    go true e =
        let m = eqb-true (length s % 16) 0 e in
        let n = length s / 16 in
        let bs = block-at n s (omega arith) u in
        (bytes-encipher s k (block_of hv) n bs, sized-block (block-vector s k (block_of hv) n bs))
    go false e = (u, hv)

pub bytes_back : {d v : List ℕ} (s : List ℕ) → Sized 240 d → Sized 16 v → Bytes s
    → Bytes (decipher_buffer (back_cipher d) v s) × Sized 16 (decipher_vector v s)
unfolding decipher_buffer decipher_answer next_vector
bytes_back {d} {v} s k hv u = go (eqb (length s % 16) 0) refl
  where
    go : (b : Bool) → eqb (length s % 16) 0 ≡ b
        → Bytes (pick b (decipher_all (back_cipher d) v s (length s / 16)) s)
        × Sized 16 (next_vector v (pick b (Ok (before v s (length s / 16))) (Err NotWholeBlocks)))
    go true e =
        let m = eqb-true (length s % 16) 0 e in
        let n = length s / 16 in
        let bs = block-at n s (omega arith) u in
        let f : (b : List ℕ) → Block b → Block (back_cipher d b) = λ b h. block_back k h in (
          bytes-decipher (back_cipher d) s f (block_of hv) n bs,
          sized-block (block-before (back_cipher d) s f (block_of hv) n bs),
        )
    go false e = (u, hv)
