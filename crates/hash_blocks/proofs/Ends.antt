-- A message filled up: its own whole blocks, then its last one or two. Assumes nothing.
use Rattle.std.proofs.Common.{◌≡◌, ℕ, zero, suc, ◌+◌, ◌*◌, ◌-◌, ◌/◌, ◌%◌, ◌≤◌, ◌<◌, Bool, true, false, List, ◌∷◌, ◌++◌, length, take, drop, replicate, get_or, refl, sym, ap, ap₂, ◌∙◌, append_assoc, add-suc, add-zero, zero-add, zero-mul, arith, length-append, length-drop, length-take-le}
use Rattle.std.proofs.lemmas.List.{length-replicate, length-reverse, take-append-drop, take-append-le, drop-append-le, drop-drop, take_at}
use Rattle.std.proofs.lemmas.List.Edits.{sets}
use lib.Seq.{sets-eq, drop-append-add}
use Rattle.std.specs.Simd.{first_chunks}
use Rattle.wire.specs.Bytes.{part, bytes}
use Rattle.wire.proofs.ByteLaws.{length-bytes}
use Rattle.wire.proofs.StoreLaws.{runs-4, lent}
use Rattle.hash_blocks.specs.Blocks.{length_bytes, zeros_for, fill_of, filled, end_of, chained, hashed}

length-length : (high : Bool) (x : ℕ) → length (length_bytes high x) ≡ 8
unfolding length_bytes
length-length true x = length-reverse (bytes 8 x) ∙ length-bytes 8 x
length-length false x = length-bytes 8 x

length-fill : (high : Bool) (n : ℕ) → length (fill_of high n) ≡ 9 + zeros_for n
unfolding fill_of
length-fill high n =
    let e : length (replicate (zeros_for n) 0 ++ length_bytes high (8 * n))
    ≡ zeros_for n + 8 = length-append (replicate (zeros_for n) 0) (length_bytes high (8 * n))
    ∙ ap₂ ◌+◌ (length-replicate (zeros_for n) 0) (length-length high (8 * n)) in
    omega arith

-- FEWEST ZEROS: with the byte 128 and these zeros, eight bytes of a block are left for the length; fewer would not do
pub zeros-fewest : (n : ℕ) → ((n + 1 + zeros_for n) % 64 ≡ 56) × ((z : ℕ) → (n + 1 + z) % 64 ≡ 56 → zeros_for n ≤ z)
unfolding zeros_for
zeros-fewest n = (omega arith, λ z h. omega arith)

pub length-filled : (high : Bool) (s : List ℕ) → length (filled high s) ≡ (length s + 72) / 64 * 64
unfolding filled zeros_for
length-filled high s = length-append s (fill_of high (length s)) ∙ omega (arith, length-fill high (length s))

pub length-end : (high : Bool) (s : List ℕ) → length (end_of high s) ≡ (length s % 64 + 72) / 64 * 64
unfolding end_of zeros_for
length-end high s =
    length-append (drop (length s / 64 * 64) s) (fill_of high (length s))
    ∙ omega (arith, length-drop (length s / 64 * 64) s, length-fill high (length s))

-- the message's whole blocks, then the end
pub filled-end : (high : Bool) (s : List ℕ) → filled high s ≡ take (length s / 64 * 64) s ++ end_of high s
unfolding filled end_of
filled-end high s =
    ap (λ (t : List ℕ). t ++ fill_of high (length s)) (sym (take-append-drop (length s / 64 * 64) s))
    ∙ append_assoc (take (length s / 64 * 64) s) (drop (length s / 64 * 64) s) (fill_of high (length s))

-- zeros, and their number
pub zeros-front : (z n : ℕ) → z ≤ n → take {A = ℕ} z (replicate n 0) ≡ replicate z 0
zeros-front zero n h = refl
zeros-front (suc z) zero h = absurd (omega arith)
zeros-front (suc z) (suc n) h = ap (λ (t : List ℕ). 0 ∷ t) (zeros-front z n (omega arith))

-- what the message has past its whole blocks
pub rest_part : (s : List ℕ) → take (length s - (length s - length s % 64)) (drop (length s - length s % 64) s)
    ≡ drop (length s / 64 * 64) s
rest_part s = let e : length s - length s % 64 ≡ length s / 64 * 64 = omega arith in rw e (lent s (length s / 64 * 64))

-- the four stores of the end
pub end-stored : {d1 d2 d3 d4 : List ℕ} (d s : List ℕ) (high : Bool) {r : ℕ} → r ≡ length s % 64
    → d1 ≡ sets d 0 (drop (length s / 64 * 64) s) → d2 ≡ sets d1 r (bytes 1 128)
    → d3 ≡ sets d2 (r + 1) (replicate (zeros_for (length s)) 0)
    → d4 ≡ sets d3 (r + 1 + zeros_for (length s)) (length_bytes high (8 * length s)) → d4 ≡ sets d 0 (end_of high s)
unfolding end_of fill_of bytes
end-stored d s high {r} e e1 e2 e3 e4 =
    let n = length s in
    let l : length (drop (n / 64 * 64) s) ≡ r = length-drop (n / 64 * 64) s ∙ omega arith in
    let m : length {A = ℕ} (replicate (zeros_for n) 0) ≡ zeros_for n = length-replicate (zeros_for n) 0 in
    runs-4 d 0 r (r + 1) (r + 1 + zeros_for n) (drop (n / 64 * 64) s) (bytes 1 128) (replicate (zeros_for n) 0)
    (length_bytes high (8 * n)) e1 e2 e3 e4
    (omega arith) refl (omega arith)

-- a run of stores at the front
at_front : (b e : List ℕ) → length e ≤ length b → sets b 0 e ≡ e ++ drop (length e) b
at_front b e h = sets-eq e b 0 (omega arith) ∙ ap (λ (i : ℕ). e ++ drop i b) (zero-add (length e))

-- block i of a slice taken apart
pub chunk-part : (n k : ℕ) (s d : List ℕ) (i : ℕ) → i < k → get_or (first_chunks n k s) i d ≡ part s (i * n) n
chunk-part n zero s d i h = absurd (omega arith)
chunk-part n (suc k) s d zero h = rw zero-mul refl
chunk-part n (suc k) s d (suc i) h =
    let e : n + i * n ≡ suc i * n = omega arith in
    chunk-part n k (drop n s) d i (omega arith) ∙ ap (take n) (drop-drop (i * n) n s ∙ ap (λ (m : ℕ). drop m s) e)

module _ {A : Type 0} (f : A → List ℕ → A) where
  -- bytes behind the blocks do not matter
  pub chained-front : (a : A) (l t : List ℕ) (n : ℕ) → n * 64 ≤ length l → chained f a (l ++ t) n ≡ chained f a l n
  unfolding chained
  chained-front a l t zero h = refl
  chained-front a l t (suc n) h =
      ap₂ f (chained-front a l t n (omega arith))
      (ap (take 64) (drop-append-le (n * 64) l t (omega arith))
      ∙ take-append-le 64 (drop (n * 64) l) t (omega (arith, length-drop (n * 64) l)))

  -- blocks, then more blocks
  pub chained-then : (a : A) (l t : List ℕ) (n k : ℕ) → length l ≡ n * 64
      → chained f a (l ++ t) (n + k) ≡ chained f (chained f a l n) t k
  unfolding chained
  chained-then a l t n zero e = rw add-zero (chained-front a l t n (omega arith))
  chained-then a l t n (suc k) e =
      let p : (n + k) * 64 ≡ length l + k * 64 = omega arith in
      rw add-suc (ap₂ f (chained-then a l t n k e) (ap (λ (i : ℕ). part (l ++ t) i 64) p
      ∙ ap (take 64) (drop-append-add l t (k * 64))))

  -- the message's own blocks are those of its front
  own-blocks : (a : A) (s : List ℕ) → chained f a s (length s / 64)
      ≡ chained f a (take (length s / 64 * 64) s) (length s / 64)
  own-blocks a s =
      let n = length s / 64 in
      let l : length (take (n * 64) s) ≡ n * 64 = length-take-le (n * 64) s (omega arith) in
      ap (λ (t : List ℕ). chained f a t n) (sym (take-append-drop (n * 64) s))
      ∙ chained-front a (take (n * 64) s) (drop (n * 64) s) n (omega arith)

  -- the whole: the message's own blocks, then those of its end
  hashed-end : (a : A) (high : Bool) (s : List ℕ) (k : ℕ) → (length s % 64 + 72) / 64 ≡ k
      → hashed f a high s ≡ chained f (chained f a s (length s / 64)) (end_of high s) k
  unfolding hashed
  hashed-end a high s k e =
      let n = length s / 64 in
      let l : length (take (n * 64) s) ≡ n * 64 = length-take-le (n * 64) s (omega arith) in
      let q : length (filled high s) / 64 ≡ n + k = omega (arith, length-filled high s) in
      ap₂ (chained f a) (filled-end high s) q
      ∙ chained-then a (take (n * 64) s) (end_of high s) n k l
      ∙ ap (λ (b : A). chained f b (end_of high s) k) (sym (own-blocks a s))

  -- the blocks of the end, k of them, read from a buffer that it was stored to
  pub end-taken : {q : A} {d : List ℕ} {n : ℕ} (a : A) (high : Bool) (s b : List ℕ) (k : ℕ)
      → q ≡ chained f a s (length s / 64)
      → d ≡ sets b 0 (end_of high s) → 128 ≤ length b → n ≤ length d → n ≡ k * 64
      → (length s % 64 + 72) / 64 ≡ k → chained f q (take n d) (length (take n d) / 64) ≡ hashed f a high s
  end-taken {q} {d} {n} a high s b k e g h u v w =
      let l = length-end high s in
      let m : length (end_of high s) ≡ n = omega arith in
      let t : take n d ≡ end_of high s =
      ap (take n) (g ∙ at_front b (end_of high s) (omega arith)) ∙ take_at (end_of high s) _ n m in
      let p : length (take n d) / 64 ≡ k = omega (arith, ap length t) in
      ap (chained f q (take n d)) p ∙ ap₂ (λ (x : A) (y : List ℕ). chained f x y k) e t ∙ sym (hashed-end a high s k w)
