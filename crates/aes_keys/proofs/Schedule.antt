-- One word more. Assumes nothing.
use mathlib.Core.Path.{◌≡◌, refl, sym, ap, ap₂, ◌∙◌}
use mathlib.Core.List.{List, ◌++◌}
use Prim.Native.Nat.{ℕ, suc, ◌+◌, ◌*◌, ◌-◌, ◌≤◌, ◌<◌}
use native.Mathlib.Omega.{arith}
use lib.ListN.{length, get_or, take, drop, length-append, length-take}
use lib.Seq.{sets, sets-eq, take_at}
use lib.Bits.{bit_xor}
use Rattle.wire.specs.Bytes.{le, part, bytes}
use Rattle.aes.specs.Aes.{add, temp, next, grown, schedule}
use Rattle.wire.proofs.ByteLaws.{le-4, part-sets}
use Rattle.aes.specs.Words.{bytes4}
use Rattle.aes.proofs.Words.{list4, read4, bytes4-xor, take-window}

same4 : (x : ℕ) → bytes 4 x ≡ bytes4 x
unfolding bytes bytes4
same4 x = list4 refl refl (omega arith) (omega arith)

long4 : (x : ℕ) → length (bytes4 x) ≡ 4
unfolding bytes4
long4 x = refl

-- a word that is read
pub read_word : {r : ℕ} (l : List ℕ) (at : ℕ) → at + 4 ≤ length l → ((j : ℕ) → get_or l j 0 < 256) → r ≡ le (part l at 4)
    → bytes4 r ≡ take 4 (drop at l)
read_word l at h low e =
    let f : le (part l at 4) ≡ get_or l at 0 + get_or l (at + 1) 0 * 256 + get_or l (at + 2) 0 * 65536 + get_or l (at + 3)
    0 * 16777216 = le-4 l at h ∙ omega arith in
    ap bytes4 (e ∙ f) ∙ read4 l at h low

module _ (k w w' : List ℕ) (n p x y : ℕ) (few : 8 + n < 60) (long : length w ≡ 240)
    (held : take ((8 + n) * 4) w ≡ schedule n k)
    (ep : bytes4 p ≡ take 4 (drop ((8 + n) * 4 - 4) w)) (ex : bytes4 x ≡ temp (8 + n) (bytes4 p))
    (ey : bytes4 y ≡ take 4 (drop ((8 + n) * 4 - 32) w)) (stored : w' ≡ sets w ((8 + n) * 4) (bytes 4 (bit_xor y x)))
  where
    at_held : (m : ℕ) → m + 4 ≤ (8 + n) * 4 → take 4 (drop m w) ≡ take 4 (drop m (schedule n k))
    at_held m h = sym (take-window m 4 ((8 + n) * 4) w h) ∙ ap (λ (l : List ℕ). take 4 (drop m l)) held

    is-next : bytes4 (bit_xor y x) ≡ next (8 + n) (schedule n k)
    unfolding next
    is-next =
        let a : (8 + n) * 4 - 32 ≡ 4 * (8 + n - 8) = omega arith in
        let b : (8 + n) * 4 - 4 ≡ 4 * (8 + n - 1) = omega arith in
        bytes4-xor y x
        ∙ ap₂ add
        (ey ∙ at_held ((8 + n) * 4 - 32) (omega arith) ∙ ap (λ (m : ℕ). take 4 (drop m (schedule n k))) a)
        (ex ∙ ap (temp (8 + n)) (ep ∙ at_held ((8 + n) * 4 - 4) (omega arith)
        ∙ ap (λ (m : ℕ). take 4 (drop m (schedule n k))) b))

    pub word_more : take ((8 + n) * 4 + 4) w' ≡ schedule (suc n) k
    unfolding schedule grown
    word_more =
        let f = take ((8 + n) * 4) w in
        let b = bytes 4 (bit_xor y x) in
        let lb : length b ≡ 4 = ap length (same4 (bit_xor y x)) ∙ long4 (bit_xor y x) in
        let l : length (f ++ b) ≡ (8 + n) * 4 + 4 = simp (length-append, length-take) (omega arith) in
        ap (take ((8 + n) * 4 + 4)) (stored ∙ sets-eq b w ((8 + n) * 4) (omega arith))
        ∙ take_at (f ++ b) (drop ((8 + n) * 4 + length b) w) ((8 + n) * 4 + 4) l
        ∙ ap₂ ◌++◌ held (same4 (bit_xor y x) ∙ is-next)

-- the same for the count i of the words that are there
pub word_next : (k w w' : List ℕ) (i p x y : ℕ) → 8 ≤ i → i < 60 → length w ≡ 240 → take (i * 4) w ≡ schedule (i - 8) k
    → bytes4 p ≡ take 4 (drop (i * 4 - 4) w) → bytes4 x ≡ temp i (bytes4 p) → bytes4 y ≡ take 4 (drop (i * 4 - 32) w)
    → w' ≡ sets w (i * 4) (bytes 4 (bit_xor y x)) → take ((i + 1) * 4) w' ≡ schedule (i + 1 - 8) k
word_next k w w' i p x y lo hi long held ep ex ey stored =
    let n = i - 8 in
    let e : i ≡ 8 + n = omega arith in
    let f : (i + 1) * 4 ≡ (8 + n) * 4 + 4 = omega arith in
    let g : suc n ≡ i + 1 - 8 = omega arith in
    ap (λ (m : ℕ). take m w') f
    ∙ word_more k w w' n p x y (omega arith) long
    (ap (λ (m : ℕ). take (m * 4) w) (sym e) ∙ held)
    (ep ∙ ap (λ (m : ℕ). take 4 (drop (m * 4 - 4) w)) e)
    (ex ∙ ap (λ (m : ℕ). temp m (bytes4 p)) e)
    (ey ∙ ap (λ (m : ℕ). take 4 (drop (m * 4 - 32) w)) e)
    (stored ∙ ap (λ (m : ℕ). sets w (m * 4) (bytes 4 (bit_xor y x))) e)
    ∙ ap (λ (m : ℕ). schedule m k) g

-- the key stands in the first 32 bytes
pub key-first : {d1 : List ℕ} (d k : List ℕ) → length k ≡ 32 → length d ≡ 240 → d1 ≡ sets d 0 k → take 32 d1 ≡ k
key-first d k n m e = ap (take 32) e ∙ part-sets d 0 32 k n (omega arith)
