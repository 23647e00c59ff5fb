-- Laws of runs of stores, over the width. Assumes nothing.
use mathlib.Core.Path.{◌≡◌, refl, sym, ap, ◌∙◌}
use Prim.Native.Nat.{ℕ, suc, ◌+◌, ◌-◌, ◌/◌, ◌%◌, ◌^◌, ◌≤◌, ◌<◌}
use native.Mathlib.Nat.{add-suc, add-zero, suc-add, mod-eq_of_lt}
use native.Mathlib.Numerals.{add-one}
use native.Mathlib.Omega.{arith}
use mathlib.Core.List.{List, [], ◌∷◌, ◌++◌, append-nil}
use lib.ListN.{length, take, drop, get_or, set, length-drop, length-set, drop_of_length-le, take-append-drop}
use lib.Seq.{sets, sets-eq, length-sets, take-suc, length-take-le, take_all, set_out}
use borrow.Rule.Slice.PartMut.{put_mid}
use Rattle.wire.specs.Bytes.{bytes}
use Rattle.wire.proofs.ByteLaws.{length-bytes, bytes-add, bytes_low, part-sets}

-- one run after another
pub sets-append : (d : List ℕ) (i : ℕ) (a b : List ℕ) → sets (sets d i a) (i + length a) b ≡ sets d i (a ++ b)
sets-append d i [] b = rw add-zero
sets-append d i (x ∷ a) b = rw (add-suc, ← suc-add) (sets-append (set d i x) (suc i) a b)

-- the same, with the second run's place as the code has it
pub sets_then : (d : List ℕ) (i j : ℕ) (a b : List ℕ) → j ≡ i + length a → sets (sets d i a) j b ≡ sets d i (a ++ b)
sets_then d i j a b e = rw e (sets-append d i a b)

-- the same of the lists that two calls leave
pub runs-2 : {d₁ d₂ : List ℕ} (d : List ℕ) (i j : ℕ) (a b : List ℕ) → d₁ ≡ sets d i a → d₂ ≡ sets d₁ j b → j ≡ i + length a → d₂ ≡ sets d i (a ++ b)
runs-2 d i j a b e₁ e₂ p = rw (e₂, e₁) (sets_then d i j a b p)

-- and of those that three or four calls leave, one after another
pub runs-3 : {d₁ d₂ d₃ : List ℕ} (d : List ℕ) (i j k : ℕ) (a b c : List ℕ) → d₁ ≡ sets d i a → d₂ ≡ sets d₁ j b → d₃ ≡ sets d₂ k c
    → j ≡ i + length a → k ≡ j + length b → d₃ ≡ sets d i (a ++ (b ++ c))
runs-3 {d₁} d i j k a b c e₁ e₂ e₃ p q = runs-2 d i j a (b ++ c) e₁ (runs-2 d₁ j k b c e₂ e₃ q) p

pub runs-4 : {d₁ d₂ d₃ d₄ : List ℕ} (d : List ℕ) (i j k l : ℕ) (a b c e : List ℕ)
    → d₁ ≡ sets d i a → d₂ ≡ sets d₁ j b → d₃ ≡ sets d₂ k c → d₄ ≡ sets d₃ l e
    → j ≡ i + length a → k ≡ j + length b → l ≡ k + length c → d₄ ≡ sets d i (a ++ (b ++ (c ++ e)))
runs-4 {d₁} d i j k l a b c e e₁ e₂ e₃ e₄ p q r = runs-2 d i j a (b ++ (c ++ e)) e₁ (runs-3 d₁ j k l b c e e₂ e₃ e₄ q r) p

-- what was stored at the front, then the rest
pub front-stored : (b xs : List ℕ) → length xs ≤ length b → sets b 0 xs ≡ xs ++ drop (length xs) b
front-stored b xs h =
    let e : 0 + length xs ≡ length xs = omega arith in
    sets-eq xs b 0 (omega arith) ∙ ap (λ (n : ℕ). xs ++ drop n b) e

-- a run as long as the list takes its place
pub sets-whole : (d t : List ℕ) → length d ≡ length t → sets d 0 t ≡ t
sets-whole d t e =
    sym (take_all (length t) (sets d 0 t) (rw length-sets (omega arith))) ∙ part-sets d 0 (length t) t refl (omega arith)

-- nothing is stored past the end
pub sets-past : (d : List ℕ) (i : ℕ) (b : List ℕ) → length d ≤ i → sets d i b ≡ d
sets-past d i [] h = refl
sets-past d i (x ∷ b) h = sets-past (set d i x) (suc i) b (rw length-set (omega arith)) ∙ set_out d i x h

-- one byte
pub byte-stored : (d : List ℕ) (at n : ℕ) → n < 256 → set d at n ≡ sets d at (bytes 1 n)
unfolding bytes
byte-stored d at n h = ap (set d at) (sym (mod-eq_of_lt h))

-- a number's bytes: the low ones, then the high ones at their place
pub bytes-then : {d₁ d₂ : List ℕ} (d : List ℕ) (at j k n : ℕ) → d₁ ≡ sets d at (bytes j (n % 256 ^ j)) → d₂ ≡ sets d₁ (at + j) (bytes k (n / 256 ^ j))
    → d₂ ≡ sets d at (bytes (j + k) n)
bytes-then d at j k n e₁ e₂ =
    rw bytes-add (runs-2 d at (at + j) (bytes j n) (bytes k (n / 256 ^ j)) (e₁ ∙ ap (sets d at) (bytes_low j n)) e₂ (rw length-bytes refl))

-- and where the low ones are already cut off, the high ones are past the end
pub bytes_cut : {d₁ : List ℕ} (d : List ℕ) (at j k n : ℕ) → d₁ ≡ sets d at (bytes j (n % 256 ^ j)) → length d - at ≤ j → d₁ ≡ sets d at (bytes (j + k) n)
bytes_cut d at j k n e h =
    e ∙ ap (sets d at) (bytes_low j n)
    ∙ sym (sets-past (sets d at (bytes j n)) (at + j) (bytes k (n / 256 ^ j)) (rw length-sets (omega arith)))
    ∙ sets_then d at (at + j) (bytes j n) (bytes k (n / 256 ^ j)) (rw length-bytes refl)
    ∙ ap (sets d at) (sym (bytes-add j k n))

-- a copy's next byte
pub sets-one-more : (d : List ℕ) (at : ℕ) (t : List ℕ) (i : ℕ) → i < length t → set (sets d at (take i t)) (at + i) (get_or t i 0) ≡ sets d at (take (i + 1) t)
sets-one-more d at t i h =
    rw (add-one, take-suc t i 0)
    (sets_then d at (at + i) (take i t) (get_or t i 0 ∷ []) (rw (length-take-le i t (omega arith)) refl))

-- what a copy leaves out is past the end
pub sets-cut : (d : List ℕ) (at : ℕ) (t : List ℕ) (i : ℕ) → i ≤ length t → length d ≤ at + i → sets d at (take i t) ≡ sets d at t
sets-cut d at t i h q =
    sym (sets-past (sets d at (take i t)) (at + i) (drop i t) (rw length-sets q))
    ∙ sets_then d at (at + i) (take i t) (drop i t) (rw (length-take-le i t h) refl)
    ∙ ap (sets d at) (take-append-drop i t)

-- ---- a part from a on, lent and back

pub lent : (xs : List ℕ) (a : ℕ) → take (length xs - a) (drop a xs) ≡ drop a xs
lent xs a = take_all (length xs - a) (drop a xs) (rw length-drop (omega arith))

pub lent_back : (xs ys : List ℕ) (a : ℕ) → put_mid a (length xs - a) xs ys ≡ take a xs ++ ys
lent_back xs ys a =
    let e : drop (length xs - a) (drop a xs) ≡ [] = drop_of_length-le (drop a xs) {i = length xs - a} (rw length-drop (omega arith)) in
    rw (e, append-nil)
