-- The words in front, and the zeros behind, as the code meets them. Assumes nothing.
use native.Mathlib.Omega.{arith}
use borrow.Author.Tests.{leb-true}
use mathlib.Core.Path.{◌≡◌, refl, ap, ◌∙◌}
use mathlib.Core.Bool.{Bool, true, false, not, ◌&&◌}
use mathlib.Core.List.{List}
use Prim.Native.Nat.{ℕ, ◌+◌, ◌-◌, ◌*◌, ◌<◌, ◌≤◌}
use lib.ListN.{length, take, drop, length-take}
use lib.Seq.{take_all}
use lib.Dec.{leb, eqb}
use Rattle.wire.specs.Bytes.{le, part}
use Rattle.wire.proofs.ChoiceLaws.{by_row}
use Rattle.link_state.specs.declared.Link.{Link}
use Rattle.packet_padding.specs.Padding.{words_allowed}
use Rattle.packet_head.specs.Words.{word_at, words_of}

-- a word is whole
word-long : (s : List ℕ) (at : ℕ) → not (word_at s at) ≡ false → at + 4 ≤ length s
unfolding word_at
word-long s at h = go (leb (at + 4) (length s)) (eqb (le (part s at 4)) 4) refl h
  where
    go : (a b : Bool) → leb (at + 4) (length s) ≡ a → not (a && b) ≡ false → at + 4 ≤ length s
    go true b e g = leb-true (at + 4) (length s) e
    go false b e g = cc

words-fit : (l : Link) (s : List ℕ) → words_of l s * 4 ≤ length s
unfolding words_of
words-fit l s =
    let P : ℕ → Type 0 = λ (w : ℕ). w * 4 ≤ length s in
    by_row P (eqb (words_allowed l) 0) 0 _ (λ e. omega arith) λ e.
    by_row P (not (word_at s 0)) 0 _ (λ e. omega arith) λ e0.
    by_row P (not (word_at s 4)) 1 _ (λ e. omega (arith, word-long s 0 e0)) λ e4.
    by_row P (not (word_at s 8)) 2 _ (λ e. omega (arith, word-long s 4 e4)) λ e8.
    by_row P (not (word_at s 12)) 3 4 (λ e. omega (arith, word-long s 8 e8)) λ e12. omega (arith, word-long s 12 e12)

words-few : (l : Link) (s : List ℕ) → words_of l s ≤ 4
unfolding words_of
words-few l s =
    let P : ℕ → Type 0 = λ (w : ℕ). w ≤ 4 in
    by_row P (eqb (words_allowed l) 0) 0 _ (λ e. omega arith) λ e.
    by_row P (not (word_at s 0)) 0 _ (λ e. omega arith) λ e0.
    by_row P (not (word_at s 4)) 1 _ (λ e. omega arith) λ e4.
    by_row P (not (word_at s 8)) 2 _ (λ e. omega arith) λ e8.
    by_row P (not (word_at s 12)) 3 4 (λ e. omega arith) λ e12. omega arith

-- so many stand in front
abbrev pub AllWords : List ℕ → ℕ → Type 0
AllWords s n = (k : ℕ) → k < n → word_at s (k * 4) ≡ true

-- they are there, and few
pub words-bound : (l : Link) (s : List ℕ) (r : ℕ) → r ≡ words_of l s → (r ≤ 4) × (r * 4 ≤ length s)
words-bound l s r e = (omega (arith, words-few l s), omega (arith, words-fit l s))

-- up to three bytes, read as a number of four
pub zeros-read : (s : List ℕ) (size zeros : ℕ) {r : ℕ} → r ≡ le (part (take (size + zeros - size) (drop size s)) 0 4)
    → zeros ≤ 3 → r ≡ le (part s size zeros)
zeros-read s size zeros f h =
    let e : size + zeros - size ≡ zeros = omega arith in
    f ∙ ap le (ap (λ (n : ℕ). take 4 (take n (drop size s))) e
    ∙ take_all 4 (take zeros (drop size s)) (simp length-take (omega arith)))
