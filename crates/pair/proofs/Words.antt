-- Words of value 4 before a packet, as a link that allows them finds them. Assumes nothing.
use borrow.Author.Tests.{ltb-true, ltb-false, lt-ltb, le-leb, lt-leb, ne_eqb}
use native.Mathlib.Omega.{arith}
use mathlib.Core.Path.{◌≡◌, refl, ap, sym, ◌∙◌}
use mathlib.Core.Bool.{Bool, true, false, not, ◌&&◌}
use mathlib.Core.List.{List, [], ◌∷◌, ◌++◌, append_assoc, append-nil}
use Prim.Native.Nat.{ℕ, zero, suc, ◌+◌, ◌-◌, ◌*◌, ◌≤◌, ◌<◌}
use lib.ListN.{length, replicate, length-append}
use lib.Seq.{drop_at}
use lib.Dec.{ltb, leb, eqb, lit<}
use Rattle.wire.specs.Bytes.{le, part, bytes}
use Rattle.wire.specs.Choice.{pick, first}
use Rattle.wire.proofs.ByteLaws.{length-bytes, le_bytes, part-mid}
use Rattle.link_state.specs.declared.Link.{Link}
use Rattle.packet_padding.specs.Padding.{padded_of, words_allowed, fours_of}
use Rattle.packet.specs.declared.Arrival.TheVariants.{Incomplete}
use Rattle.packet_head.specs.Words.{word_at, words_of}
use Rattle.packet_in.specs.Frame.{rows_of, frame_of}
use Rattle.std.specs.Prelude.{Ok}

pub length-fours : (w : ℕ) → length (fours_of w) ≡ w * 4
unfolding fours_of
length-fours zero = refl
length-fours (suc w) = simp (length-append, length-bytes, length-fours w) (omega arith)

-- one more at the end
fours-end : (w : ℕ) → fours_of (suc w) ≡ fours_of w ++ bytes 4 4
unfolding fours_of
fours-end zero = append-nil (bytes 4 4)
fours-end (suc w) = ap (λ (s : List ℕ). bytes 4 4 ++ s) (fours-end w)
    ∙ sym (append_assoc (bytes 4 4) (fours_of w) (bytes 4 4))

-- behind w words stands what stands at the front of p
word-behind : (w : ℕ) (p : List ℕ) (at : ℕ) → at ≡ w * 4 → 4 ≤ length p
    → word_at (fours_of w ++ p) at ≡ eqb (le (part p 0 4)) 4
unfolding word_at
word-behind w p at e h =
    let n : length (fours_of w) ≡ w * 4 = length-fours w in
    let m : at + 4 ≤ length (fours_of w ++ p) = simp length-append (omega arith) in
    rw (le-leb (at + 4) (length (fours_of w ++ p)) m, drop_at (fours_of w) p at (omega arith))

-- the last of them
word-last : (w : ℕ) (p : List ℕ) (at : ℕ) → at ≡ w * 4 → word_at (fours_of (suc w) ++ p) at ≡ true
word-last w p at e =
    let l : length (bytes 4 4) ≡ 4 = length-bytes 4 4 in
    let n : 4 ≤ length (bytes 4 4 ++ p) = simp length-append (omega arith) in
    let f : le (part (bytes 4 4 ++ p) 0 4) ≡ 4 = ap le (part-mid [] (bytes 4 4) p 0 4 refl l)
    ∙ le_bytes 4 4 (lit< tt) in
    ap (λ (t : List ℕ). word_at t at) (ap (λ (t : List ℕ). t ++ p) (fours-end w)
    ∙ append_assoc (fours_of w) (bytes 4 4) p)
    ∙ (word-behind w (bytes 4 4 ++ p) at e n ∙ rw f)

-- a word that is cut off is none
word_cut : (s : List ℕ) (at : ℕ) → length s < at + 4 → word_at s at ≡ false
unfolding word_at
word_cut s at h = rw (lt-leb (at + 4) (length s) h)

long : (w : ℕ) (p : List ℕ) → length p < 4 → length (fours_of w ++ p) < w * 4 + 4
long w p h = simp (length-append, length-fours) (omega arith)

-- each of them
word_each : (w i : ℕ) (p : List ℕ) (at : ℕ) → at ≡ i * 4 → i < w → word_at (fours_of w ++ p) at ≡ true
word_each zero i p at e h = absurd (omega arith)
word_each (suc w) i p at e h = go (ltb i w) refl (word_each w i (bytes 4 4 ++ p) at e)
  where
    go : (b : Bool) → ltb i w ≡ b → (i < w → word_at (fours_of w ++ (bytes 4 4 ++ p)) at ≡ true)
        → word_at (fours_of (suc w) ++ p) at ≡ true
    go true q ih = ap (λ (t : List ℕ). word_at t at) (ap (λ (t : List ℕ). t ++ p) (fours-end w)
        ∙ append_assoc (fours_of w) (bytes 4 4) p) ∙ ih (ltb-true i w q)
    go false q ih = let j : i ≡ w = omega (arith, ltb-false i w q) in word-last w p at (omega arith)

allowed-few : (k : Link) → words_allowed k ≤ 3
unfolding words_allowed
allowed-few k = go (leb 4 k.stage && padded_of k)
  where
    go : (b : Bool) → pick b 3 0 ≤ 3
    go true = omega arith
    go false = omega arith

-- none in front
words-none : (k : Link) (p : List ℕ) → eqb (le (part p 0 4)) 4 ≡ false → words_of k p ≡ 0
unfolding words_of word_at
words-none k p x = go (eqb (words_allowed k) 0)
  where
    all : (b : Bool) → (b && false) ≡ false
    all true = refl
    all false = refl

    go : (b : Bool) → ◌≡◌ {A = ℕ} (first ((b, 0) ∷ (not (leb 4 (length p) && eqb (le (part p 0 4)) 4), 0) ∷ (
      not
          (word_at p 4),
      1,
    ) ∷ (not (word_at p 8), 2) ∷ (not (word_at p 12), 3) ∷ []) 4) 0
    go true = refl
    go false = rw (x, all (leb 4 (length p)))

some : (k : Link) (w : ℕ) → suc w ≤ words_allowed k → eqb (words_allowed k) 0 ≡ false
some k w h = ne_eqb (words_allowed k) 0 (λ e. omega arith)

-- as many in front as stand there, up to those that are allowed
words_are : (k : Link) (w : ℕ) (p : List ℕ) → w ≤ words_allowed k → 4 ≤ length p → eqb (le (part p 0 4)) 4 ≡ false
    → words_of k (fours_of w ++ p) ≡ w
unfolding words_of fours_of
words_are k zero p h n x = words-none k p x
words_are k (suc zero) p h n x = rw (some k 0 h, word_each 1 0 p 0 refl (lit< tt), word-behind 1 p 4 refl n, x)
words_are k (suc (suc zero)) p h n x =
    rw (some k 1 h, word_each 2 0 p 0 refl (lit< tt), word_each 2 1 p 4 refl (lit< tt), word-behind 2 p 8 refl n, x)
words_are k (suc (suc (suc zero))) p h n x = rw (
  some k 2 h,
  word_each 3 0 p 0 refl (lit< tt),
  word_each 3 1 p 4 refl
      (lit< tt),
  word_each 3 2 p 8 refl (lit< tt),
  word-behind 3 p 12 refl n,
  x,
)
words_are k (suc (suc (suc (suc w)))) p h n x = absurd (omega (arith, allowed-few k))

-- the same where less than a word stands behind them
words-cut : (k : Link) (w : ℕ) (p : List ℕ) → w ≤ words_allowed k → length p < 4 → words_of k (fours_of w ++ p) ≡ w
unfolding words_of fours_of
words-cut k zero p h n = go (eqb (words_allowed k) 0)
  where
    go : (b : Bool) → ◌≡◌ {A = ℕ} (pick b 0 (first ((not (word_at p 0), 0) ∷ (not (word_at p 4), 1) ∷ (
      not
          (word_at p 8),
      2,
    ) ∷ (not (word_at p 12), 3) ∷ []) 4)) 0
    go true = refl
    go false = rw (word_cut p 0 n)
words-cut k (suc zero) p h n =
    rw (some k 0 h, word_each 1 0 p 0 refl (lit< tt), word_cut (fours_of 1 ++ p) 4 (long 1 p n))
words-cut k (suc (suc zero)) p h n = rw (
  some k 1 h,
  word_each 2 0 p 0 refl (lit< tt),
  word_each 2 1 p 4 refl
      (lit< tt),
  word_cut (fours_of 2 ++ p) 8 (long 2 p n),
)
words-cut k (suc (suc (suc zero))) p h n =
    rw (
      some k 2 h,
      word_each 3 0 p 0 refl (lit< tt),
      word_each 3 1 p 4 refl (lit< tt),
      word_each 3 2 p 8 refl
          (lit< tt),
      word_cut (fours_of 3 ++ p) 12 (long 3 p n),
    )
words-cut k (suc (suc (suc (suc w)))) p h n = absurd (omega (arith, allowed-few k))

-- words with less than a word behind them are awaited with what follows
pub words-wait : (k : Link) (w : ℕ) (p : List ℕ) → w ≤ words_allowed k → length p < 4
    → frame_of k (fours_of w ++ p) ≡ Ok (Incomplete (4 - length p))
unfolding frame_of rows_of
words-wait k w p h n =
    let few = allowed-few k in
    let not-four : eqb w 4 ≡ false = ne_eqb w 4 (λ e. omega arith) in
    rw (words-cut k w p h n, not-four, drop_at (fours_of w) p (w * 4) (length-fours w), lt-ltb (length p) 4 n)

-- THE WORDS ARE SKIPPED: what stands behind them is framed as if it stood in front, but for the bytes before it
pub skipped : (k : Link) (w : ℕ) (p : List ℕ) → w ≤ words_allowed k → 4 ≤ length p → eqb (le (part p 0 4)) 4 ≡ false
    → frame_of k (fours_of w ++ p) ≡ rows_of k p (w * 4)
unfolding frame_of
skipped k w p h n x =
    let few = allowed-few k in
    let not-four : eqb w 4 ≡ false = ne_eqb w 4 (λ e. omega arith) in
    rw (words_are k w p h n x, not-four, drop_at (fours_of w) p (w * 4) (length-fours w))

-- what spells 0 is zeros, so 25 is for a padding byte other than 0
pub only-zeros : (s : List ℕ) → le s ≡ 0 → s ≡ replicate (length s) 0
unfolding le
only-zeros [] h = refl
only-zeros (b ∷ s) h =
    let e : b ≡ 0 = omega arith in
    let f : le s ≡ 0 = omega arith in
    ap (λ (x : ℕ). x ∷ s) e ∙ ap (λ (t : List ℕ). 0 ∷ t) (only-zeros s f)
