-- Columns by the table, and the rounds one after another. Assumes nothing.
use mathlib.Core.Path.{◌≡◌, refl, sym, ap, ap₂, ◌∙◌}
use mathlib.Core.List.{List, [], ◌∷◌, ◌++◌}
use Prim.Native.Nat.{ℕ, suc, ◌+◌, ◌*◌, ◌≤◌}
use native.Mathlib.Numerals.{add-one}
use native.Mathlib.Omega.{arith}
use lib.ListN.{length, take, drop, length-append, length-drop, take-append-drop}
use lib.Seq.{sets, sets-eq, take_at, drop_at, drop-drop, take_all, length-take-le}
use lib.Bits.{bit_xor}
use Rattle.aes.specs.Aes.{add, columns, cell, unmix_columns, round_key}
use Rattle.aes.specs.Back.{back_to, back_keys}
use Rattle.aes.specs.Words.{bytes4, unproducts, turn_list}
use Rattle.aes.proofs.Words.{bytes4-xor}
use Rattle.aes.proofs.Quads.{join4}

pub column0 : (x y z w p q r s : ℕ) → bytes4 p ≡ unproducts x → bytes4 q ≡ turn_list (unproducts y) → bytes4 r
    ≡ turn_list (turn_list (unproducts z)) → bytes4 s ≡ turn_list (turn_list (turn_list (unproducts w)))
    → bytes4 (bit_xor p (bit_xor q (bit_xor r s))) ≡ unmix_columns (x ∷ y ∷ z ∷ w ∷ [])
unfolding unproducts unmix_columns columns cell add
column0 x y z w p q r s ep eq er es =
    bytes4-xor p (bit_xor q (bit_xor r s))
    ∙ ap₂ add ep (bytes4-xor q (bit_xor r s) ∙ ap₂ add eq (bytes4-xor r s ∙ ap₂ add er es))

whole : (a b c d : ℕ)
    → unmix_columns (bytes4 a) ++ (unmix_columns (bytes4 b) ++ (unmix_columns (bytes4 c) ++ unmix_columns (bytes4 d)))
    ≡ unmix_columns (bytes4 a ++ (bytes4 b ++ (bytes4 c ++ bytes4 d)))
unfolding bytes4 unmix_columns columns
whole a b c d = refl

pub unmix-law : (a b c d : ℕ) {p q r s : List ℕ} → p ≡ unmix_columns (bytes4 a) → q ≡ unmix_columns (bytes4 b) → r
    ≡ unmix_columns (bytes4 c) → s ≡ unmix_columns (bytes4 d)
    → p ++ (q ++ (r ++ s)) ≡ unmix_columns (bytes4 a ++ (bytes4 b ++ (bytes4 c ++ bytes4 d)))
unmix-law a b c d ep eq er es = join4 ep eq er es ∙ whole a b c d

-- ---- rounds: the first n + 1 are done, and the rest of d is that of w
module _ (w : List ℕ) (n : ℕ) (d : List ℕ) (long : length (back_to n w) ≡ n * 16 + 16)
    (held : d ≡ back_to n w ++ drop (n * 16 + 16) w) where
  -- it keeps its length
  pub long-held : n * 16 + 16 ≤ length w → length d ≡ length w
  long-held h = ap length held ∙ length-append (back_to n w) (drop (n * 16 + 16) w)
      ∙ omega (arith, long, length-drop (n * 16 + 16) w)

  module _ (x : List ℕ) (lx : length x ≡ 16) (ex : x ≡ unmix_columns (take 16 (drop (n * 16 + 16) d))) where
    is_key : x ≡ unmix_columns (round_key (suc n) w)
    unfolding round_key
    is_key =
        let p : n * 16 + 16 ≡ 16 * suc n = omega arith in
        ex ∙ ap unmix_columns (ap (λ (l : List ℕ). take 16 (drop (n * 16 + 16) l)) held
        ∙ ap (take 16) (drop_at (back_to n w) (drop (n * 16 + 16) w) (n * 16 + 16) long)
        ∙ ap (λ (j : ℕ). take 16 (drop j w)) p)

    pub long-next : length (back_to (n + 1) w) ≡ (n + 1) * 16 + 16
    unfolding back_to
    long-next =
        let l : length (unmix_columns (round_key (suc n) w)) ≡ 16 = ap length (sym is_key) ∙ lx in
        ap (λ (j : ℕ). length (back_to j w)) (add-one n)
        ∙ length-append (back_to n w) (unmix_columns (round_key (suc n) w)) ∙ omega arith

    pub held_next : (d' : List ℕ) → n * 16 + 16 + 16 ≤ length d → d' ≡ sets d (n * 16 + 16) x
        → d' ≡ back_to (n + 1) w ++ drop ((n + 1) * 16 + 16) w
    unfolding back_to
    held_next d' h e =
        let p = back_to n w in
        let m : n * 16 + 16 + length x ≡ (n + 1) * 16 + 16 = omega arith in
        let t : take (n * 16 + 16) d ≡ p = ap (take (n * 16 + 16)) held
        ∙ take_at p (drop (n * 16 + 16) w) (n * 16 + 16) long in
        let r : drop (n * 16 + 16 + length x) d ≡ drop ((n + 1) * 16 + 16) w =
        sym (drop-drop (length x) (n * 16 + 16) d)
        ∙ ap (drop (length x)) (ap (drop (n * 16 + 16)) held ∙ drop_at p (drop (n * 16 + 16) w) (n * 16 + 16) long)
        ∙ drop-drop (length x) (n * 16 + 16) w ∙ ap (λ (j : ℕ). drop j w) m in
        e ∙ sets-eq x d (n * 16 + 16) (omega arith) ∙ ap₂ (λ (a b : List ℕ). (a ++ x) ++ b) t r
        ∙ ap (λ (a : List ℕ). (p ++ a) ++ drop ((n + 1) * 16 + 16) w) is_key
        ∙ ap (λ (j : ℕ). back_to j w ++ drop ((n + 1) * 16 + 16) w) (sym (add-one n))

pub long-none : (w : List ℕ) → length w ≡ 240 → length (back_to 0 w) ≡ 0 * 16 + 16
unfolding back_to round_key
long-none w h = length-take-le 16 w (omega arith)

pub held_none : (w : List ℕ) → w ≡ back_to 0 w ++ drop (0 * 16 + 16) w
unfolding back_to round_key
held_none w = sym (take-append-drop 16 w)

pub held_all : (w d : List ℕ) → length w ≡ 240 → d ≡ back_to 13 w ++ drop 224 w → d ≡ back_keys w
unfolding back_keys round_key
held_all w d h e = e
    ∙ ap (λ (t : List ℕ). back_to 13 w ++ t) (sym (take_all 16 (drop 224 w) (omega (arith, length-drop 224 w))))
