-- The product by a fixed element is linear, and so is a column's product with a matrix. Assumes nothing.
use mathlib.Core.Path.{◌≡◌, refl, sym, ap, ap₂, ◌∙◌}
use mathlib.Core.List.{List, [], ◌∷◌}
use Prim.Native.Nat.{ℕ, zero, suc, ◌*◌, ◌/◌, ◌%◌, ◌<◌}
use native.Mathlib.Nat.{le_of_suc-le-suc, not-suc-le-zero, mod-lt, zero-lt-suc, add-zero}
use lib.Bits.{bit_xor, differ, xor_comm, xor_zero_r, xor_self, xor_block, xor_shr, xor_mod}
use Rattle.aes.specs.Field.{when, xtime, times, mul}
use Rattle.aes.specs.Aes.{add, cell, columns}
use Rattle.aes.proofs.Xor.{xor_assoc, xor-swap, xor_low}
use Rattle.aes_bytes.proofs.Bytes.{four}

two_pos : zero < 2
two_pos = zero-lt-suc 1

when-differ : (p x y : ℕ) → x < 2 → y < 2 → when (differ x y) p ≡ bit_xor (when x p) (when y p)
when-differ p zero y hx hy = refl
when-differ p (suc x) zero hx hy = sym (xor_zero_r p)
when-differ p (suc zero) (suc zero) hx hy = sym (xor_self p)
when-differ p (suc zero) (suc (suc y)) hx hy = absurd (not-suc-le-zero (le_of_suc-le-suc (le_of_suc-le-suc hy)))
when-differ p (suc (suc x)) (suc y) hx hy = absurd (not-suc-le-zero (le_of_suc-le-suc (le_of_suc-le-suc hx)))

when-xor : (d a b : ℕ) → when d (bit_xor a b) ≡ bit_xor (when d a) (when d b)
when-xor zero a b = refl
when-xor (suc d) a b = refl

double-xor : (a b : ℕ) → bit_xor a b * 2 ≡ bit_xor (a * 2) (b * 2)
double-xor a b =
    sym (add-zero (bit_xor a b * 2)) ∙ sym (xor_block 1 a b 0 0 two_pos two_pos)
    ∙ ap₂ bit_xor (add-zero (a * 2)) (add-zero (b * 2))

pub xtime-xor : (a b : ℕ) → xtime (bit_xor a b) ≡ bit_xor (xtime a) (xtime b)
unfolding xtime
xtime-xor a b =
    ap₂ bit_xor
    (ap (λ (x : ℕ). x % 256) (double-xor a b) ∙ xor_mod (a * 2) (b * 2) 8)
    (ap (λ (x : ℕ). when (x % 2) 0x1b) (xor_shr a b 7)
    ∙ ap (λ (x : ℕ). when x 0x1b) (xor_low (a / 128) (b / 128))
    ∙ when-differ 0x1b (a / 128 % 2) (b / 128 % 2) (mod-lt (a / 128) two_pos) (mod-lt (b / 128) two_pos))
    ∙ xor-swap (a * 2 % 256) (b * 2 % 256) (when (a / 128 % 2) 0x1b) (when (b / 128 % 2) 0x1b)

times-xor : (n a b p : ℕ) → times n (bit_xor a b) p ≡ bit_xor (times n a p) (times n b p)
unfolding times
times-xor zero a b p = refl
times-xor (suc n) a b p =
    ap₂ bit_xor (when-xor (p % 2) a b)
    (ap (λ (x : ℕ). times n x (p / 2)) (xtime-xor a b) ∙ times-xor n (xtime a) (xtime b) (p / 2))
    ∙ xor-swap (when (p % 2) a) (when (p % 2) b) (times n (xtime a) (p / 2)) (times n (xtime b) (p / 2))

pub mul-xor : (a b p : ℕ) → mul (bit_xor a b) p ≡ bit_xor (mul a p) (mul b p)
unfolding mul
mul-xor a b p = times-xor 8 a b p

pub four-eq : {x y z w x' y' z' w' : ℕ} → x ≡ x' → y ≡ y' → z ≡ z' → w ≡ w' → four x y z w ≡ four x' y' z' w'
four-eq p q r s = ap₂ bit_xor p (ap₂ bit_xor q (ap₂ bit_xor r s))

pub four-xor : (x y z w x' y' z' w' : ℕ)
    → four (bit_xor x x') (bit_xor y y') (bit_xor z z') (bit_xor w w') ≡ bit_xor (four x y z w) (four x' y' z' w')
four-xor x y z w x' y' z' w' =
    ap (λ (t : ℕ). bit_xor (bit_xor x x') (bit_xor (bit_xor y y') t)) (xor-swap z z' w w')
    ∙ ap (bit_xor (bit_xor x x')) (xor-swap y y' (bit_xor z w) (bit_xor z' w'))
    ∙ xor-swap x x' (bit_xor y (bit_xor z w)) (bit_xor y' (bit_xor z' w'))

pub four-turn : (x y z w : ℕ) → four x y z w ≡ four y z w x
four-turn x y z w = xor_comm x (bit_xor y (bit_xor z w)) ∙ xor_assoc y (bit_xor z w) x ∙ ap (bit_xor y) (xor_assoc z w x)

pub mul-four : (x y z w p : ℕ) → mul (four x y z w) p ≡ four (mul x p) (mul y p) (mul z p) (mul w p)
mul-four x y z w p =
    mul-xor x (bit_xor y (bit_xor z w)) p
    ∙ ap (bit_xor (mul x p)) (mul-xor y (bit_xor z w) p ∙ ap (bit_xor (mul y p)) (mul-xor z w p))

-- rows to columns
pub across : (a b c d e f g h i j k l m n o p : ℕ)
    → four (four a b c d) (four e f g h) (four i j k l) (four m n o p)
    ≡ four (four a e i m) (four b f j n) (four c g k o) (four d h l p)
across a b c d e f g h i j k l m n o p =
    ap (λ (t : ℕ). bit_xor (four a b c d) (bit_xor (four e f g h) t)) (sym (four-xor i j k l m n o p))
    ∙ ap (bit_xor (four a b c d)) (sym (four-xor e f g h (bit_xor i m) (bit_xor j n) (bit_xor k o) (bit_xor l p)))
    ∙ sym (four-xor a b c d (bit_xor e (bit_xor i m)) (bit_xor f (bit_xor j n)) (bit_xor g (bit_xor k o))
    (bit_xor h (bit_xor l p)))

pub cell-xor : (p q r t a b c d a' b' c' d' : ℕ)
    → cell p q r t (bit_xor a a') (bit_xor b b') (bit_xor c c') (bit_xor d d')
    ≡ bit_xor (cell p q r t a b c d) (cell p q r t a' b' c' d')
unfolding cell
cell-xor p q r t a b c d a' b' c' d' =
    four-eq (mul-xor a a' p) (mul-xor b b' q) (mul-xor c c' r) (mul-xor d d' t)
    ∙ four-xor (mul a p) (mul b q) (mul c r) (mul d t) (mul a' p) (mul b' q) (mul c' r) (mul d' t)

-- a row of one matrix after the other matrix
pub cell-cell : (P Q R S p q r t a b c d : ℕ)
    → cell P Q R S (cell p q r t a b c d) (cell t p q r a b c d) (cell r t p q a b c d) (cell q r t p a b c d)
    ≡ four (four (mul (mul a p) P) (mul (mul a t) Q) (mul (mul a r) R) (mul (mul a q) S))
    (four (mul (mul b q) P) (mul (mul b p) Q) (mul (mul b t) R) (mul (mul b r) S))
    (four (mul (mul c r) P) (mul (mul c q) Q) (mul (mul c p) R) (mul (mul c t) S))
    (four (mul (mul d t) P) (mul (mul d r) Q) (mul (mul d q) R) (mul (mul d p) S))
unfolding cell
cell-cell P Q R S p q r t a b c d =
    four-eq (mul-four (mul a p) (mul b q) (mul c r) (mul d t) P) (mul-four (mul a t) (mul b p) (mul c q) (mul d r) Q)
    (mul-four (mul a r) (mul b t) (mul c p) (mul d q) R) (mul-four (mul a q) (mul b r) (mul c t) (mul d p) S)
    ∙ across (mul (mul a p) P) (mul (mul b q) P) (mul (mul c r) P) (mul (mul d t) P)
    (mul (mul a t) Q) (mul (mul b p) Q) (mul (mul c q) Q) (mul (mul d r) Q)
    (mul (mul a r) R) (mul (mul b t) R) (mul (mul c p) R) (mul (mul d q) R)
    (mul (mul a q) S) (mul (mul b r) S) (mul (mul c t) S) (mul (mul d p) S)

-- the matrix step of a sum
pub columns-add : (p q r t : ℕ) (s u : List ℕ)
    → columns p q r t (add s u) ≡ add (columns p q r t s) (columns p q r t u)
unfolding columns add
columns-add p q r t [] [] = refl
columns-add p q r t [] (e ∷ []) = refl
columns-add p q r t [] (e ∷ f ∷ []) = refl
columns-add p q r t [] (e ∷ f ∷ g ∷ []) = refl
columns-add p q r t [] (e ∷ f ∷ g ∷ h ∷ u) = refl
columns-add p q r t (a ∷ []) [] = refl
columns-add p q r t (a ∷ []) (e ∷ []) = refl
columns-add p q r t (a ∷ []) (e ∷ f ∷ []) = refl
columns-add p q r t (a ∷ []) (e ∷ f ∷ g ∷ []) = refl
columns-add p q r t (a ∷ []) (e ∷ f ∷ g ∷ h ∷ u) = refl
columns-add p q r t (a ∷ b ∷ []) [] = refl
columns-add p q r t (a ∷ b ∷ []) (e ∷ []) = refl
columns-add p q r t (a ∷ b ∷ []) (e ∷ f ∷ []) = refl
columns-add p q r t (a ∷ b ∷ []) (e ∷ f ∷ g ∷ []) = refl
columns-add p q r t (a ∷ b ∷ []) (e ∷ f ∷ g ∷ h ∷ u) = refl
columns-add p q r t (a ∷ b ∷ c ∷ []) [] = refl
columns-add p q r t (a ∷ b ∷ c ∷ []) (e ∷ []) = refl
columns-add p q r t (a ∷ b ∷ c ∷ []) (e ∷ f ∷ []) = refl
columns-add p q r t (a ∷ b ∷ c ∷ []) (e ∷ f ∷ g ∷ []) = refl
columns-add p q r t (a ∷ b ∷ c ∷ []) (e ∷ f ∷ g ∷ h ∷ u) = refl
columns-add p q r t (a ∷ b ∷ c ∷ d ∷ s) [] = refl
columns-add p q r t (a ∷ b ∷ c ∷ d ∷ s) (e ∷ []) = refl
columns-add p q r t (a ∷ b ∷ c ∷ d ∷ s) (e ∷ f ∷ []) = refl
columns-add p q r t (a ∷ b ∷ c ∷ d ∷ s) (e ∷ f ∷ g ∷ []) = refl
columns-add p q r t (a ∷ b ∷ c ∷ d ∷ s) (e ∷ f ∷ g ∷ h ∷ u) =
    ap₂ ◌∷◌ (cell-xor p q r t a b c d e f g h)
    (ap₂ ◌∷◌ (cell-xor t p q r a b c d e f g h)
    (ap₂ ◌∷◌ (cell-xor r t p q a b c d e f g h)
    (ap₂ ◌∷◌ (cell-xor q r t p a b c d e f g h) (columns-add p q r t s u))))
