-- Words and their bytes. Assumes nothing.
use mathlib.Core.Path.{◌≡◌, refl, sym, ap, ap₂, ◌∙◌}
use mathlib.Core.List.{List, [], ◌∷◌, ◌++◌}
use Prim.Native.Nat.{ℕ, zero, suc, ◌+◌, ◌*◌, ◌/◌, ◌%◌, ◌^◌, ◌≤◌, ◌<◌}
use native.Mathlib.Nat.{add-suc, mod-lt, mod-eq_of_lt, add_assoc}
use lib.Pow.{mod-pow-add}
use native.Mathlib.Numerals.{add-one}
use native.Mathlib.Omega.{arith}
use lib.Dec.{lit<}
use lib.ListN.{length, get_or, take, drop}
use lib.Seq.{drop-cons, take-add, drop-drop, take-take}
use lib.Bits.{bit_xor, xor_shr, xor_mod}
use Rattle.aes.specs.Aes.{add}
use Rattle.aes.specs.Words.{bytes4, turn_list}

pub list4 : {a b c d a' b' c' d' : ℕ} → a ≡ a' → b ≡ b' → c ≡ c' → d ≡ d'
    → ◌≡◌ {A = List ℕ} (a ∷ b ∷ c ∷ d ∷ []) (a' ∷ b' ∷ c' ∷ d' ∷ [])
list4 p q r s = ap₂ ◌∷◌ p (ap₂ ◌∷◌ q (ap₂ ◌∷◌ r (ap₂ ◌∷◌ s refl)))

-- the bytes of a sum
pub bytes4-xor : (a b : ℕ) → bytes4 (bit_xor a b) ≡ add (bytes4 a) (bytes4 b)
unfolding bytes4 add
bytes4-xor a b =
    list4 (xor_mod a b 8)
    (ap (λ (x : ℕ). x % 256) (xor_shr a b 8) ∙ xor_mod (a / 256) (b / 256) 8)
    (ap (λ (x : ℕ). x % 256) (xor_shr a b 16) ∙ xor_mod (a / 65536) (b / 65536) 8)
    (ap (λ (x : ℕ). x % 256) (xor_shr a b 24) ∙ xor_mod (a / 16777216) (b / 16777216) 8)

-- bytes put together
pub packed : {a b c d : ℕ} → a < 256 → b < 256 → c < 256 → d < 256
    → bytes4 (a + b * 256 + c * 65536 + d * 16777216) ≡ a ∷ b ∷ c ∷ d ∷ []
unfolding bytes4
packed ha hb hc hd = list4 (omega arith) (omega arith) (omega arith) (omega arith)

-- a word is its bytes put together
sum4 : (x a b c d e f : ℕ) → x ≡ d * 16777216 + e → e ≡ c * 65536 + f → f ≡ b * 256 + a
    → x ≡ a + b * 256 + c * 65536 + d * 16777216
sum4 x a b c d e f p q r = omega arith

pub joined : {x : ℕ} → x < 2 ^ 32
    → x ≡ x % 256 + x / 256 % 256 * 256 + x / 65536 % 256 * 65536 + x / 16777216 % 256 * 16777216
joined {x} h =
    sum4 x (x % 256) (x / 256 % 256) (x / 65536 % 256) (x / 16777216 % 256) (x % 16777216) (x % 65536)
    (sym (mod-eq_of_lt h) ∙ mod-pow-add x 8 24) (mod-pow-add x 8 16) (mod-pow-add x 8 8)

m8 : (x : ℕ) → x % 256 < 256
m8 x = mod-lt x (lit< tt)

module _ (a b c d : ℕ) (ha : a < 256) (hb : b < 256) (hc : c < 256) (hd : d < 256) where
  abbrev S : ℕ
  S = a + b * 256 + c * 65536 + d * 16777216

  sum-turned8 : S % 16777216 * 256 + S / 16777216 ≡ d + a * 256 + b * 65536 + c * 16777216
  sum-turned8 = omega arith

  sum-turned16 : S % 65536 * 65536 + S / 65536 ≡ c + d * 256 + a * 65536 + b * 16777216
  sum-turned16 = omega arith

  sum-turned24 : S % 256 * 16777216 + S / 256 ≡ b + c * 256 + d * 65536 + a * 16777216
  sum-turned24 = omega arith

pub turned8 : {x : ℕ} → x < 2 ^ 32 → bytes4 (x % 16777216 * 256 + x / 16777216) ≡ turn_list (bytes4 x)
unfolding bytes4
turned8 {x} h =
    ap bytes4 (ap (λ (y : ℕ). y % 16777216 * 256 + y / 16777216) (joined h)
    ∙ sum-turned8 (x % 256) (x / 256 % 256) (x / 65536 % 256) (x / 16777216 % 256) (m8 x) (m8 (x / 256))
    (m8 (x / 65536)) (m8 (x / 16777216))) ∙ packed (m8 (x / 16777216)) (m8 x) (m8 (x / 256)) (m8 (x / 65536))

pub turned16 : {x : ℕ} → x < 2 ^ 32 → bytes4 (x % 65536 * 65536 + x / 65536) ≡ turn_list (turn_list (bytes4 x))
unfolding bytes4
turned16 {x} h =
    ap bytes4 (ap (λ (y : ℕ). y % 65536 * 65536 + y / 65536) (joined h)
    ∙ sum-turned16 (x % 256) (x / 256 % 256) (x / 65536 % 256) (x / 16777216 % 256) (m8 x) (m8 (x / 256))
    (m8 (x / 65536)) (m8 (x / 16777216))) ∙ packed (m8 (x / 65536)) (m8 (x / 16777216)) (m8 x) (m8 (x / 256))

pub turned24 : {x : ℕ} → x < 2 ^ 32 → bytes4 (x % 256 * 16777216 + x / 256) ≡ turn_list (turn_list (turn_list (bytes4 x)))
unfolding bytes4
turned24 {x} h =
    ap bytes4 (ap (λ (y : ℕ). y % 256 * 16777216 + y / 256) (joined h)
    ∙ sum-turned24 (x % 256) (x / 256 % 256) (x / 65536 % 256) (x / 16777216 % 256) (m8 x) (m8 (x / 256))
    (m8 (x / 65536)) (m8 (x / 16777216))) ∙ packed (m8 (x / 256)) (m8 (x / 65536)) (m8 (x / 16777216)) (m8 x)

-- ---- the n bytes from place i + k on
abbrev pub gather : List ℕ → ℕ → ℕ → ℕ → List ℕ
gather l i k zero = []
gather l i k (suc n) = get_or l (i + k) 0 ∷ gather l i (suc k) n

pub window : (l : List ℕ) (i k n : ℕ) → i + k + n ≤ length l → take n (drop (i + k) l) ≡ gather l i k n
window l i k zero h = refl
window l i k (suc n) h =
    ap (take (suc n)) (drop-cons l (i + k) 0 (omega (arith)))
    ∙ ap (λ (m : ℕ). get_or l (i + k) 0 ∷ take n (drop m l)) (sym (add-suc i k))
    ∙ ap (λ (t : List ℕ). get_or l (i + k) 0 ∷ t) (window l i (suc k) n (omega (arith, add-suc i k)))

pub ahead : (l : List ℕ) (i n : ℕ) → i + suc n ≤ length l → take (suc n) (drop i l) ≡ get_or l i 0 ∷ gather l i 1 n
ahead l i n h =
    ap (take (suc n)) (drop-cons l i 0 (omega arith))
    ∙ ap (λ (m : ℕ). get_or l i 0 ∷ take n (drop m l)) (sym (add-one i))
    ∙ ap (λ (t : List ℕ). get_or l i 0 ∷ t) (window l i 1 n (omega arith))

-- a word read at a place
pub read4 : (l : List ℕ) (i : ℕ) → i + 4 ≤ length l → ((j : ℕ) → get_or l j 0 < 256)
    → bytes4 (get_or l i 0 + get_or l (i + 1) 0 * 256 + get_or l (i + 2) 0 * 65536 + get_or l (i + 3) 0 * 16777216)
    ≡ take 4 (drop i l)
read4 l i h low = packed (low i) (low (i + 1)) (low (i + 2)) (low (i + 3)) ∙ sym (ahead l i 3 h)

-- sixteen bytes as four words
pub quarters : (l : List ℕ) (i : ℕ)
    → take 16 (drop i l) ≡ take 4 (drop i l)
    ++ (take 4 (drop (i + 4) l) ++ (take 4 (drop (i + 8) l) ++ take 4 (drop (i + 12) l)))
quarters l i =
    take-add 4 12 (drop i l)
    ∙ ap (λ (t : List ℕ). take 4 (drop i l) ++ t)
    (ap (take 12) (drop-drop 4 i l) ∙ take-add 4 8 (drop (i + 4) l)
    ∙ ap (λ (t : List ℕ). take 4 (drop (i + 4) l) ++ t)
    (ap (take 8) (drop-drop 4 (i + 4) l ∙ ap (λ (m : ℕ). drop m l) (add_assoc i 4 4)) ∙ take-add 4 4 (drop (i + 8) l)
    ∙ ap (λ (t : List ℕ). take 4 (drop (i + 8) l) ++ t)
    (ap (take 4) (drop-drop 4 (i + 8) l ∙ ap (λ (m : ℕ). drop m l) (add_assoc i 8 4)))))

-- a window on the front of a list
pub take-window : (m n k : ℕ) (w : List ℕ) → m + n ≤ k → take n (drop m (take k w)) ≡ take n (drop m w)
take-window zero n k w h = take-take n k w (omega arith)
take-window (suc m) n zero w h = absurd (omega arith)
take-window (suc m) n (suc k) [] h = refl
take-window (suc m) n (suc k) (a ∷ w) h = take-window m n k w (omega arith)
