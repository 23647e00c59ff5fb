-- A table of half bytes that passes a computed test is right, for every polynomial. Assumes nothing.
use mathlib.Core.Path.{◌≡◌, refl, sym, ap, ap₂, ◌∙◌, subst}
use mathlib.Core.Bool.{Bool, true, false, ◌&&◌}
use mathlib.Core.List.{List, [], ◌∷◌}
use Prim.Native.Nat.{ℕ, zero, suc, ◌+◌, ◌-◌, ◌*◌, ◌/◌, ◌%◌, ◌<◌}
use native.Mathlib.Nat.{le_of_suc-le-suc, not-suc-le-zero, mod-lt, zero-lt-suc, zero-mul, zero-add}
use native.Mathlib.Omega.{arith}
use lib.Dec.{T, eqb, eqb→eq}
use lib.Pow.{pow_pos, split}
use lib.ListN.{length, get_or, drop, length-drop}
use lib.Seq.{get_or-drop}
use lib.Bits.{bit_xor, xor_comm, xor_shifted}
use Rattle.crc.specs.Crc.{clocks}
use Rattle.crc_short.specs.HalfBytes.{Halves}
use Rattle.crc.proofs.Register.{clocks-xor, clocks-add, byte_step}
use Rattle.crc.proofs.TableTest.{run_is, row, row_at, and_left, and_right}

none : (p c : ℕ) → c ≡ clocks p 0 c
unfolding clocks
none p c = refl

-- what eight bits make of a byte and of u, by the first row of t
abbrev byte : List ℕ → ℕ → ℕ
byte t x = bit_xor (get_or t (x % 16) 0) (get_or t (16 + x / 16) 0)

abbrev eight : List ℕ → ℕ → ℕ
eight t u = bit_xor (u / 256) (byte t (u % 256))

-- the test of the rows after it: each entry is a byte's step from the one a row before
abbrev after : List ℕ → List ℕ → List ℕ → Bool
after t l [] = true
after t [] (v ∷ r) = false
after t (u ∷ l) (v ∷ r) = eqb v (eight t u) && after t l r

after-at : (t l r : List ℕ) → T (after t l r) → (j : ℕ) → j < length r → get_or r j 0 ≡ eight t (get_or l j 0)
after-at t l [] o j h = absurd (not-suc-le-zero h)
after-at t [] (v ∷ r) o j h = absurd o
after-at t (u ∷ l) (v ∷ r) o zero h = eqb→eq v (eight t u) (and_left (eqb v (eight t u)) (after t l r) o)
after-at t (u ∷ l) (v ∷ r) o (suc j) h = after-at t l r (and_right (eqb v (eight t u)) (after t l r) o) j (le_of_suc-le-suc h)

-- the test, whose parts antt computes
pub record Passes (p : ℕ) (t : List ℕ) : Type 0 where
  pub long : T (eqb (length t) 256)
  pub lower : T (row p 1 16 0 t)
  pub upper : T (row p 16 16 0 (drop 16 t))
  pub rows : T (after t t (drop 32 t))

module _ {p : ℕ} {t : List ℕ} (h : Passes p t) where
  lower-at : (j : ℕ) → j < 16 → get_or t j 0 ≡ clocks p 8 j
  lower-at j l =
      let same : (0 + j) * 1 ≡ j = omega arith in
      row_at p 1 16 0 t h.lower j l ∙ run_is p 8 ((0 + j) * 1) ∙ ap (clocks p 8) same

  upper-at : (j : ℕ) → j < 16 → get_or t (16 + j) 0 ≡ clocks p 8 (j * 16)
  upper-at j l =
      let same : (0 + j) * 16 ≡ j * 16 = omega arith in
      sym (get_or-drop 16 t j 0) ∙ row_at p 16 16 0 (drop 16 t) h.upper j l ∙ run_is p 8 ((0 + j) * 16) ∙ ap (clocks p 8) same

  byte-is : (x : ℕ) → x < 256 → byte t x ≡ clocks p 8 x
  byte-is x hx =
      ap₂ bit_xor (lower-at (x % 16) (omega arith)) (upper-at (x / 16) (omega arith))
      ∙ xor_comm (clocks p 8 (x % 16)) (clocks p 8 (x / 16 * 16))
      ∙ sym (clocks-xor p 8 (x / 16 * 16) (x % 16))
      ∙ ap (clocks p 8) (xor_shifted (x / 16) 4 (x % 16) (mod-lt x (pow_pos 4)) ∙ split x 4)

  eight_is : (u : ℕ) → eight t u ≡ clocks p 8 u
  eight_is u = ap (bit_xor (u / 256)) (byte-is (u % 256) (mod-lt u (zero-lt-suc 255))) ∙ sym (byte_step p u)

  -- row k is 8 k bits ahead of the first
  ahead : (k m : ℕ) → k < 8 → m < 32 → get_or t (k * 32 + m) 0 ≡ clocks p (8 * k) (get_or t m 0)
  ahead zero m hk hm = ap (λ (j : ℕ). get_or t j 0) (ap (λ (y : ℕ). y + m) (zero-mul 32) ∙ zero-add m) ∙ none p (get_or t m 0)
  ahead (suc k) m hk hm =
      let long : length t ≡ 256 = eqb→eq (length t) 256 h.long in
      let q : k * 32 + m < length (drop 32 t) = subst (λ (y : ℕ). k * 32 + m < y) (sym (length-drop 32 t ∙ ap (λ (y : ℕ). y - 32) long)) (omega arith) in
      let place : suc k * 32 + m ≡ 32 + (k * 32 + m) = omega arith in
      let more : 8 * k + 8 ≡ 8 * suc k = omega arith in
      ap (λ (j : ℕ). get_or t j 0) place
      ∙ sym (get_or-drop 32 t (k * 32 + m) 0)
      ∙ after-at t t (drop 32 t) h.rows (k * 32 + m) q
      ∙ eight_is (get_or t (k * 32 + m) 0)
      ∙ ap (clocks p 8) (ahead k m (omega arith) hm)
      ∙ sym (clocks-add p (8 * k) 8 (get_or t m 0))
      ∙ ap (λ (n : ℕ). clocks p n (get_or t m 0)) more

  both : (k x : ℕ) → k < 8 → x < 256 → bit_xor (get_or t (k * 32 + x % 16) 0) (get_or t (k * 32 + 16 + x / 16) 0) ≡ clocks p (8 * (k + 1)) x
  both k x hk hx =
      let place : k * 32 + 16 + x / 16 ≡ k * 32 + (16 + x / 16) = omega arith in
      let more : 8 + 8 * k ≡ 8 * (k + 1) = omega arith in
      ap₂ bit_xor (ahead k (x % 16) hk (omega arith)) (ap (λ (j : ℕ). get_or t j 0) place ∙ ahead k (16 + x / 16) hk (omega arith))
      ∙ sym (clocks-xor p (8 * k) (get_or t (x % 16) 0) (get_or t (16 + x / 16) 0))
      ∙ ap (clocks p (8 * k)) (byte-is x hx)
      ∙ sym (clocks-add p 8 (8 * k) x)
      ∙ ap (λ (n : ℕ). clocks p n x) more

pub right : {p : ℕ} {t : List ℕ} → Passes p t → Halves p t
right h = record { at = both h }
