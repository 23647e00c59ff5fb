-- A table that passes a computed test is right, for every polynomial: an entry is the sum of what its highest power of
-- two and the rest of it stand for, and a power of two stands for what a bit more makes of the next one. Assumes nothing.
use mathlib.Core.Path.{◌≡◌, refl, sym, ap, ap₂, ◌∙◌}
use mathlib.Core.Bool.{Bool, true, false, ◌&&◌}
use mathlib.Core.List.{List, [], ◌∷◌}
use Prim.Native.Nat.{ℕ, zero, suc, ◌+◌, ◌-◌, ◌*◌, ◌^◌, ◌≤◌, ◌<◌}
use native.Mathlib.Nat.{le_of_suc-le-suc, not-suc-le-zero, add_comm, zero-mul, one-mul, mul-suc, pow-suc}
use native.Mathlib.Omega.{arith}
use lib.Dec.{T, eqb, eqb→eq, leb}
use lib.ListN.{length, get_or, take, drop, length-drop}
use lib.Seq.{get_or-take, get_or-drop, length-take-le}
use lib.Bits.{bit_xor, xor_shifted}
use borrow.Author.Tests.{leb-true, leb-false}
use Rattle.crc.specs.Crc.{clocks}
use Rattle.crc.proofs.Register.{clocks-xor, clocks-add, clocks-even}
use Rattle.crc.proofs.TableTest.{run, run_is, and_left, and_right}
use Rattle.crc_sliced.specs.Slices.{Slices}

-- ---- the test, which antt computes

-- each of r is b and one of l, added
abbrev pairs : ℕ → List ℕ → List ℕ → Bool
pairs b [] [] = true
pairs b [] (v ∷ r) = false
pairs b (u ∷ l) [] = false
pairs b (u ∷ l) (v ∷ r) = eqb v (bit_xor b u) && pairs b l r

-- the entries for n low digits, where x stands for 2 ^ n
abbrev grown : ℕ → ℕ → ℕ → List ℕ → Bool
grown p zero x row = eqb (get_or row 0 0) 0
grown p (suc n) x row = grown p n (run p 1 x) row && pairs (run p 1 x) (take (2 ^ n) row) (take (2 ^ n) (drop (2 ^ n) row))

-- n rows, where x stands for 256 in the first
abbrev pub rows : ℕ → ℕ → ℕ → List ℕ → Bool
rows p zero x t = true
rows p (suc n) x t = grown p 8 x (take 256 t) && rows p n (run p 8 x) (drop 256 t)

-- ---- what it shows

pairs-at : (b : ℕ) (l r : List ℕ) → T (pairs b l r) → (i : ℕ) → i < length l → get_or r i 0 ≡ bit_xor b (get_or l i 0)
pairs-at b [] r t i h = absurd (not-suc-le-zero h)
pairs-at b (u ∷ l) [] t i h = absurd t
pairs-at b (u ∷ l) (v ∷ r) t zero h = eqb→eq v (bit_xor b u) (and_left (eqb v (bit_xor b u)) (pairs b l r) t)
pairs-at b (u ∷ l) (v ∷ r) t (suc i) h = pairs-at b l r (and_right (eqb v (bit_xor b u)) (pairs b l r) t) i (le_of_suc-le-suc h)

-- as many bits more
later : (p m k c : ℕ) {x : ℕ} → x ≡ clocks p m c → run p k x ≡ clocks p (m + k) c
later p m k c {x} e = run_is p k x ∙ ap (clocks p k) e ∙ sym (clocks-add p m k c)

-- a bit more makes of a power of two what the one below it stands for
halved : (p m n : ℕ) {x : ℕ} → x ≡ clocks p m (2 ^ suc n) → run p 1 x ≡ clocks p m (2 ^ n)
halved p m n e =
    later p m 1 (2 ^ suc n) e
    ∙ ap (λ (k : ℕ). clocks p k (2 ^ suc n)) (add_comm m 1)
    ∙ clocks-add p 1 m (2 ^ suc n)
    ∙ ap (clocks p m) (ap (clocks p 1) (pow-suc 2 n) ∙ clocks-even p 1 (2 ^ n))

grown-at : (p m n x : ℕ) (row : List ℕ) → x ≡ clocks p m (2 ^ n) → 2 ^ n ≤ length row → T (grown p n x row) → (i : ℕ) → i < 2 ^ n → get_or row i 0 ≡ clocks p m i
grown-at p m zero x row e l t zero f = eqb→eq (get_or row 0 0) 0 t ∙ sym (ap (clocks p m) (sym (zero-mul (2 ^ m))) ∙ clocks-even p m 0)
grown-at p m zero x row e l t (suc i) f = absurd (not-suc-le-zero (le_of_suc-le-suc f))
grown-at p m (suc n) x row e l t i f =
    let l' : 2 ^ n * 2 ≤ length row = rw (pow-suc 2 n) at l in
    let y = run p 1 x in
    let q = pairs y (take (2 ^ n) row) (take (2 ^ n) (drop (2 ^ n) row)) in
    go (grown-at p m n y row (halved p m n e) (omega arith) (and_left (grown p n y row) q t)) (and_right (grown p n y row) q t) (leb (2 ^ n) i) refl
  where
    go : ((j : ℕ) → j < 2 ^ n → get_or row j 0 ≡ clocks p m j) → T (pairs (run p 1 x) (take (2 ^ n) row) (take (2 ^ n) (drop (2 ^ n) row)))
        → (o : Bool) → leb (2 ^ n) i ≡ o → get_or row i 0 ≡ clocks p m i
    go below u false z = below i (leb-false (2 ^ n) i z)
    go below u true z =
        let b = 2 ^ n in
        let g = leb-true b i z in
        let l' : b * 2 ≤ length row = rw (pow-suc 2 n) at l in
        let f' : i < b * 2 = rw (pow-suc 2 n) at f in
        let y : i - b < b = omega arith in
        let j : i ≡ b + (i - b) = omega arith in
        let k : 1 * b + (i - b) ≡ i = omega arith in
        let w : i - b < length (take b row) = rw (length-take-le b row (omega arith)) y in
        ap (λ (a : ℕ). get_or row a 0) j
        ∙ sym (get_or-drop b row (i - b) 0)
        ∙ sym (get_or-take b (drop b row) (i - b) 0 y)
        ∙ pairs-at (run p 1 x) (take b row) (take b (drop b row)) u (i - b) w
        ∙ ap₂ bit_xor (halved p m n e ∙ ap (clocks p m) (sym (one-mul b))) (get_or-take b row (i - b) 0 y ∙ below (i - b) y)
        ∙ sym (clocks-xor p m (1 * b) (i - b))
        ∙ ap (clocks p m) (xor_shifted 1 n (i - b) y ∙ k)

rows_at : (p m n x : ℕ) (t : List ℕ) → x ≡ clocks p m 256 → T (rows p n x t)
    → (k i : ℕ) → k < n → 256 * n ≤ length t → i < 256 → get_or t (k * 256 + i) 0 ≡ clocks p (m + 8 * k) i
rows_at p m zero x t e o k i f w g = absurd (not-suc-le-zero f)
rows_at p m (suc n) x t e o zero i f w g =
    let v : 256 ≤ length t = omega (arith, mul-suc 256 n) in
    let y : 256 ≤ length (take 256 t) = rw (length-take-le 256 t v) (omega arith) in
    let j : 0 * 256 + i ≡ i = omega arith in
    let b : m ≡ m + 8 * 0 = omega arith in
    ap (λ (a : ℕ). get_or t a 0) j
    ∙ sym (get_or-take 256 t i 0 g)
    ∙ grown-at p m 8 x (take 256 t) e y (and_left (grown p 8 x (take 256 t)) (rows p n (run p 8 x) (drop 256 t)) o) i g
    ∙ ap (λ (a : ℕ). clocks p a i) b
rows_at p m (suc n) x t e o (suc k) i f w g =
    let j : suc k * 256 + i ≡ 256 + (k * 256 + i) = omega arith in
    let b : m + 8 + 8 * k ≡ m + 8 * suc k = omega arith in
    let v : 256 * n ≤ length (drop 256 t) = rw length-drop (omega (arith, mul-suc 256 n)) in
    ap (λ (a : ℕ). get_or t a 0) j
    ∙ sym (get_or-drop 256 t (k * 256 + i) 0)
    ∙ rows_at p (m + 8) n (run p 8 x) (drop 256 t) (later p m 8 256 e) (and_right (grown p 8 x (take 256 t)) (rows p n (run p 8 x) (drop 256 t)) o) k i (le_of_suc-le-suc f) v g
    ∙ ap (λ (a : ℕ). clocks p a i) b

-- a table that passes the test is right
pub right : {p : ℕ} {t : List ℕ} → T (eqb (length t) 2048) → T (rows p 8 (run p 200 256) t) → Slices p t
right {p} {t} z o =
    record {
      at = λ k x f g.
          let l : length t ≡ 2048 = eqb→eq (length t) 2048 z in
          let n : 200 + 8 * k ≡ 8 * (k + 25) = omega arith in
          rows_at p 200 8 (run p 200 256) t (run_is p 200 256) o k x f (omega arith) g ∙ ap (λ (j : ℕ). clocks p j x) n;
    }
