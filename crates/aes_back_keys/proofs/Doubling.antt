-- Products by doubling. Assumes nothing.
use mathlib.Core.Path.{◌≡◌, sym, ap, ap₂, ◌∙◌}
use Prim.Native.Nat.{ℕ, ◌+◌, ◌*◌, ◌-◌, ◌/◌, ◌%◌, ◌≤◌, ◌<◌}
use native.Mathlib.Omega.{arith}
use lib.Bits.{bit_xor, xor_lt, xor_zero_l, xor_zero_r}
use Rattle.aes.specs.Field.{when, xtime, times, mul}
use Rattle.aes.specs.Words.{bytes4, unproducts}
use Rattle.aes.proofs.Words.{list4, packed}

pub double-low : (a : ℕ) → a < 128 → (a * 2 ≡ xtime a) × (a * 2 < 256)
unfolding xtime
double-low a h =
    let e : a / 128 % 2 ≡ 0 = omega arith in
    let f : a * 2 % 256 ≡ a * 2 = omega arith in
    (sym (ap₂ (λ (x d : ℕ). bit_xor x (when d 0x1b)) f e ∙ xor_zero_r (a * 2)), omega arith)

pub double-high : (a : ℕ) → 128 ≤ a → a < 256 → (bit_xor (a * 2 - 256) 0x1b ≡ xtime a)
    × (bit_xor (a * 2 - 256) 0x1b < 256)
unfolding xtime
double-high a l h =
    let e : a / 128 % 2 ≡ 1 = omega arith in
    let f : a * 2 % 256 ≡ a * 2 - 256 = omega arith in
    (sym (ap₂ (λ (x d : ℕ). bit_xor x (when d 0x1b)) f e), xor_lt 8 (a * 2 - 256) 0x1b (omega arith) (omega arith))

by-14 : (a b c d : ℕ) → b ≡ xtime a → c ≡ xtime b → d ≡ xtime c → bit_xor b (bit_xor c d) ≡ mul a 14
unfolding mul times
by-14 a b c d e f g =
    let p = f ∙ ap xtime e in
    let q = g ∙ ap xtime p in
    ap₂ bit_xor e (ap₂ bit_xor p (q ∙ sym (xor_zero_r (xtime (xtime (xtime a))))))
    ∙ sym (xor_zero_l (bit_xor (xtime a) (bit_xor (xtime (xtime a)) (bit_xor (xtime (xtime (xtime a))) 0))))

by-9 : (a b c d : ℕ) → b ≡ xtime a → c ≡ xtime b → d ≡ xtime c → bit_xor a d ≡ mul a 9
unfolding mul times
by-9 a b c d e f g =
    let q = g ∙ ap xtime (f ∙ ap xtime e) in
    let t = bit_xor (xtime (xtime (xtime a))) 0 in
    ap (bit_xor a) (q ∙ sym (xor_zero_r (xtime (xtime (xtime a)))) ∙ sym (xor_zero_l t) ∙ sym (xor_zero_l (bit_xor 0 t)))

by-13 : (a b c d : ℕ) → b ≡ xtime a → c ≡ xtime b → d ≡ xtime c → bit_xor a (bit_xor c d) ≡ mul a 13
unfolding mul times
by-13 a b c d e f g =
    let p = f ∙ ap xtime e in
    let q = g ∙ ap xtime p in
    ap (bit_xor a) (ap₂ bit_xor p (q ∙ sym (xor_zero_r (xtime (xtime (xtime a)))))
    ∙ sym (xor_zero_l (bit_xor (xtime (xtime a)) (bit_xor (xtime (xtime (xtime a))) 0))))

by-11 : (a b c d : ℕ) → b ≡ xtime a → c ≡ xtime b → d ≡ xtime c → bit_xor a (bit_xor b d) ≡ mul a 11
unfolding mul times
by-11 a b c d e f g =
    let q = g ∙ ap xtime (f ∙ ap xtime e) in
    ap (bit_xor a) (ap₂ bit_xor e (q ∙ sym (xor_zero_r (xtime (xtime (xtime a))))
    ∙ sym (xor_zero_l (bit_xor (xtime (xtime (xtime a))) 0))))

-- a sum of bytes is a byte
pub xor_byte : (a b : ℕ) → a < 256 → b < 256 → bit_xor a b < 256
xor_byte a b ha hb = xor_lt 8 a b ha hb

-- the four sums are bytes
few : (a b c d : ℕ) → a < 256 → b < 256 → c < 256 → d < 256
    → (bit_xor b (bit_xor c d) < 256)
    × ((bit_xor a d < 256) × ((bit_xor a (bit_xor c d) < 256) × (bit_xor a (bit_xor b d) < 256)))
few a b c d ha hb hc hd =
    let cd = xor_lt 8 c d hc hd in (
      xor_lt 8 b (bit_xor c d) hb cd,
      (
        xor_lt 8 a d ha hd,
        (xor_lt 8 a (bit_xor c d) ha cd, xor_lt 8 a (bit_xor b d) ha (xor_lt 8 b d hb hd)),
      ),
    )

pub look-law : (a b c d : ℕ) → a < 256 → (b ≡ xtime a) × (b < 256) → (c ≡ xtime b) × (c < 256) → (d ≡ xtime c)
    × (d < 256)
    → bytes4 (bit_xor b (bit_xor c d) + bit_xor a d * 256 + bit_xor a (bit_xor c d) * 65536 + bit_xor a (bit_xor b d) *
    16777216) ≡ unproducts a
unfolding unproducts
look-law a b c d h (eb, hb) (ec, hc) (ed, hd) =
    let f = few a b c d h hb hc hd in
    packed f.0 f.1.0 f.1.1.0 f.1.1.1
    ∙ list4 (by-14 a b c d eb ec ed) (by-9 a b c d eb ec ed) (by-13 a b c d eb ec ed) (by-11 a b c d eb ec ed)
