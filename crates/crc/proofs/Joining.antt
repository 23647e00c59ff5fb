-- Four interleaved registers: what joining them gives, and a turn of them. All of it holds for every polynomial. Assumes nothing.
use mathlib.Core.Path.{◌≡◌, refl, sym, ap, ap₂, ◌∙◌}
use mathlib.Core.List.{List}
use Prim.Native.Nat.{ℕ, ◌+◌, ◌-◌, ◌*◌, ◌≤◌, min}
use native.Mathlib.Nat.{zero-add}
use native.Mathlib.Omega.{arith}
use lib.ListN.{length, take, drop, length-drop}
use lib.Seq.{take_all}
use lib.Bits.{bit_xor, xor_comm, xor_zero_r}
use Rattle.wire.specs.Bytes.{le, part}
use Rattle.wire.proofs.ByteLaws.{Small, small-drop, cut-part, part-part}
use Rattle.crc.specs.Crc.{clocks, feeds}
use Rattle.crc.specs.Interleaved.{merged}
use Rattle.crc.specs.declared.Lanes.{Lanes}
use Rattle.crc.proofs.Xor.{xor_assoc}
use Rattle.crc.proofs.Register.{clocks-xor, clocks-add}
use Rattle.crc.proofs.Feeding.{feeds-xor, zero-added, part-le, turn}

-- what the parts between places that were kept within the end give
pub merged-is : (p : ℕ) (r : Lanes) (s : List ℕ) {x y z c₀ c₁ c₂ c₃ : ℕ} → x ≡ min (length s) 8 → y ≡ min (length s) 16 → z ≡ min (length s) 24
    → c₀ ≡ feeds p r.first (take x s)
    → c₁ ≡ feeds p (bit_xor c₀ r.second) (take (y - x) (drop x s))
    → c₂ ≡ feeds p (bit_xor c₁ r.third) (take (z - y) (drop y s))
    → c₃ ≡ feeds p (bit_xor c₂ r.fourth) (take (length s - z) (drop z s))
    → c₃ ≡ merged p r s
unfolding merged
merged-is p r s {x} {y} {z} i' j' k' e₀ e₁ e₂ e₃ =
    let i : x ≡ min 8 (length s) = omega arith in
    let j : y ≡ min 16 (length s) = omega arith in
    let k : z ≡ min 24 (length s) = omega arith in
    let w : x ≡ x - 0 = omega arith in
    let o : 0 ≡ min 0 (length s) = omega arith in
    let l : length s ≡ min (24 + length s) (length s) = omega arith in
    let q₀ = e₀ ∙ ap (λ (n : ℕ). feeds p r.first (take n s)) w ∙ ap (feeds p r.first) (cut-part s 0 8 {x = 0} {y = x} o i) in
    let q₁ = e₁ ∙ ap₂ (λ c t. feeds p (bit_xor c r.second) t) q₀ (cut-part s 8 8 {x = x} {y = y} i j) in
    let q₂ = e₂ ∙ ap₂ (λ c t. feeds p (bit_xor c r.third) t) q₁ (cut-part s 16 8 {x = y} {y = z} j k) in
    e₃ ∙ ap₂ (λ c t. feeds p (bit_xor c r.fourth) t) q₂ (cut-part s 24 (length s) {x = z} {y = length s} k l ∙ take_all (length s) (drop 24 s) (rw length-drop (omega arith)))

-- ---- sums, sorted

move : (A Y a : ℕ) → bit_xor (bit_xor A Y) a ≡ bit_xor Y (bit_xor a A)
move A Y a = ap (λ (x : ℕ). bit_xor x a) (xor_comm A Y) ∙ xor_assoc Y A a ∙ ap (bit_xor Y) (xor_comm A a)

move-2 : (B Z a b : ℕ) → bit_xor (bit_xor (bit_xor B Z) a) b ≡ bit_xor (bit_xor Z a) (bit_xor b B)
move-2 B Z a b = ap (λ (x : ℕ). bit_xor x b) (xor_assoc B Z a) ∙ move B (bit_xor Z a) b

move-3 : (D X a b d : ℕ) → bit_xor (bit_xor (bit_xor (bit_xor D X) a) b) d ≡ bit_xor (bit_xor (bit_xor X a) b) (bit_xor d D)
move-3 D X a b d = ap (λ (x : ℕ). bit_xor (bit_xor x b) d) (xor_assoc D X a) ∙ move-2 D (bit_xor X a) b d

move-4 : (E F a b d e : ℕ) → bit_xor (bit_xor (bit_xor (bit_xor (bit_xor E F) a) b) d) e ≡ bit_xor (bit_xor (bit_xor (bit_xor F a) b) d) (bit_xor e E)
move-4 E F a b d e = ap (λ (x : ℕ). bit_xor (bit_xor (bit_xor x b) d) e) (xor_assoc E F a) ∙ move-3 E (bit_xor F a) b d e

-- the words' sums A, B, D, E join the registers' a, b, d, e
woven : (A B D E F a b d e : ℕ) → bit_xor (bit_xor (bit_xor (bit_xor (bit_xor A (bit_xor B (bit_xor D (bit_xor E F)))) a) b) d) e
    ≡ bit_xor (bit_xor (bit_xor (bit_xor F (bit_xor a A)) (bit_xor b B)) (bit_xor d D)) (bit_xor e E)
woven A B D E F a b d e =
    ap (λ (x : ℕ). bit_xor (bit_xor (bit_xor x b) d) e) (move A (bit_xor B (bit_xor D (bit_xor E F))) a)
    ∙ ap (λ (x : ℕ). bit_xor (bit_xor x d) e) (move-2 B (bit_xor D (bit_xor E F)) (bit_xor a A) b)
    ∙ ap (λ (x : ℕ). bit_xor x e) (move-3 D (bit_xor E F) (bit_xor a A) (bit_xor b B) d)
    ∙ move-4 E F (bit_xor a A) (bit_xor b B) (bit_xor d D) e

-- the sum of n bytes, f, and of the registers, each counted from its place on
abbrev pub sums : ℕ → ℕ → Lanes → ℕ → ℕ
sums p f l n =
    bit_xor (bit_xor (bit_xor (bit_xor f (clocks p (8 * (n - 0)) l.first)) (clocks p (8 * (n - 8)) l.second)) (clocks p (8 * (n - 16)) l.third))
    (clocks p (8 * (n - 24)) l.fourth)

-- ---- the bytes r that are still to be fed

module _ (p : ℕ) (r : List ℕ) (h : Small r) where
  fed-on : (c at : ℕ) → feeds p (feeds p c (part r at 8)) (drop (at + 8) r) ≡ feeds p c (drop at r)
  fed-on c at = turn p r c at 8 refl refl

  -- a register that joins at a place counts from there on
  joins : (c x at : ℕ) → feeds p (bit_xor (feeds p c (part r at 8)) x) (drop (at + 8) r) ≡ bit_xor (feeds p c (drop at r)) (clocks p (8 * (length r - (at + 8))) x)
  joins c x at =
      sym (feeds-xor p (feeds p c (part r at 8)) x (drop (at + 8) r) (small-drop r (at + 8) h))
      ∙ ap₂ (λ (y n : ℕ). bit_xor y (clocks p (8 * n) x)) (fed-on c at) (length-drop (at + 8) r)

  merged-sum : (l : Lanes) → merged p l r ≡ sums p (feeds p 0 r) l (length r)
  unfolding merged
  merged-sum l =
      let c₀ = bit_xor (feeds p l.first (part r 0 8)) l.second in
      let c₁ = bit_xor (feeds p c₀ (part r 8 8)) l.third in
      let o : length r ≡ length r - 0 = omega arith in
      let z : feeds p l.first r ≡ bit_xor (feeds p 0 r) (clocks p (8 * (length r - 0)) l.first) =
      ap (λ (x : ℕ). feeds p x r) (zero-added l.first) ∙ sym (feeds-xor p 0 l.first r h)
      ∙ ap (λ (n : ℕ). bit_xor (feeds p 0 r) (clocks p (8 * n) l.first)) o in
      joins c₁ l.fourth 16
      ∙ ap (λ (x : ℕ). bit_xor x (clocks p (8 * (length r - 24)) l.fourth))
      (joins c₀ l.third 8
      ∙ ap (λ (x : ℕ). bit_xor x (clocks p (8 * (length r - 16)) l.third))
      (joins l.first l.second 0 ∙ ap (λ (x : ℕ). bit_xor x (clocks p (8 * (length r - 8)) l.second)) z))

  -- eight bytes and those behind them
  front : (at : ℕ) → at + 8 ≤ length r → feeds p 0 (drop at r) ≡ bit_xor (clocks p (8 * (length r - at)) (le (part r at 8))) (feeds p 0 (drop (at + 8) r))
  front at f =
      let w = le (part r at 8) in
      let y : feeds p 0 (part r at 8) ≡ bit_xor 0 (clocks p 64 w) =
      part-le p r h 0 at 8 f ∙ ap (clocks p 64) (sym (zero-added w)) ∙ zero-added (clocks p 64 w) in
      let n : 64 + 8 * (length r - (at + 8)) ≡ 8 * (length r - at) = omega arith in
      sym (fed-on 0 at)
      ∙ ap (λ (x : ℕ). feeds p x (drop (at + 8) r)) y
      ∙ sym (feeds-xor p 0 (clocks p 64 w) (drop (at + 8) r) (small-drop r (at + 8) h))
      ∙ xor_comm (feeds p 0 (drop (at + 8) r)) (clocks p (8 * length (drop (at + 8) r)) (clocks p 64 w))
      ∙ ap (λ (x : ℕ). bit_xor x (feeds p 0 (drop (at + 8) r)))
      (ap (λ (m : ℕ). clocks p (8 * m) (clocks p 64 w)) (length-drop (at + 8) r) ∙ sym (clocks-add p 64 (8 * (length r - (at + 8))) w) ∙ ap (λ (m : ℕ). clocks p m w) n)

  -- a register's turn: its word is added, and 256 bits fall out
  lane : (at x : ℕ) {y : ℕ} → at + 32 ≤ length r → y ≡ clocks p 256 (bit_xor x (le (part r at 8)))
      → bit_xor (clocks p (8 * (length r - at)) x) (clocks p (8 * (length r - at)) (le (part r at 8))) ≡ clocks p (8 * (length r - 32 - at)) y
  lane at x {y} f e =
      let w = le (part r at 8) in
      let n : 8 * (length r - at) ≡ 256 + 8 * (length r - 32 - at) = omega arith in
      sym (clocks-xor p (8 * (length r - at)) x w)
      ∙ ap (λ (m : ℕ). clocks p m (bit_xor x w)) n
      ∙ clocks-add p 256 (8 * (length r - 32 - at)) (bit_xor x w)
      ∙ ap (clocks p (8 * (length r - 32 - at))) (sym e)

-- a turn of the four registers
turned : (p : ℕ) (r : List ℕ) → Small r → (l m : Lanes) → 64 ≤ length r
    → m.first ≡ clocks p 256 (bit_xor l.first (le (part r 0 8)))
    → m.second ≡ clocks p 256 (bit_xor l.second (le (part r 8 8)))
    → m.third ≡ clocks p 256 (bit_xor l.third (le (part r 16 8)))
    → m.fourth ≡ clocks p 256 (bit_xor l.fourth (le (part r 24 8)))
    → merged p m (drop 32 r) ≡ merged p l r
turned p r h l m f e₀ e₁ e₂ e₃ =
    let A = clocks p (8 * (length r - 0)) (le (part r 0 8)) in
    let B = clocks p (8 * (length r - 8)) (le (part r 8 8)) in
    let D = clocks p (8 * (length r - 16)) (le (part r 16 8)) in
    let E = clocks p (8 * (length r - 24)) (le (part r 24 8)) in
    let F = feeds p 0 (drop 32 r) in
    let a = clocks p (8 * (length r - 0)) l.first in
    let b = clocks p (8 * (length r - 8)) l.second in
    let d = clocks p (8 * (length r - 16)) l.third in
    let e = clocks p (8 * (length r - 24)) l.fourth in
    let words : feeds p 0 r ≡ bit_xor A (bit_xor B (bit_xor D (bit_xor E F))) =
    front p r h 0 (omega arith)
    ∙ ap (bit_xor A) (front p r h 8 (omega arith) ∙ ap (bit_xor B) (front p r h 16 (omega arith) ∙ ap (bit_xor D) (front p r h 24 (omega arith)))) in
    let lanes : bit_xor (bit_xor (bit_xor (bit_xor F (bit_xor a A)) (bit_xor b B)) (bit_xor d D)) (bit_xor e E) ≡ sums p F m (length r - 32) =
    ap₂ bit_xor
    (ap₂ bit_xor
    (ap₂ bit_xor (ap (bit_xor F) (lane p r h 0 l.first (omega arith) e₀)) (lane p r h 8 l.second (omega arith) e₁))
    (lane p r h 16 l.third (omega arith) e₂))
    (lane p r h 24 l.fourth (omega arith) e₃) in
    merged-sum p (drop 32 r) (small-drop r 32 h) m
    ∙ ap (sums p F m) (length-drop 32 r)
    ∙ sym lanes
    ∙ sym (woven A B D E F a b d e)
    ∙ sym (ap (λ (x : ℕ). sums p x l (length r)) words)
    ∙ sym (merged-sum p r h l)

-- the same over the first 32 bytes, as code has them
pub turned-front : (p : ℕ) (r : List ℕ) → Small r → (l m : Lanes) {w : List ℕ} → 64 ≤ length r → w ≡ take 32 r
    → m.first ≡ clocks p 256 (bit_xor l.first (le (part w 0 8)))
    → m.second ≡ clocks p 256 (bit_xor l.second (le (part w 8 8)))
    → m.third ≡ clocks p 256 (bit_xor l.third (le (part w 16 8)))
    → m.fourth ≡ clocks p 256 (bit_xor l.fourth (le (part w 24 8)))
    → merged p m (drop 32 r) ≡ merged p l r
turned-front p r h l m {w} f e e₀ e₁ e₂ e₃ =
    let at : (x k : ℕ) → k + 8 ≤ 32 → clocks p 256 (bit_xor x (le (part w k 8))) ≡ clocks p 256 (bit_xor x (le (part r k 8))) =
    λ x k g. ap (λ (t : List ℕ). clocks p 256 (bit_xor x (le t))) (ap (λ (t : List ℕ). part t k 8) e ∙ part-part r 0 32 k 8 g ∙ ap (λ (j : ℕ). part r j 8) (zero-add k)) in
    turned p r h l m f (e₀ ∙ at l.first 0 (omega arith)) (e₁ ∙ at l.second 8 (omega arith)) (e₂ ∙ at l.third 16 (omega arith)) (e₃ ∙ at l.fourth 24 (omega arith))

-- one register alone
pub alone : (p c : ℕ) (s : List ℕ) {l : Lanes} → Small s → l.first ≡ c → l.second ≡ 0 → l.third ≡ 0 → l.fourth ≡ 0 → merged p l s ≡ feeds p c s
unfolding merged
alone p c s {l} h e₀ e₁ e₂ e₃ =
    let c₀ = feeds p c (part s 0 8) in
    let c₁ = feeds p c₀ (part s 8 8) in
    let c₂ = feeds p c₁ (part s 16 8) in
    let q₀ : bit_xor (feeds p l.first (part s 0 8)) l.second ≡ c₀ = ap₂ (λ (x y : ℕ). bit_xor (feeds p x (part s 0 8)) y) e₀ e₁ ∙ xor_zero_r c₀ in
    let q₁ = ap₂ (λ (x y : ℕ). bit_xor (feeds p x (part s 8 8)) y) q₀ e₂ ∙ xor_zero_r c₁ in
    let q₂ = ap₂ (λ (x y : ℕ). bit_xor (feeds p x (part s 16 8)) y) q₁ e₃ ∙ xor_zero_r c₂ in
    ap (λ (x : ℕ). feeds p x (drop 24 s)) q₂ ∙ fed-on p s h c₁ 16 ∙ fed-on p s h c₀ 8 ∙ fed-on p s h c 0
