-- The words of a block, one after another. Assumes nothing.
use Rattle.std.proofs.Common.{◌≡◌, ℕ, zero, suc, ◌+◌, ◌-◌, ◌*◌, ◌<◌, ◌≤◌, Bool, true, false, ltb, List, [], ◌∷◌, ◌++◌, length, get_or, take, set, sym, refl, ap, ◌∙◌, ap₂, add-zero, add-suc, add-one, arith, length-append, take_all, drop-cons, get_or-take, take-suc-set, ltb-false}
use lib.Bits.{bit_xor}
use lib.Seq.{take-append-le}
use Rattle.wire.specs.Bytes.{le, part}
use Rattle.wire.specs.Choice.{pick}
use Rattle.hash_blocks.specs.Words.{rotl, be}
use Rattle.sha1_hash.specs.Sha1.{word_of, longer, schedule, step}
use Rattle.sha1_hash.specs.declared.State.{State}

pick-right : (b : Bool) (x y z : ℕ) → (b ≡ false → y ≡ z) → pick b x y ≡ pick b x z
pick-right true x y z f = refl
pick-right false x y z f = f refl

-- a word looks at earlier ones only
word-take : (b : List ℕ) (t : ℕ) (w : List ℕ) → word_of b t w ≡ word_of b t (take t w)
unfolding word_of
word-take b t w =
    pick-right (ltb t 16) _ _ _
    (λ n. let h : 16 ≤ t = ltb-false t 16 n in
    sym (ap (rotl 1)
    (ap₂ bit_xor
    (ap₂ bit_xor
    (ap₂ bit_xor (get_or-take t w (t - 3) 0 (omega arith)) (get_or-take t w (t - 8) 0 (omega arith)))
    (get_or-take t w (t - 14) 0 (omega arith)))
    (get_or-take t w (t - 16) 0 (omega arith)))))

pub fill-next : (b : List ℕ) (t : ℕ) (w : List ℕ) (r : ℕ) → t < length w → r ≡ word_of b t w → take t w ≡ schedule b t
    → take (t + 1) (set w t r) ≡ schedule b (t + 1)
unfolding schedule longer
fill-next b t w r h e i =
    ap (λ (n : ℕ). take n (set w t r)) (add-one t) ∙ take-suc-set w t r h
    ∙ ap (λ (x : ℕ). take t w ++ (x ∷ [])) (e ∙ word-take b t w)
    ∙ ap (longer b t) i ∙ ap (schedule b) (sym (add-one t))

-- the first words stay the first
length-schedule : (b : List ℕ) (n : ℕ) → length (schedule b n) ≡ n
unfolding schedule longer
length-schedule b zero = refl
length-schedule b (suc n) =
    length-append (schedule b n) (word_of b n (schedule b n) ∷ []) ∙ omega (arith, length-schedule b n)

schedule-front : (b : List ℕ) (n k : ℕ) → take n (schedule b (n + k)) ≡ schedule b n
unfolding schedule longer
schedule-front b n zero = rw add-zero (take_all n (schedule b n) (omega (arith, length-schedule b n)))
schedule-front b n (suc k) =
    rw add-suc
    (take-append-le n (schedule b (n + k)) _ (omega (arith, length-schedule b (n + k))) ∙ schedule-front b n k)

-- a step looks at its own word only
pub step-word : (b : List ℕ) (t : ℕ) (w : List ℕ) (q : State) → t < 80 → take (t + 1) w ≡ schedule b (t + 1)
    → step w t q ≡ step (schedule b 80) t q
unfolding step
step-word b t w q h e =
    let p : t + 1 + (79 - t) ≡ 80 = omega arith in
    let x : get_or w t 0 ≡ get_or (schedule b 80) t 0 =
    sym (get_or-take (t + 1) w t 0 (omega arith))
    ∙ ap (λ (l : List ℕ). get_or l t 0)
    (e ∙ sym (schedule-front b (t + 1) (79 - t)) ∙ ap (λ (n : ℕ). take (t + 1) (schedule b n)) p)
    ∙ get_or-take (t + 1) (schedule b 80) t 0 (omega arith) in
    rw x

-- four bytes as a number
pub be-4 : (s : List ℕ) (at : ℕ) → at + 4 ≤ length s
    → get_or s at 0 * 16777216 + get_or s (at + 1) 0 * 65536 + get_or s (at + 2) 0 * 256 + get_or s (at + 3) 0
    ≡ be (part s at 4)
unfolding le
be-4 s at h =
    let e0 = drop-cons s at 0 (omega arith) in
    let e1 = drop-cons s (suc at) 0 (omega arith) in
    let e2 = drop-cons s (suc (suc at)) 0 (omega arith) in
    let e3 = drop-cons s (suc (suc (suc at))) 0 (omega arith) in
    let p1 : suc at ≡ at + 1 = omega arith in
    let p2 : suc (suc at) ≡ at + 2 = omega arith in
    let p3 : suc (suc (suc at)) ≡ at + 3 = omega arith in
    rw (e0, e1, e2, e3, p3, p2, p1) (omega arith)
