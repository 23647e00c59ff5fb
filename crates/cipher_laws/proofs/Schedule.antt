-- The round keys are 240 bytes. Assumes nothing.
use mathlib.Core.Path.{◌≡◌, refl, ◌∙◌}
use mathlib.Core.Bool.{Bool, true, false}
use mathlib.Core.List.{List, [], ◌∷◌, ◌++◌}
use Prim.Native.Nat.{ℕ, zero, suc, ◌+◌, ◌*◌, ◌-◌, ◌/◌, ◌%◌, ◌≤◌, ◌<◌}
use native.Mathlib.Omega.{arith}
use lib.Dec.{eqb, lit<}
use lib.ListN.{length, take, drop, length-append, length-take, length-drop}
use Rattle.wire.specs.Choice.{pick}
use Rattle.aes.specs.Aes.{add, sub_bytes, rcon, temp, next, grown, schedule, keys}
use Rattle.cipher_laws.specs.Sizes.{Bytes, Sized}
use Rattle.cipher_laws.proofs.Blocks.{bytes_take, bytes_drop, bytes-add}
use Rattle.cipher_laws.proofs.Blocks.{bytes-append, sbox-low, xtime-low}

-- a word of four bytes
pub data Word : List ℕ → Type 0 where
  word : {a b c d : ℕ} → Bytes (a ∷ b ∷ c ∷ d ∷ []) → Word (a ∷ b ∷ c ∷ d ∷ [])

word_of : (s : List ℕ) → length s ≡ 4 → Bytes s → Word s
word_of [] q u = absurd (omega arith)
word_of (a ∷ []) q u = absurd (omega arith)
word_of (a ∷ b ∷ []) q u = absurd (omega arith)
word_of (a ∷ b ∷ c ∷ []) q u = absurd (omega arith)
word_of (a ∷ b ∷ c ∷ d ∷ []) q u = word u
word_of (a ∷ b ∷ c ∷ d ∷ e ∷ s) q u = absurd (omega arith)

word-add : {s t : List ℕ} → Word s → Word t → Word (add s t)
unfolding add
word-add {s} {t} (word u) (word v) = word (bytes-add s t u v)

word-sub : {s : List ℕ} → Word s → Word (sub_bytes s)
unfolding sub_bytes
word-sub (word (a, (b, (c, (d, z))))) = word (sbox-low a, (sbox-low b, (sbox-low c, (sbox-low d, tt))))

word-turn : {s : List ℕ} → Word s → Word (drop 1 s ++ take 1 s)
word-turn (word (a, (b, (c, (d, z))))) = word (b, (c, (d, (a, tt))))

rcon-low : (i : ℕ) → rcon i < 256
unfolding rcon
rcon-low zero = lit< tt
rcon-low (suc i) = xtime-low (rcon i)

either : (b : Bool) {s t : List ℕ} → Word s → Word t → Word (pick b s t)
either true p q = p
either false p q = q

word-temp : (i : ℕ) {t : List ℕ} → Word t → Word (temp i t)
unfolding temp
word-temp i w =
    either (eqb (i % 8) 0) (word-add (word-sub (word-turn w))
    (word (rcon-low (i / 8), (lit< tt, (lit< tt, (lit< tt, tt)))))) (either (eqb (i % 8) 4) (word-sub w) w)

word_at : (k : ℕ) (w : List ℕ) → k + 4 ≤ length w → Bytes w → Word (take 4 (drop k w))
word_at k w h u =
    let e : length (take 4 (drop k w)) ≡ 4 = simp (length-take, length-drop) (omega arith) in
    word_of (take 4 (drop k w)) e (bytes_take 4 (drop k w) (bytes_drop k w u))

in-word : {s : List ℕ} → Word s → Bytes s
in-word (word u) = u

long-word : {s : List ℕ} → Word s → length s ≡ 4
long-word (word u) = refl

schedule-long : (n : ℕ) {k : List ℕ} → Sized 32 k → (length (schedule n k) ≡ 32 + n * 4) × Bytes (schedule n k)
unfolding schedule grown next
schedule-long zero h = (h.long, h.low)
schedule-long (suc n) {k} h =
    let p = schedule-long n h in
    let l : length (schedule n k) ≡ 32 + n * 4 = p.0 in
    let w = schedule n k in
    let x = word-add (word_at (4 * (8 + n - 8)) w (omega arith) p.1)
    (word-temp (8 + n) (word_at (4 * (8 + n - 1)) w (omega arith) p.1)) in
    let z = long-word x in
    (length-append w _ ∙ omega arith, bytes-append w _ p.1 (in-word x))

pub keys_of : {k : List ℕ} → Sized 32 k → Sized 240 (keys k)
unfolding keys
keys_of h = let p = schedule-long 52 h in record { long = p.0; low = p.1 }
