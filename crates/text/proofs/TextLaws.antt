-- Laws of the bytes of a text: its head, and how long it is. Assumes nothing.
use mathlib.Core.Path.{◌≡◌, refl}
use Prim.Native.Nat.{ℕ, ◌+◌, ◌-◌, ◌*◌, ◌/◌, ◌%◌, ◌≤◌, ◌<◌}
use native.Mathlib.Omega.{arith}
use mathlib.Core.List.{List, [], ◌∷◌}
use mathlib.Core.Bool.{Bool, true, false}
use lib.ListN.{length, length-append, length-replicate}
use lib.Dec.{ltb}
use lib.Seq.{sets}
use borrow.Author.Tests.{le-ltb, lt-ltb}
use Rattle.wire.specs.Bytes.{bytes}
use Rattle.wire.specs.Choice.{pick}
use Rattle.text.specs.TextForm.{text_head, head_size, text_size, text_bytes, pad_of, put_text}

-- the first byte, or 254 and the length, as one number
pub head-short : (n : ℕ) → n < 254 → bytes 1 n ≡ text_head n
unfolding bytes text_head
head-short n h =
    let e : n % 256 ≡ n = omega arith in
    rw (e, lt-ltb n 254 h)

pub head-long : (n : ℕ) → 254 ≤ n → bytes 4 (254 + 256 * n) ≡ text_head n
unfolding bytes text_head
head-long n h =
    let e : (254 + 256 * n) % 256 ≡ 254 = omega arith in
    let q : (254 + 256 * n) / 256 ≡ n = omega arith in
    rw (e, q, le-ltb n 254 h)

head-by : (b : Bool) (n : ℕ) → length (pick b (n ∷ []) (254 ∷ bytes 3 n)) ≡ pick b 1 4
unfolding bytes
head-by true n = refl
head-by false n = refl

pub head-length : (n : ℕ) → length (text_head n) ≡ head_size n
unfolding text_head
head-length n = head-by (ltb n 254) n

-- the whole text
pub text-length : (t : List ℕ) → length (text_bytes t) ≡ text_size (length t)
unfolding text_bytes
text-length t = simp (length-append, head-length, length-replicate) (omega arith)

-- it is longer than its bytes
size-by : (b : Bool) (n : ℕ) → n < pick b 1 4 + n + pad_of (pick b 1 4 + n)
size-by true n = omega arith
size-by false n = omega arith

pub size-over : (n : ℕ) → n < text_size n
size-over n = size-by (ltb n 254) n

-- a text that fits is stored
pub put-fits : (d : List ℕ) (at : ℕ) (t : List ℕ) → length t ≤ 16777215 → at + text_size (length t) ≤ length d → put_text d at t ≡ sets d at (text_bytes t)
unfolding put_text
put-fits d at t l h = simp (le-ltb 16777215 (length t) l, le-ltb (length d - at) (text_size (length t)) (omega arith))
