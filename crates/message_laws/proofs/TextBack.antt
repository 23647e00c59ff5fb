-- A text that was written reads back, whatever stands before and behind it. Assumes nothing.
use mathlib.Core.Path.{◌≡◌, refl, ap, ◌∙◌}
use Prim.Native.Nat.{ℕ, ◌+◌, ◌-◌, ◌≤◌, ◌<◌}
use native.Mathlib.Omega.{arith}
use mathlib.Core.List.{List, [], ◌∷◌, ◌++◌, append_assoc}
use mathlib.Core.Bool.{Bool, true, false}
use lib.ListN.{length, replicate, length-append, length-replicate}
use lib.Dec.{ltb}
use borrow.Author.Tests.{le-ltb, lt-leb, ne_eqb, ltb-true, ltb-false}
use Rattle.wire.specs.Bytes.{le, part, bytes}
use Rattle.wire.proofs.ByteLaws.{le_bytes, le-zeros, part-mid}
use Rattle.text.specs.TextForm.{text_head, head_size, text_bytes, pad_of, text_after, long_text, read_text}
use Rattle.std.specs.Prelude.{Ok}

-- the rules of the reader, one for each way to a text
after_is : (s : List ℕ) (at head len : ℕ) → at + (head + len + pad_of (head + len)) ≤ length s
    → part s (at + (head + len)) (pad_of (head + len)) ≡ replicate (pad_of (head + len)) 0
    → text_after s at head len ≡ Ok (record { at = at + head; len = len; next = at + (head + len) + pad_of (head + len) })
unfolding text_after
after_is s at head len h e = simp (le-ltb (length s - at) (head + len + pad_of (head + len)) (omega arith), e, le-zeros)

short-is : (s : List ℕ) (at n : ℕ) → at < length s → le (part s at 1) ≡ n → n < 254 → read_text s at ≡ text_after s at 1 n
unfolding read_text
short-is s at n h e l = simp (lt-leb (length s) at h, e, ne_eqb n 255 (λ x. omega arith), ne_eqb n 254 (λ x. omega arith))

long-is : (s : List ℕ) (at n : ℕ) → at + 4 ≤ length s → le (part s at 1) ≡ 254 → le (part s (at + 1) 3) ≡ n → 254 ≤ n → read_text s at ≡ text_after s at 4 n
unfolding read_text long_text
long-is s at n h e b l = simp (lt-leb (length s) at (omega arith), e, b, le-ltb (length s - at) 4 (omega arith), le-ltb n 254 l)

-- the byte behind p
byte_at : (p q : List ℕ) (b : ℕ) → le (part (p ++ (b ∷ q)) (length p) 1) ≡ b
unfolding le
byte_at p q b = ap le (part-mid p (b ∷ []) q (length p) 1 refl refl) ∙ omega arith

module _ (p t q : List ℕ) where
  -- a text after a head h, with its zeros
  after-head : (h : List ℕ) (s : List ℕ) → s ≡ p ++ (h ++ (t ++ (replicate (pad_of (length h + length t)) 0 ++ q)))
      → text_after s (length p) (length h) (length t) ≡ Ok (record {
        at = length p + length h;
        len = length t;
        next = length p + (length h + length t) + pad_of (length h + length t);
      })
  after-head h s e =
      let z : List ℕ = replicate (pad_of (length h + length t)) 0 in
      let l : length s ≡ length p + (length h + (length t + (pad_of (length h + length t) + length q))) =
      rw e (simp (length-append, length-replicate)) in
      after_is s (length p) (length h) (length t) (omega arith)
      (rw e (simp append_assoc at
      (part-mid (p ++ (h ++ t)) z q (length p + (length h + length t)) (pad_of (length h + length t)) (simp length-append) (simp length-replicate))))

  abbrev pub Back : Type 0
  Back = read_text (p ++ (text_bytes t ++ q)) (length p)
      ≡ Ok (record {
        at = length p + head_size (length t);
        len = length t;
        next = length p + (head_size (length t) + length t) + pad_of (head_size (length t) + length t);
      })

  back_by : length t < 16777216 → (b : Bool) → ltb (length t) 254 ≡ b → Back
  unfolding text_bytes text_head bytes
  back_by h true e =
      let z : List ℕ = replicate (pad_of (1 + length t)) 0 in
      let s : List ℕ = p ++ (length t ∷ (t ++ z ++ q)) in
      rw e
      (short-is s (length p) (length t) (simp length-append (omega arith)) (byte_at p (t ++ z ++ q) (length t)) (ltb-true (length t) 254 e)
      ∙ after-head (length t ∷ []) s (simp append_assoc))
  back_by h false e =
      let z : List ℕ = replicate (pad_of (4 + length t)) 0 in
      let s : List ℕ = p ++ (254 ∷ (bytes 3 (length t) ++ (t ++ z) ++ q)) in
      let l : length p + 4 ≤ length s = simp (length-append, length-replicate) (omega arith) in
      let m : part s (length p + 1) 3 ≡ bytes 3 (length t) =
      rw (append_assoc p (254 ∷ []) (bytes 3 (length t) ++ ((t ++ z) ++ q))) at
      (part-mid (p ++ (254 ∷ [])) (bytes 3 (length t)) ((t ++ z) ++ q) (length p + 1) 3 (simp length-append) refl) in
      rw e
      (long-is s (length p) (length t) l (byte_at p (bytes 3 (length t) ++ (t ++ z) ++ q) 254)
      (ap le m ∙ le_bytes 3 (length t) h)
      (ltb-false (length t) 254 e)
      ∙ after-head (254 ∷ bytes 3 (length t)) s (simp append_assoc))

  pub text-back : length t < 16777216 → Back
  text-back h = back_by h (ltb (length t) 254) refl
