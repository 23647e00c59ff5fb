-- The text form (document 01, "Text"): "a byte 0 to 253 and so many bytes, or 254, a 3-byte length above 253 and the
-- bytes; then zeros until the whole is a multiple of 4". Assumes nothing.
use Rattle.std.specs.Prelude.{ℕ, ◌+◌, ◌-◌, ◌%◌, List, [], ◌∷◌, ◌++◌, not, length, replicate, ltb, leb, eqb, Result, Ok, Err}
use Rattle.std.proofs.lemmas.List.Edits.{sets}
use Rattle.wire.specs.Bytes.{le, part, bytes}
use Rattle.wire.specs.Choice.{pick, first}
use Rattle.text.specs.declared.Text.{Text}
use Rattle.refusal.specs.declared.Refusal.{Refusal}
use Rattle.refusal.specs.declared.Refusal.TheVariants.{MessageCut, TextForm}

-- how many zeros follow n bytes: "until the whole is a multiple of 4"
abbrev pub pad_of : ℕ → ℕ
pad_of n = (4 - n % 4) % 4

-- ---- reading

-- the text at `at` whose first byte and length take `head` bytes, and whose bytes are `len`: "a cut before bad zeros"
unfoldable pub text_after : List ℕ → ℕ → ℕ → ℕ → Result Text Refusal
text_after s at head len =
    first (
    (ltb (length s - at) (head + len + pad_of (head + len)), Err MessageCut) ∷
    (not (eqb (le (part s (at + (head + len)) (pad_of (head + len)))) 0), Err TextForm) ∷
    []
    ) (Ok (record { at = at + head; len = len; next = at + (head + len) + pad_of (head + len) }))

-- 254 was read: a 3-byte length, which must be above 253
unfoldable pub long_text : List ℕ → ℕ → Result Text Refusal
long_text s at =
    first (
    (ltb (length s - at) 4, Err MessageCut) ∷
    (ltb (le (part s (at + 1) 3)) 254, Err TextForm) ∷
    []
    ) (text_after s at 4 (le (part s (at + 1) 3)))

-- the text at `at`: "a bad first byte or length is seen before a cut"
unfoldable pub read_text : List ℕ → ℕ → Result Text Refusal
read_text s at =
    first (
    (leb (length s) at, Err MessageCut) ∷
    (eqb (le (part s at 1)) 255, Err TextForm) ∷
    (eqb (le (part s at 1)) 254, long_text s at) ∷
    []
    ) (text_after s at 1 (le (part s at 1)))

-- ---- writing

-- the first bytes of a text of n bytes
unfoldable pub text_head : ℕ → List ℕ
text_head n = pick (ltb n 254) (n ∷ []) (254 ∷ bytes 3 n)

-- how many they are
abbrev pub head_size : ℕ → ℕ
head_size n = pick (ltb n 254) 1 4

-- how many bytes the whole text takes
abbrev pub text_size : ℕ → ℕ
text_size n = head_size n + n + pad_of (head_size n + n)

-- the bytes of a text
unfoldable pub text_bytes : List ℕ → List ℕ
text_bytes t = text_head (length t) ++ (t ++ replicate (pad_of (head_size (length t) + length t)) 0)

-- d with the text stored from `at` on; left alone where three bytes cannot tell the length or the text does not fit
unfoldable pub put_text : List ℕ → ℕ → List ℕ → List ℕ
put_text d at t =
    first (
    (ltb 16777215 (length t), d) ∷
    (ltb (length d - at) (text_size (length t)), d) ∷
    []
    ) (sets d at (text_bytes t))
