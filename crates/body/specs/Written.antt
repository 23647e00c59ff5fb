-- What a writer of a body answers, and what it leaves in the lent bytes (document 01, "Messages" and the send order).
-- Assumes nothing.
use Rattle.std.specs.Prelude.{ℕ, ◌+◌, List, [], ◌∷◌, Bool, ltb, eqb, ℤ, Result, Ok, Err}
use Rattle.std.specs.Int.{w64}
use Rattle.std.proofs.Common.{of_z}
use Rattle.std.proofs.lemmas.List.Edits.{sets}
use Rattle.wire.specs.Choice.{first}
use Rattle.refusal.specs.declared.Refusal.{Refusal}
use Rattle.refusal.specs.declared.Refusal.TheVariants.{LengthOverLimit, NumberZero, PayloadReadsAsHeader, BufferTooSmall}

-- "12, 15, 2, 16": the query number is 0, the payload begins with a header's value, the packet would be over
-- 16,777,215 bytes, the lent bytes are too few
unfoldable pub size_or_refusal : ℤ → Bool → ℕ → ℕ → Result ℕ Refusal
size_or_refusal number header size room =
    first (
    (eqb (of_z w64 number) 0, Err NumberZero) ∷
    (header, Err PayloadReadsAsHeader) ∷
    (ltb 16777215 (size + 16), Err LengthOverLimit) ∷
    (ltb room size, Err BufferTooSmall) ∷
    []
    ) (Ok size)

-- the lent bytes d after the call: the body x stored at their front ("bytes past the packet stay"), or all as they were
abbrev pub bytes_after : Result ℕ Refusal → List ℕ → List ℕ → List ℕ
bytes_after (Ok k) d x = sets d 0 x
bytes_after (Err k) d x = d
