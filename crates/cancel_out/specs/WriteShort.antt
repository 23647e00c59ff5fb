-- The bytes of a cancel and of a fin, and the writers' answers (document 01: "A fin has an empty body, a cancel only a
-- query number"). Assumes nothing.
use Rattle.std.specs.Prelude.{ℕ, List, [], false, length, ℤ, Result, Ok}
use Rattle.std.specs.Int.{w64}
use Rattle.std.proofs.Common.{of_z}
use Rattle.wire.specs.Bytes.{bytes}
use Rattle.body.specs.Written.{size_or_refusal}
use Rattle.refusal.specs.declared.Refusal.{Refusal}

-- a query number
unfoldable pub cancel_bytes : ℤ → List ℕ
cancel_bytes n = bytes 8 (of_z w64 n)

-- the answer, in the order 12, 2, 16
unfoldable pub cancel_answer : ℤ → ℕ → Result ℕ Refusal
cancel_answer n room = size_or_refusal n false (length (cancel_bytes n)) room

-- either fin: nothing, which always fits
abbrev pub fin_bytes : List ℕ
fin_bytes = []

-- the answer: no refusal applies to a fin's body
abbrev pub fin_answer : Result ℕ Refusal
fin_answer = Ok 0
