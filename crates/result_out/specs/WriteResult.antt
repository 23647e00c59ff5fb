-- The bytes of a result's body, and the writers' answers (document 01: "We write reqError and no reqResultHeader").
-- Assumes nothing.
use Rattle.std.specs.Prelude.{ℕ, ◌+◌, List, ◌++◌, false, length, ℤ, Result}
use Rattle.std.specs.Int.{w32, w64}
use Rattle.std.proofs.Common.{of_z}
use Rattle.wire.specs.Bytes.{bytes}
use Rattle.header.specs.Headers.{reads_as_header}
use Rattle.header.specs.declared.Side.TheVariants.{Client}
use Rattle.text.specs.TextForm.{text_bytes, text_size}
use Rattle.body.specs.Written.{size_or_refusal}
use Rattle.refusal.specs.declared.Refusal.{Refusal}

-- ---- a payload

-- number, payload
unfoldable pub payload_bytes : ℤ → List ℕ → List ℕ
payload_bytes n p = bytes 8 (of_z w64 n) ++ p

-- how many they are
unfoldable pub payload_size : List ℕ → ℕ
payload_size p = 8 + length p

-- the answer, in the order 12, 15, 2, 16: "a page that begins with any of the four values is 15"
unfoldable pub payload_answer : ℤ → List ℕ → ℕ → Result ℕ Refusal
payload_answer n p room = size_or_refusal n (reads_as_header Client p) (length (payload_bytes n p)) room

-- ---- an error

-- number, reqError, code, text
unfoldable pub error_bytes : ℤ → ℤ → List ℕ → List ℕ
error_bytes n code t = bytes 8 (of_z w64 n) ++ (bytes 4 0xb527877d ++ (bytes 4 (of_z w32 code) ++ text_bytes t))

-- how many they are
unfoldable pub error_size : List ℕ → ℕ
error_size t = 16 + text_size (length t)

-- the answer, in the order 12, 2, 16
unfoldable pub error_answer : ℤ → ℤ → List ℕ → ℕ → Result ℕ Refusal
error_answer n code t room = size_or_refusal n false (length (error_bytes n code t)) room
