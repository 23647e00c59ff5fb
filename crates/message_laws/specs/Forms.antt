-- The four forms of an error (document 01: "Error values .. All four give one meaning: number, code, text"), what may
-- stand in front of an answer inside a result, and what a message says of an error. Assumes nothing.
use Rattle.std.specs.Prelude.{ℕ, List, [], ◌++◌, ℤ, Err, Result, Ok}
use Rattle.std.specs.Int.{w32, w64}
use Rattle.std.proofs.Common.{of_z}
use Rattle.wire.specs.Bytes.{bytes}
use Rattle.text.specs.TextForm.{text_bytes}
use Rattle.message.specs.PartOf.{part_of}
use Rattle.message.specs.declared.Message.{Message}
use Rattle.message.specs.declared.Message.TheVariants as M
use Rattle.result.specs.declared.Answer as A
use Rattle.refusal.specs.declared.Refusal.{Refusal}

-- reqError and wrapped inside a result, 0x7ae432f5 with any number inside a result, and the old error message
pub data Form : Type 0 where
  ReqError : Form
  Wrapped : Form
  Numbered : ℕ → Form
  Old : Form

-- the type of the packet
abbrev pub form_type : Form → ℕ
form_type ReqError = 0x63aeda4e
form_type Wrapped = 0x63aeda4e
form_type (Numbered ignored) = 0x63aeda4e
form_type Old = 0x7ae432f5

-- what stands between the query number and the code
unfoldable pub form_mark : Form → List ℕ
form_mark ReqError = bytes 4 0xb527877d
form_mark Wrapped = bytes 4 0x7ae432f6
form_mark (Numbered ignored) = bytes 4 0x7ae432f5 ++ bytes 8 ignored
form_mark Old = bytes 0 0

-- the body: number, mark, code, text
unfoldable pub form_bytes : Form → ℤ → ℤ → List ℕ → List ℕ
form_bytes f n code t = bytes 8 (of_z w64 n) ++ (form_mark f ++ (bytes 4 (of_z w32 code) ++ text_bytes t))

-- ---- behind a header

-- "number, at most one reqResultHeader 0x8cc84ce1 (mask, must be 0 ..), then the rest or an error"
pub data Front : Type 0 where
  Plain : Front
  Headed : Front

-- none, or the header and its mask
unfoldable pub front_bytes : Front → List ℕ
front_bytes Plain = []
front_bytes Headed = bytes 4 0x8cc84ce1 ++ bytes 4 0

-- inside a result; the old error message has no header
abbrev pub form_front : Front → Form → List ℕ
form_front h ReqError = front_bytes h
form_front h Wrapped = front_bytes h
form_front h (Numbered ignored) = front_bytes h
form_front h Old = []

-- the body: number, front, mark, code, text
unfoldable pub fronted_bytes : Front → Form → ℤ → ℤ → List ℕ → List ℕ
fronted_bytes h f n code t =
    bytes 8 (of_z w64 n) ++ (form_front h f ++ (form_mark f ++ (bytes 4 (of_z w32 code) ++ text_bytes t)))

-- the body of a result with a payload (document 01: a page): number, front, payload
unfoldable pub fronted_payload : Front → ℤ → List ℕ → List ℕ
fronted_payload h n p = bytes 8 (of_z w64 n) ++ (front_bytes h ++ p)

-- ---- the meaning

-- number, code, text; or that a message is no error
pub data Meaning : Type 0 where
  Error : ℤ → ℤ → List ℕ → Meaning
  NoError : Meaning

abbrev pub answer_meaning : ℤ → List ℕ → A.Answer → Meaning
answer_meaning n part (A.TheVariants.Payload at len) = NoError
answer_meaning n part (A.TheVariants.Error code at len) = Error n code part

-- what a message says of an error, with its text as the part of the body s that it names
abbrev pub error_meaning : List ℕ → Result Message Refusal → Meaning
error_meaning s (Ok (M.Result r)) = answer_meaning r.number (part_of s (Ok (M.Result r))) r.answer
error_meaning s (Ok (M.Invoke i)) = NoError
error_meaning s (Ok (M.Cancel n)) = NoError
error_meaning s (Ok M.ClientFin) = NoError
error_meaning s (Ok M.ServerFin) = NoError
error_meaning s (Err k) = NoError
