-- The meaning of a result's body and of an old error's (document 01: "Result: number, at most one reqResultHeader ..,
-- then the rest or an error"). Assumes nothing.
use Rattle.std.specs.Prelude.{ℕ, ◌+◌, ◌-◌, List, [], ◌∷◌, not, length, ltb, eqb, ℤ, Result, Ok, Err}
use Rattle.std.specs.Int.{w32, w64}
use Rattle.std.proofs.Common.{to_z}
use Rattle.wire.specs.Bytes.{le, part}
use Rattle.wire.specs.Choice.{pick, first}
use Rattle.header.specs.Headers.{kind_of}
use Rattle.header.specs.declared.Side.TheVariants.{Client}
use Rattle.header.specs.declared.Kind as K
use Rattle.text.specs.TextForm.{read_text}
use Rattle.text.specs.declared.Text.{Text}
use Rattle.result.specs.declared.Answer.TheVariants.{Payload, Error}
use Rattle.result.specs.declared.Reply.{Reply}
use Rattle.refusal.specs.declared.Refusal.{Refusal}
use Rattle.refusal.specs.declared.Refusal.TheVariants.{MessageCut, NumberZero, HeaderRepeated, HeaderNotCarried, BodySize}

-- ---- a payload or an error

-- the rest: all bytes from `at` on
unfoldable pub payload_from : List ℕ → ℤ → ℕ → Result Reply Refusal
payload_from s n at = Ok (record { number = n; answer = Payload at (length s - at) })

-- an error whose text was read: "bytes after an error" are 17, and come last
abbrev pub error_of : List ℕ → ℤ → ℤ → Result Text Refusal → Result Reply Refusal
error_of s n code (Ok t) =
    pick (eqb t.next (length s)) (Ok (record { number = n; answer = Error code t.at t.len })) (Err BodySize)
error_of s n code (Err k) = Err k

-- code (signed 32) and text, from `at` to the end
unfoldable pub read_error : List ℕ → ℤ → ℕ → Result Reply Refusal
read_error s n at =
    pick (ltb (length s - at) 4) (Err MessageCut)
    (error_of s n (to_z w32 (le (part s at 4))) (read_text s (at + 4)))

-- by the value at `at`: a second reqResultHeader is 13; reqError and wrapped have code and text; 0x7ae432f5 has a query
-- number before them, which is ignored; anything else is a payload
abbrev pub by_kind : List ℕ → ℤ → ℕ → K.Kind → Result Reply Refusal
by_kind s n at K.TheVariants.ResultHeader = Err HeaderRepeated
by_kind s n at K.TheVariants.Error = read_error s n (at + 4)
by_kind s n at K.TheVariants.NumberedError = pick (ltb (length s - at) 12) (Err MessageCut) (read_error s n (at + 12))
by_kind s n at K.TheVariants.Flags = payload_from s n at
by_kind s n at K.TheVariants.Actor = payload_from s n at
by_kind s n at K.TheVariants.ActorFlags = payload_from s n at
by_kind s n at K.TheVariants.Diagonal = payload_from s n at
by_kind s n at K.TheVariants.Marker = payload_from s n at
by_kind s n at K.TheVariants.Other = payload_from s n at

-- "a page or an error", from `at` to the end
unfoldable pub read_answer : List ℕ → ℤ → ℕ → Result Reply Refusal
read_answer s n at = pick (ltb (length s - at) 4) (payload_from s n at) (by_kind s n at (kind_of Client (le (part s at 4))))

-- ---- the header

-- reqResultHeader: "mask, must be 0, else 14"
unfoldable pub after_mask : List ℕ → Result ℕ Refusal
after_mask s =
    first (
    (ltb (length s) 16, Err MessageCut) ∷
    (not (eqb (le (part s 12 4)) 0), Err HeaderNotCarried) ∷
    []
    ) (Ok 16)

-- by the value at byte 8: behind a header, or there
abbrev pub begin_by : List ℕ → K.Kind → Result ℕ Refusal
begin_by s K.TheVariants.ResultHeader = after_mask s
begin_by s K.TheVariants.Error = Ok 8
begin_by s K.TheVariants.NumberedError = Ok 8
begin_by s K.TheVariants.Flags = Ok 8
begin_by s K.TheVariants.Actor = Ok 8
begin_by s K.TheVariants.ActorFlags = Ok 8
begin_by s K.TheVariants.Diagonal = Ok 8
begin_by s K.TheVariants.Marker = Ok 8
begin_by s K.TheVariants.Other = Ok 8

-- where the answer begins: "at most one reqResultHeader" behind the query number
unfoldable pub after_header : List ℕ → Result ℕ Refusal
after_header s = pick (ltb (length s) 12) (Ok 8) (begin_by s (kind_of Client (le (part s 8 4))))

-- the answer from where it begins, or the header's refusal
abbrev pub answer_from : List ℕ → ℤ → Result ℕ Refusal → Result Reply Refusal
answer_from s n (Ok at) = read_answer s n at
answer_from s n (Err k) = Err k

-- ---- the whole body

-- a query number, "never 0"
unfoldable pub read_number : List ℕ → Result ℤ Refusal
read_number s =
    first (
    (ltb (length s) 8, Err MessageCut) ∷
    (eqb (le (part s 0 8)) 0, Err NumberZero) ∷
    []
    ) (Ok (to_z w64 (le (part s 0 8))))

-- what follows a number that was read, or the number's refusal
abbrev pub numbered : Result ℤ Refusal → (ℤ → Result Reply Refusal) → Result Reply Refusal
numbered (Ok n) f = f n
numbered (Err k) f = Err k

-- a result
unfoldable pub read_result : List ℕ → Result Reply Refusal
read_result s = numbered (read_number s) (λ n. answer_from s n (after_header s))

-- "an old error message is number, code, text"
unfoldable pub read_old_error : List ℕ → Result Reply Refusal
read_old_error s = numbered (read_number s) (λ n. read_error s n 8)
