-- A result that was written reads back, and each form of an error reads to one meaning; both also behind a
-- reqResultHeader of mask 0. Assumes nothing.
use mathlib.Core.Path.{◌≡◌, refl, ap, ◌∙◌}
use Prim.Native.Nat.{ℕ, ◌+◌, ◌-◌, ◌≤◌, ◌<◌}
use native.Mathlib.Omega.{arith}
use mathlib.Core.List.{List, [], ◌++◌, append_assoc, append-nil}
use mathlib.Core.Bool.{Bool, true, false}
use lib.ListN.{length, replicate, length-append}
use lib.Seq.{take_all}
use lib.IntN.{ℤ}
use lib.Dec.{ltb}
use mir.Syntax.{w32, w64}
use mir.Val.{to_z, of_z, SFits}
use mir.Facts.{to_z-of_z, Fits-of_z}
use borrow.Author.Tests.{le-ltb, lt-ltb, ltb-true, ltb-false, eq-eqb, ne_eqb}
use Rattle.wire.specs.Bytes.{le, part, bytes, within}
use Rattle.wire.specs.Choice.{pick}
use Rattle.wire.proofs.ByteLaws.{le_bytes, length-bytes, part-mid}
use Rattle.header.specs.Headers.{answer_kind, kind_of, is_header, reads_as_header}
use Rattle.header.specs.declared.Side.TheVariants.{Client}
use Rattle.header.specs.declared.Kind as K
use Rattle.text.specs.TextForm.{read_text, text_bytes, text_head, text_size, head_size, pad_of}
use Rattle.text.proofs.TextLaws.{text-length, head-length}
use Rattle.result.specs.ReadResult.{payload_from, read_error, read_answer, after_mask, after_header, answer_from, read_number, numbered, read_result, read_old_error}
use Rattle.result.specs.declared.Answer.TheVariants.{Payload, Error}
use Rattle.result_out.specs.WriteResult.{payload_bytes}
use Rattle.message.specs.ReadMessage.{of_reply, to_client, read_message}
use Rattle.message.specs.PartOf.{answer_part, part_of}
use Rattle.message.specs.declared.Message.TheVariants as M
use Rattle.message_laws.specs.Forms.{Form, ReqError, Wrapped, Numbered, Old, form_type, form_mark, form_bytes, error_meaning}
use Rattle.message_laws.specs.Forms.{Front, Plain, Headed, front_bytes, form_front, fronted_bytes, fronted_payload}
use Rattle.message_laws.specs.Forms as S
use Rattle.message_laws.proofs.InvokeForms.{other}
use Rattle.message_laws.proofs.TextBack.{text-back}
use Rattle.message_laws.proofs.Within.{within-is}
use Rattle.std.specs.Prelude.{Result, Ok}
use Rattle.refusal.specs.declared.Refusal.{Refusal}
use Rattle.result.specs.declared.Reply.{Reply}

-- a query number in front of x
pub numbered-back : (n : ℤ) (x : List ℕ) (f : ℤ → Result Reply Refusal) → SFits w64 n → (of_z w64 n ≡ 0 → ⊥) → numbered (read_number (bytes 8 (of_z w64 n) ++ x)) f ≡ f n
unfolding bytes read_number
numbered-back n x f fits some =
    let s : List ℕ = bytes 8 (of_z w64 n) ++ x in
    let e : le (part s 0 8) ≡ of_z w64 n = le_bytes 8 (of_z w64 n) (Fits-of_z fits).fits in
    rw (le-ltb (length s) 8 (omega arith), e, ne_eqb (of_z w64 n) 0 some, to_z-of_z fits)

-- ---- the header

header-kind : kind_of Client 0x8cc84ce1 ≡ K.TheVariants.ResultHeader
unfolding kind_of answer_kind
header-kind = refl

-- behind a header of mask 0 the answer begins at byte 16
pub header-passed : (n : ℤ) (x : List ℕ)
    → after_header (bytes 8 (of_z w64 n) ++ (front_bytes Headed ++ x)) ≡ Ok 16
unfolding bytes front_bytes after_header after_mask
header-passed n x =
    let s : List ℕ = bytes 8 (of_z w64 n) ++ (front_bytes Headed ++ x) in
    let value : le (part s 8 4) ≡ 0x8cc84ce1 = le_bytes 4 0x8cc84ce1 (omega arith) in
    let mask : le (part s 12 4) ≡ 0 = le_bytes 4 0 (omega arith) in
    rw (le-ltb (length s) 12 (omega arith), value, header-kind, le-ltb (length s) 16 (omega arith), mask)

-- ---- a payload

abbrev pub payload_read : ℤ → List ℕ → Result Reply Refusal
payload_read n p = Ok (record { number = n; answer = Payload 8 (length p) })

module _ (n : ℤ) (p : List ℕ) where
  payload-by : (b : Bool) → ltb (length p) 4 ≡ b → pick b false (is_header (kind_of Client (le (part p 0 4)))) ≡ false
      → answer_from (bytes 8 (of_z w64 n) ++ p) n (after_header (bytes 8 (of_z w64 n) ++ p)) ≡ payload_read n p
  unfolding bytes after_header read_answer payload_from
  payload-by true e c =
      let s : List ℕ = bytes 8 (of_z w64 n) ++ p in
      let l : length s - 8 ≡ length p = omega arith in
      rw (lt-ltb (length s) 12 (omega (arith, ltb-true (length p) 4 e)), l, e)
  payload-by false e c =
      let s : List ℕ = bytes 8 (of_z w64 n) ++ p in
      let l : length s - 8 ≡ length p = omega arith in
      let o = other (kind_of Client (le (part p 0 4))) c in
      rw (le-ltb (length s) 12 (omega (arith, ltb-false (length p) 4 e)), o, l, e, o) (rw l)

  pub payload-read : SFits w64 n → (of_z w64 n ≡ 0 → ⊥) → reads_as_header Client p ≡ false → read_result (payload_bytes n p) ≡ payload_read n p
  unfolding read_result payload_bytes reads_as_header
  payload-read fits some c =
      let s : List ℕ = bytes 8 (of_z w64 n) ++ p in
      numbered-back n p (λ z. answer_from s z (after_header s)) fits some ∙ payload-by (ltb (length p) 4) refl c

  pub payload-part : within (payload_bytes n p) 8 (length p) ≡ p
  unfolding payload_bytes bytes
  payload-part = within-is (bytes 8 (of_z w64 n) ++ p) 8 (length p) p (omega arith) (take_all (length p) p (omega arith))

-- the same behind a front
abbrev pub fronted_read : Front → ℤ → List ℕ → Result Reply Refusal
fronted_read h n p = Ok (record { number = n; answer = Payload (8 + length (front_bytes h)) (length p) })

pub fronted-payload-part : (h : Front) (n : ℤ) (p : List ℕ)
    → within (fronted_payload h n p) (8 + length (front_bytes h)) (length p) ≡ p
unfolding payload_bytes fronted_payload front_bytes bytes
fronted-payload-part Plain n p = payload-part n p
fronted-payload-part Headed n p =
    let s : List ℕ = bytes 8 (of_z w64 n) ++ (front_bytes Headed ++ p) in
    within-is s 16 (length p) p (omega arith) (take_all (length p) p (omega arith))

-- ---- an error, in each of its forms

abbrev pub error_read : ℤ → ℤ → ℕ → List ℕ → Result Reply Refusal
error_read n code at t = Ok (record { number = n; answer = Error code at (length t) })

-- a code and a text behind p, up to the end
module _ (p : List ℕ) (n code : ℤ) (t : List ℕ) (l : length t < 16777216) where
  abbrev coded : List ℕ
  coded = p ++ (bytes 4 (of_z w32 code) ++ text_bytes t)

  text_at : read_text coded (length p + 4)
      ≡ Ok (record {
        at = length p + 4 + head_size (length t);
        len = length t;
        next = length p + 4 + (head_size (length t) + length t) + pad_of (head_size (length t) + length t);
      })
  text_at =
      let q : List ℕ = p ++ bytes 4 (of_z w32 code) in
      let e : length q ≡ length p + 4 = simp (length-append, length-bytes) in
      rw (append-nil (text_bytes t), e, append_assoc p (bytes 4 (of_z w32 code)) (text_bytes t)) at (text-back q t [] l)

  coded-length : length coded ≡ length p + (4 + text_size (length t))
  coded-length = simp (length-append, length-bytes, text-length)

  code_at : SFits w32 code → to_z w32 (le (part coded (length p) 4)) ≡ code
  code_at fits =
      ap (λ (b : List ℕ). to_z w32 (le b)) (part-mid p (bytes 4 (of_z w32 code)) (text_bytes t) (length p) 4 refl (length-bytes 4 (of_z w32 code)))
      ∙ ap (to_z w32) (le_bytes 4 (of_z w32 code) (Fits-of_z fits).fits) ∙ to_z-of_z fits

  error-at : SFits w32 code → read_error coded n (length p) ≡ error_read n code (length p + 4 + head_size (length t)) t
  unfolding read_error
  error-at fits =
      rw (
        le-ltb (length coded - length p) 4 (omega (arith, coded-length)),
        code_at fits,
        text_at,
        eq-eqb (length p + 4 + (head_size (length t) + length t) + pad_of (head_size (length t) + length t)) (length coded) (omega (arith, coded-length)),
      )

  -- the text is the part that the error names
  text-part : within coded (length p + 4 + head_size (length t)) (length t) ≡ t
  unfolding text_bytes
  text-part =
      let z : List ℕ = replicate (pad_of (head_size (length t) + length t)) 0 in
      let h : List ℕ = p ++ (bytes 4 (of_z w32 code) ++ text_head (length t)) in
      let e : length h ≡ length p + 4 + head_size (length t) = simp (length-append, length-bytes, head-length) (omega arith) in
      within-is coded (length p + 4 + head_size (length t)) (length t) t (omega (arith, coded-length))
      (simp append_assoc at (part-mid h t z (length p + 4 + head_size (length t)) (length t) e refl))

-- a value v behind the query number and a front, and x behind it
module _ (n : ℤ) (v : ℕ) (x : List ℕ) (l : v < 4294967296) where
  abbrev marked : Front → List ℕ
  marked h = bytes 8 (of_z w64 n) ++ (front_bytes h ++ (bytes 4 v ++ x))

  error-marked : kind_of Client v ≡ K.TheVariants.Error → (h : Front)
      → answer_from (marked h) n (after_header (marked h)) ≡ read_error (marked h) n (12 + length (front_bytes h))
  unfolding bytes front_bytes after_header read_answer
  error-marked e Plain =
      let s : List ℕ = marked Plain in
      rw (le-ltb (length s) 12 (omega arith), le_bytes 4 v l, e, le-ltb (length s - 8) 4 (omega arith), le_bytes 4 v l, e)
  error-marked e Headed =
      let s : List ℕ = marked Headed in
      ap (answer_from s n) (header-passed n (bytes 4 v ++ x))
      ∙ rw (le-ltb (length s - 16) 4 (omega arith), le_bytes 4 v l, e)

  number-marked : kind_of Client v ≡ K.TheVariants.NumberedError → 8 ≤ length x → (h : Front)
      → answer_from (marked h) n (after_header (marked h)) ≡ read_error (marked h) n (20 + length (front_bytes h))
  unfolding bytes front_bytes after_header read_answer
  number-marked e g Plain =
      let s : List ℕ = marked Plain in
      rw (
        le-ltb (length s) 12 (omega arith),
        le_bytes 4 v l,
        e,
        le-ltb (length s - 8) 4 (omega arith),
        le_bytes 4 v l,
        e,
        le-ltb (length s - 8) 12 (omega arith),
      )
  number-marked e g Headed =
      let s : List ℕ = marked Headed in
      ap (answer_from s n) (header-passed n (bytes 4 v ++ x))
      ∙ rw (le-ltb (length s - 16) 4 (omega arith), le_bytes 4 v l, e, le-ltb (length s - 16) 12 (omega arith))

-- each form is read as the same error, whose text stands behind the form's own mark
module _ (n code : ℤ) (t : List ℕ) (fits : SFits w64 n) (some : of_z w64 n ≡ 0 → ⊥) (coding : SFits w32 code) (l : length t < 16777216) where
  abbrev behind : List ℕ
  behind = bytes 4 (of_z w32 code) ++ text_bytes t

  -- number, front, and what follows
  abbrev fronted : Front → List ℕ → List ℕ
  fronted h x = bytes 8 (of_z w64 n) ++ (front_bytes h ++ x)

  marked-read : (v : ℕ) → v < 4294967296 → kind_of Client v ≡ K.TheVariants.Error → (h : Front)
      → read_result (fronted h (bytes 4 v ++ behind))
      ≡ error_read n code (16 + length (front_bytes h) + head_size (length t)) t
  unfolding read_result bytes front_bytes
  marked-read v g e h =
      let s : List ℕ = fronted h (bytes 4 v ++ behind) in
      numbered-back n (front_bytes h ++ (bytes 4 v ++ behind)) (λ z. answer_from s z (after_header s)) fits some
      ∙ (error-marked n v behind g e h ∙ last h)
    where
      last : (h : Front) → read_error (fronted h (bytes 4 v ++ behind)) n (12 + length (front_bytes h))
          ≡ error_read n code (16 + length (front_bytes h) + head_size (length t)) t
      last Plain = error-at (fronted Plain (bytes 4 v)) n code t l coding
      last Headed = error-at (fronted Headed (bytes 4 v)) n code t l coding

  numbered-read : (ignored : ℕ) (h : Front)
      → read_result (fronted h (bytes 4 0x7ae432f5 ++ (bytes 8 ignored ++ behind)))
      ≡ error_read n code (24 + length (front_bytes h) + head_size (length t)) t
  unfolding read_result bytes front_bytes kind_of answer_kind
  numbered-read ignored h =
      let x : List ℕ = bytes 4 0x7ae432f5 ++ (bytes 8 ignored ++ behind) in
      numbered-back n (front_bytes h ++ x) (λ z. answer_from (fronted h x) z (after_header (fronted h x))) fits some
      ∙ (number-marked n 0x7ae432f5 (bytes 8 ignored ++ behind) (omega arith) refl (omega arith) h ∙ last h)
    where
      last : (h : Front)
          → read_error (fronted h (bytes 4 0x7ae432f5 ++ (bytes 8 ignored ++ behind))) n (20 + length (front_bytes h))
          ≡ error_read n code (24 + length (front_bytes h) + head_size (length t)) t
      last Plain = error-at (fronted Plain (bytes 4 0x7ae432f5 ++ bytes 8 ignored)) n code t l coding
      last Headed = error-at (fronted Headed (bytes 4 0x7ae432f5 ++ bytes 8 ignored)) n code t l coding

  old-read : read_old_error (bytes 8 (of_z w64 n) ++ behind) ≡ error_read n code (12 + head_size (length t)) t
  unfolding read_old_error bytes
  old-read =
      let s : List ℕ = bytes 8 (of_z w64 n) ++ behind in
      numbered-back n behind (λ z. read_error s z 8) fits some ∙ error-at (bytes 8 (of_z w64 n)) n code t l coding

  -- where the text begins: behind number, front, mark, code and its own head
  abbrev pub text_place : Front → Form → ℕ
  text_place h f = 12 + length (form_front h f) + length (form_mark f) + head_size (length t)

  -- what the client reads of a body that has the form f behind the front h, and the text that it names there
  abbrev pub FrontedRead : Front → Form → Type 0
  FrontedRead h f =
      (read_message Client (form_type f) (fronted_bytes h f n code t)
      ≡ Ok (M.Result (record { number = n; answer = Error code (text_place h f) (length t) })))
      × (within (fronted_bytes h f n code t) (text_place h f) (length t) ≡ t)

  pub fronted-read : (h : Front) (f : Form) → FrontedRead h f
  unfolding fronted_bytes front_bytes form_mark bytes read_message to_client kind_of answer_kind
  fronted-read Plain ReqError = (
    ap of_reply (marked-read 0xb527877d (omega arith) refl Plain),
    text-part (fronted Plain (bytes 4 0xb527877d)) n code t l,
  )
  fronted-read Headed ReqError = (
    ap of_reply (marked-read 0xb527877d (omega arith) refl Headed),
    text-part (fronted Headed (bytes 4 0xb527877d)) n code t l,
  )
  fronted-read Plain Wrapped = (
    ap of_reply (marked-read 0x7ae432f6 (omega arith) refl Plain),
    text-part (fronted Plain (bytes 4 0x7ae432f6)) n code t l,
  )
  fronted-read Headed Wrapped = (
    ap of_reply (marked-read 0x7ae432f6 (omega arith) refl Headed),
    text-part (fronted Headed (bytes 4 0x7ae432f6)) n code t l,
  )
  fronted-read Plain (Numbered ignored) = (
    ap of_reply (numbered-read ignored Plain),
    text-part (fronted Plain (bytes 4 0x7ae432f5 ++ bytes 8 ignored)) n code t l,
  )
  fronted-read Headed (Numbered ignored) = (
    ap of_reply (numbered-read ignored Headed),
    text-part (fronted Headed (bytes 4 0x7ae432f5 ++ bytes 8 ignored)) n code t l,
  )
  fronted-read h Old = (ap of_reply old-read, text-part (bytes 8 (of_z w64 n)) n code t l)

  -- document 01's "All four give one meaning: number, code, text": also behind a reqResultHeader
  pub one-meaning-fronted : (h : Front) (f : Form)
      → error_meaning (fronted_bytes h f n code t) (read_message Client (form_type f) (fronted_bytes h f n code t))
      ≡ S.Error n code t
  unfolding part_of answer_part
  one-meaning-fronted h f =
      ap (error_meaning (fronted_bytes h f n code t)) (fronted-read h f).0 ∙ ap (S.Error n code) (fronted-read h f).1

  -- ---- the same without a front

  -- what the client reads of a body that has the form f, and the text that it names there
  abbrev pub FormRead : Form → Type 0
  FormRead f =
      (read_message Client (form_type f) (form_bytes f n code t)
      ≡ Ok (M.Result (record { number = n; answer = Error code (12 + length (form_mark f) + head_size (length t)) (length t) })))
      × (within (form_bytes f n code t) (12 + length (form_mark f) + head_size (length t)) (length t) ≡ t)

  pub form-read : (f : Form) → FormRead f
  unfolding form_bytes fronted_bytes front_bytes
  form-read ReqError = fronted-read Plain ReqError
  form-read Wrapped = fronted-read Plain Wrapped
  form-read (Numbered ignored) = fronted-read Plain (Numbered ignored)
  form-read Old = fronted-read Plain Old

  -- document 01's "All four give one meaning: number, code, text"
  pub one-meaning : (f : Form) → error_meaning (form_bytes f n code t) (read_message Client (form_type f) (form_bytes f n code t)) ≡ S.Error n code t
  unfolding part_of answer_part
  one-meaning f = ap (error_meaning (form_bytes f n code t)) (form-read f).0 ∙ ap (S.Error n code) (form-read f).1
