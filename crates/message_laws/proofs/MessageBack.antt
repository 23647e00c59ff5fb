-- Document 01's demand on messages: what a writer leaves in the lent bytes d, cut to the size that it answers, reads back
-- as what was asked for, whatever stands behind it; and the part that the message names is the payload or text. Assumes
-- nothing.
use mathlib.Core.Path.{◌≡◌, refl, ap, ◌∙◌}
use Prim.Native.Nat.{ℕ, ◌+◌, ◌<◌}
use native.Mathlib.Omega.{arith}
use mathlib.Core.List.{List, []}
use mathlib.Core.Bool.{Bool, false}
use lib.ListN.{length, take}
use lib.IntN.{ℤ}
use mir.Syntax.{w32, w64}
use mir.Val.{of_z, SFits}
use mir.Facts.{to_z-of_z, Fits-of_z}
use borrow.Author.Tests.{ne_eqb}
use Rattle.wire.specs.Bytes.{le, part, bytes}
use Rattle.wire.proofs.ByteLaws.{le_bytes}
use Rattle.header.specs.Headers.{reads_as_header}
use Rattle.header.specs.declared.Side.TheVariants.{Client, Server}
use Rattle.body.specs.Written.{bytes_after}
use Rattle.body.proofs.WrittenLaws.{told, front}
use Rattle.text.specs.TextForm.{head_size}
use Rattle.text.proofs.TextLaws.{size-over}
use Rattle.invoke.specs.Fields.{effective_timeout}
use Rattle.invoke_out.specs.WriteInvoke.{invoke_bytes, invoke_answer, payload_refused}
use Rattle.result.specs.declared.Answer.TheVariants.{Payload, Error}
use Rattle.result_out.specs.WriteResult.{payload_bytes, payload_answer, error_bytes, error_size, error_answer}
use Rattle.result_out.proofs.WriteLaws.{error-length}
use Rattle.message.specs.ReadMessage.{of_invoke, of_reply, read_cancel, to_server, to_client, read_message}
use Rattle.message.specs.PartOf.{answer_part, part_of}
use Rattle.cancel_out.specs.WriteShort.{cancel_bytes, cancel_answer, fin_bytes, fin_answer}
use Rattle.message.specs.declared.Message.{Message}
use Rattle.message.specs.declared.Message.TheVariants as M
use Rattle.message_laws.specs.Forms.{Front, ReqError, form_bytes, form_mark, front_bytes, fronted_payload}
use Rattle.message_laws.specs.RoundTrip.{ReadsAs, invoke_with, ActorFits, TimeoutFits, payload_at}
use Rattle.message_laws.proofs.InvokeBack.{read_back, invoke-part}
use Rattle.message_laws.proofs.FrontedBack.{fronted-payload-read}
use Rattle.message_laws.proofs.ResultBack.{payload-read, payload-part, fronted-payload-part, form-read}
use Rattle.std.specs.Prelude.{Result, Ok, Option}
use Rattle.refusal.specs.declared.Refusal.{Refusal}

-- the front of the lent bytes, where the body x was stored
reads-front : (read : List ℕ → Result Message Refusal) (s x : List ℕ) (m : Result Message Refusal) (p : List ℕ) → s ≡ x → ReadsAs read x m p → ReadsAs read s m p
reads-front read s x m p e r = (ap read e ∙ r.0, ap (λ (l : List ℕ). part_of l m) e ∙ r.1)

module _ (d : List ℕ) {k : ℕ} where
  -- an invoke
  pub invoke-back : (n : ℤ) (a : Option ℤ) (t : Option ℕ) (m : Bool) (p : List ℕ) → SFits w64 n → ActorFits a → TimeoutFits t
      → invoke_answer n a t m p (length d) ≡ Ok k
      → ReadsAs (read_message Server 0x2374df3d) (take k (bytes_after (Ok k) d (invoke_bytes n a t m p)))
      (Ok (M.Invoke (invoke_with n a (effective_timeout t) m (payload_at a t m) (length p)))) p
  unfolding invoke_answer read_message to_server part_of
  invoke-back n a t m p f fa ft e =
      let x = invoke_bytes n a t m p in
      let g = told n (payload_refused m p) (length x) (length d) e in
      reads-front (read_message Server 0x2374df3d) _ x _ p (front d x n (payload_refused m p) e)
      (ap of_invoke (read_back n m p g.1 a t f g.0 fa ft), invoke-part n m p g.1 a t)

  -- a cancel
  pub cancel_back : (n : ℤ) → SFits w64 n → cancel_answer n (length d) ≡ Ok k
      → ReadsAs (read_message Server 0x193f1b22) (take k (bytes_after (Ok k) d (cancel_bytes n))) (Ok (M.Cancel n)) []
  unfolding cancel_answer cancel_bytes read_message to_server read_cancel part_of bytes
  cancel_back n f e =
      let x : List ℕ = bytes 8 (of_z w64 n) in
      let g = told n false (length x) (length d) e in
      let v : le (part x 0 8) ≡ of_z w64 n = le_bytes 8 (of_z w64 n) (Fits-of_z f).fits in
      reads-front (read_message Server 0x193f1b22) _ x (Ok (M.Cancel n)) [] (front d x n false e)
      (rw (v, ne_eqb (of_z w64 n) 0 g.0, to_z-of_z f), refl)

  -- a result with a payload
  pub payload-back : (n : ℤ) (p : List ℕ) → SFits w64 n → payload_answer n p (length d) ≡ Ok k
      → ReadsAs (read_message Client 0x63aeda4e) (take k (bytes_after (Ok k) d (payload_bytes n p)))
      (Ok (M.Result (record { number = n; answer = Payload 8 (length p) }))) p
  unfolding payload_answer read_message to_client part_of answer_part
  payload-back n p f e =
      let x = payload_bytes n p in
      let g = told n (reads_as_header Client p) (length x) (length d) e in
      reads-front (read_message Client 0x63aeda4e) _ x _ p (front d x n (reads_as_header Client p) e)
      (ap of_reply (payload-read n p f g.0 g.1), payload-part n p)

  -- a result with an error
  pub error-back : (n code : ℤ) (t : List ℕ) → SFits w64 n → SFits w32 code → error_answer n code t (length d) ≡ Ok k
      → ReadsAs (read_message Client 0x63aeda4e) (take k (bytes_after (Ok k) d (error_bytes n code t)))
      (Ok (M.Result (record { number = n; answer = Error code (16 + head_size (length t)) (length t) }))) t
  unfolding error_answer error_bytes error_size form_bytes form_mark bytes part_of answer_part
  error-back n code t f fc e =
      let x = error_bytes n code t in
      let g = told n false (length x) (length d) e in
      let l : length t < 16777216 = omega (arith, g.3, error-length n code t, size-over (length t)) in
      reads-front (read_message Client 0x63aeda4e) _ x _ t (front d x n false e) (form-read n code t f g.0 fc l ReqError)

-- a result with a payload that the writer would not refuse with 15, behind a reqResultHeader or not: we write none
pub fronted-payload-back : (h : Front) (n : ℤ) (p : List ℕ) → SFits w64 n → (of_z w64 n ≡ 0 → ⊥)
    → reads_as_header Client p ≡ false
    → ReadsAs (read_message Client 0x63aeda4e) (fronted_payload h n p)
    (Ok (M.Result (record { number = n; answer = Payload (8 + length (front_bytes h)) (length p) }))) p
unfolding read_message to_client part_of answer_part
fronted-payload-back h n p f some c = (ap of_reply (fronted-payload-read h n p f some c), fronted-payload-part h n p)

-- the fins, whose answer is a size of 0
pub client-fin-back : (d : List ℕ) → ReadsAs (read_message Server 0x0b73429e) (take 0 (bytes_after fin_answer d fin_bytes)) (Ok M.ClientFin) []
unfolding read_message to_server part_of
client-fin-back d = (refl, refl)

pub server-fin-back : (d : List ℕ) → ReadsAs (read_message Client 0xa8ddbc46) (take 0 (bytes_after fin_answer d fin_bytes)) (Ok M.ServerFin) []
unfolding read_message to_client part_of
server-fin-back d = (refl, refl)
