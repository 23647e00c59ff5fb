-- A message that a link sends reads at the other side as what was sent. Assumes nothing.
use native.Mathlib.Omega.{arith}
use borrow.Author.Tests.{eq-eqb}
use mathlib.Core.Path.{◌≡◌, refl, ap}
use mathlib.Core.Bool.{Bool, true, false, not}
use mathlib.Core.List.{List}
use Prim.Native.Nat.{ℕ, ◌≤◌, ◌<◌}
use lib.ListN.{length}
use lib.Dec.{eqb}
use mir.Syntax.{w64}
use mir.Val.{of_z}
use mir.Facts.{to_z-of_z, Fits-of_z}
use Rattle.wire.specs.Bytes.{le, part, bytes}
use Rattle.wire.proofs.ByteLaws.{le_bytes}
use Rattle.text.proofs.TextLaws.{size-over}
use Rattle.result_out.specs.WriteResult.{error_bytes, error_size}
use Rattle.result_out.proofs.WriteLaws.{error-length}
use Rattle.message.specs.ReadMessage.{of_invoke, of_reply, read_cancel, to_server, to_client, read_message}
use Rattle.message.specs.PartOf.{answer_part, part_of}
use Rattle.cancel_out.specs.WriteShort.{cancel_bytes}
use Rattle.message_laws.specs.Forms.{ReqError, form_bytes, form_mark}
use Rattle.message_laws.specs.RoundTrip.{ReadsAs}
use Rattle.message_laws.proofs.InvokeBack.{read_back, invoke-part}
use Rattle.message_laws.proofs.ResultBack.{payload-read, payload-part, form-read}
use Rattle.message_out.specs.Outgoing.{kind_of, body_of, wrong_way, number_zero, payload_misread}
use Rattle.message_out.specs.declared.Outgoing.{Outgoing}
use Rattle.message_out.specs.declared.Outgoing.TheVariants.{Invoke, Cancel, ClientFin, Payload, Error, ServerFin, Unknown}
use Rattle.pair_messages.specs.Meaning.{meaning_of, carried, Fits}
use Rattle.pair_messages.specs.Hear.{side_of}

-- a number whose test for 0 fails is not 0
not-zero : (x : ℕ) → eqb x 0 ≡ false → x ≡ 0 → ⊥
not-zero x e z = let t = eq-eqb x 0 z in let q : ◌≡◌ {A = ℕ} 0 1 = cc in omega arith

-- MESSAGES ARE READ: at the other side, by their type, as their meaning; and the part that it names is the payload or text
pub message-read : (server : Bool) (w : Outgoing) (p : List ℕ) → wrong_way server w ≡ false → number_zero w ≡ false → payload_misread w p ≡ false
    → length (body_of w p) ≤ 16777199 → Fits w → ReadsAs (read_message (side_of (not server)) (kind_of w)) (body_of w p) (meaning_of w p) (carried w p)
unfolding kind_of body_of wrong_way number_zero payload_misread meaning_of carried read_message to_server to_client read_cancel part_of answer_part cancel_bytes error_bytes error_size form_bytes form_mark bytes
message-read false (Invoke n a t m) p way some pl short f =
    (ap of_invoke (read_back n m p pl a t f.0 (not-zero (of_z w64 n) some) f.1 f.2), invoke-part n m p pl a t)
message-read false (Cancel n) p way some pl short f =
    let v : le (part (bytes 8 (of_z w64 n)) 0 8) ≡ of_z w64 n = le_bytes 8 (of_z w64 n) (Fits-of_z f).fits in
    (rw (v, some, to_z-of_z f), refl)
message-read false ClientFin p way some pl short f = (refl, refl)
message-read true (Payload n) p way some pl short f = (ap of_reply (payload-read n p f (not-zero (of_z w64 n) some) pl), payload-part n p)
message-read true (Error n code) p way some pl short f =
    let l : length p < 16777216 = omega (arith, short, error-length n code p, size-over (length p)) in
    form-read n code p f.0 (not-zero (of_z w64 n) some) f.1 l ReqError
message-read true ServerFin p way some pl short f = (refl, refl)
message-read true (Invoke n a t m) p way some pl short f = let z : ◌≡◌ {A = ℕ} 0 1 = cc in absurd (omega arith)
message-read true (Cancel n) p way some pl short f = let z : ◌≡◌ {A = ℕ} 0 1 = cc in absurd (omega arith)
message-read true ClientFin p way some pl short f = let z : ◌≡◌ {A = ℕ} 0 1 = cc in absurd (omega arith)
message-read false (Payload n) p way some pl short f = let z : ◌≡◌ {A = ℕ} 0 1 = cc in absurd (omega arith)
message-read false (Error n code) p way some pl short f = let z : ◌≡◌ {A = ℕ} 0 1 = cc in absurd (omega arith)
message-read false ServerFin p way some pl short f = let z : ◌≡◌ {A = ℕ} 0 1 = cc in absurd (omega arith)
message-read server (Unknown kind) p way some pl short f = let z : ◌≡◌ {A = ℕ} 0 1 = cc in absurd (omega arith)
