-- What a message to send means at the other side (document 01, "Messages"), with the payload or text p that goes beside
-- it. Assumes nothing.
use Rattle.std.specs.Prelude.{ℕ, ◌+◌, List, [], length, Err, Result, Ok}
use Rattle.std.specs.Int.{w32, w64}
use Rattle.std.proofs.Common.{SFits}
use Rattle.text.specs.TextForm.{head_size}
use Rattle.invoke.specs.Fields.{effective_timeout}
use Rattle.result.specs.declared.Answer as A
use Rattle.message.specs.declared.Message.{Message}
use Rattle.message.specs.declared.Message.TheVariants as M
use Rattle.message_laws.specs.RoundTrip.{invoke_with, ActorFits, TimeoutFits, payload_at}
use Rattle.message_out.specs.declared.Outgoing.{Outgoing}
use Rattle.message_out.specs.declared.Outgoing.TheVariants.{Invoke, Cancel, ClientFin, Payload, Error, ServerFin, Unknown}
use Rattle.refusal.specs.declared.Refusal.TheVariants.{TypeNotRpc}
use Rattle.refusal.specs.declared.Refusal.{Refusal}

-- number, actor, timeout, TL2 and rest of an invoke, where a timeout of 0 is none (document 02, A1); number and page of
-- a result, or number, code and text: the places of rest, page and text are those in the body. An unknown type is never
-- written; its reader would refuse it
unfoldable pub meaning_of : Outgoing → List ℕ → Result Message Refusal
meaning_of (Invoke n a t m) p = Ok (M.Invoke (invoke_with n a (effective_timeout t) m (payload_at a t m) (length p)))
meaning_of (Cancel n) p = Ok (M.Cancel n)
meaning_of ClientFin p = Ok M.ClientFin
meaning_of (Payload n) p = Ok (M.Result (record { number = n; answer = A.TheVariants.Payload 8 (length p) }))
meaning_of (Error n code) p = Ok (M.Result (record { number = n; answer = A.TheVariants.Error code (16 + head_size (length p)) (length p) }))
meaning_of ServerFin p = Ok M.ServerFin
meaning_of (Unknown kind) p = Err TypeNotRpc

-- the rest, page or text that the other side gets: a cancel and a fin have none
unfoldable pub carried : Outgoing → List ℕ → List ℕ
carried (Invoke n a t m) p = p
carried (Cancel n) p = []
carried ClientFin p = []
carried (Payload n) p = p
carried (Error n code) p = p
carried ServerFin p = []
carried (Unknown kind) p = []

-- the fields have their widths: query numbers and actors signed 64, codes signed 32, timeouts 32 bits
abbrev pub Fits : Outgoing → Type 0
Fits (Invoke n a t m) = SFits w64 n × ActorFits a × TimeoutFits t
Fits (Cancel n) = SFits w64 n
Fits ClientFin = Unit
Fits (Payload n) = SFits w64 n
Fits (Error n code) = SFits w64 n × SFits w32 code
Fits ServerFin = Unit
Fits (Unknown kind) = Unit
