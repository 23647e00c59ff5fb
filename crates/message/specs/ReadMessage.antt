-- The meaning of a packet's type and body (document 01, "Messages": "The packet type is the message type").
-- Assumes nothing.
use Rattle.std.specs.Prelude.{ℕ, List, [], ◌∷◌, length, ltb, eqb, Result, Ok, Err}
use Rattle.std.specs.Int.{w64}
use Rattle.std.proofs.Common.{to_z}
use Rattle.wire.specs.Bytes.{le, part}
use Rattle.wire.specs.Choice.{pick, first}
use Rattle.header.specs.declared.Side.{Side}
use Rattle.header.specs.declared.Side.TheVariants.{Client, Server}
use Rattle.invoke_in.specs.ReadInvoke.{read_invoke}
use Rattle.invoke.specs.declared.Invoke.{Invoke}
use Rattle.result.specs.ReadResult.{read_result, read_old_error}
use Rattle.result.specs.declared.Reply.{Reply}
use Rattle.refusal.specs.declared.Refusal.{Refusal}
use Rattle.message.specs.declared.Message.{Message}
use Rattle.message.specs.declared.Message.TheVariants as M
use Rattle.refusal.specs.declared.Refusal.TheVariants.{NumberZero, BodySize, TypeNotRpc}

-- an invoke, or its refusal
abbrev pub of_invoke : Result Invoke Refusal → Result Message Refusal
of_invoke (Ok i) = Ok (M.Invoke i)
of_invoke (Err k) = Err k

-- a result or old error, or its refusal
abbrev pub of_reply : Result Reply Refusal → Result Message Refusal
of_reply (Ok r) = Ok (M.Result r)
of_reply (Err k) = Err k

-- "a cancel only a query number": "a cancel under 8 bytes is 17, and bytes too many come last"
unfoldable pub read_cancel : List ℕ → Result Message Refusal
read_cancel s =
    first (
    (ltb (length s) 8, Err BodySize) ∷
    (eqb (le (part s 0 8)) 0, Err NumberZero) ∷
    (ltb 8 (length s), Err BodySize) ∷
    []
    ) (Ok (M.Cancel (to_z w64 (le (part s 0 8)))))

-- "a fin has an empty body"
abbrev pub read_fin : List ℕ → Message → Result Message Refusal
read_fin s fin = pick (ltb 0 (length s)) (Err BodySize) (Ok fin)

-- client to server: invoke, cancel, client fin; another type is 19
unfoldable pub to_server : ℕ → List ℕ → Result Message Refusal
to_server v s =
    first (
    (eqb v 0x2374df3d, of_invoke (read_invoke s)) ∷
    (eqb v 0x193f1b22, read_cancel s) ∷
    (eqb v 0x0b73429e, read_fin s M.ClientFin) ∷
    []
    ) (Err TypeNotRpc)

-- server to client: result, old error, server fin; another type is 19
unfoldable pub to_client : ℕ → List ℕ → Result Message Refusal
to_client v s =
    first (
    (eqb v 0x63aeda4e, of_reply (read_result s)) ∷
    (eqb v 0x7ae432f5, of_reply (read_old_error s)) ∷
    (eqb v 0xa8ddbc46, read_fin s M.ServerFin) ∷
    []
    ) (Err TypeNotRpc)

-- at the side that reads
unfoldable pub read_message : Side → ℕ → List ℕ → Result Message Refusal
read_message Server v s = to_server v s
read_message Client v s = to_client v s
