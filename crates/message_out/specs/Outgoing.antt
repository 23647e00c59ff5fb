-- A message to send: its type, its body, and what refuses it (document 01, "Messages": "The packet type is the message
-- type"). Assumes nothing.
use Rattle.std.specs.Prelude.{ℕ, Bool, true, false, not, List, [], eqb}
use Rattle.std.specs.Int.{w64}
use Rattle.std.proofs.Common.{of_z}
use Rattle.header.specs.Headers.{reads_as_header}
use Rattle.header.specs.declared.Side.TheVariants.{Client}
use Rattle.invoke_out.specs.WriteInvoke.{invoke_bytes, payload_refused}
use Rattle.result_out.specs.WriteResult.{payload_bytes, error_bytes}
use Rattle.cancel_out.specs.WriteShort.{cancel_bytes}
use Rattle.message_out.specs.declared.Outgoing as O
use Rattle.message_out.specs.declared.Outgoing.TheVariants.{Invoke, Cancel, ClientFin, Payload, Error, ServerFin, Unknown}

-- "invoke 0x2374df3d, cancel 0x193f1b22, client fin 0x0b73429e .. result 0x63aeda4e .. server fin 0xa8ddbc46"
unfoldable pub kind_of : O.Outgoing → ℕ
kind_of (Invoke n a t m) = 0x2374df3d
kind_of (Cancel n) = 0x193f1b22
kind_of ClientFin = 0x0b73429e
kind_of (Payload n) = 0x63aeda4e
kind_of (Error n c) = 0x63aeda4e
kind_of ServerFin = 0xa8ddbc46
kind_of (Unknown kind) = kind

-- the body, with the payload or text p: "A fin has an empty body, a cancel only a query number"
unfoldable pub body_of : O.Outgoing → List ℕ → List ℕ
body_of (Invoke n a t m) p = invoke_bytes n a t m p
body_of (Cancel n) p = cancel_bytes n
body_of ClientFin p = []
body_of (Payload n) p = payload_bytes n p
body_of (Error n c) p = error_bytes n c p
body_of ServerFin p = []
body_of (Unknown kind) p = []

-- "type not RPC or wrong way", 19, at a server (true) or a client: "Client to server: invoke .., cancel .., client fin ..
-- Server to client: result .. server fin"
unfoldable pub wrong_way : Bool → O.Outgoing → Bool
wrong_way server (Invoke n a t m) = server
wrong_way server (Cancel n) = server
wrong_way server ClientFin = server
wrong_way server (Payload n) = not server
wrong_way server (Error n c) = not server
wrong_way server ServerFin = not server
wrong_way server (Unknown kind) = true

-- "query number 0", 12: "Query numbers are signed, 64 bits, never 0"; a fin has none
unfoldable pub number_zero : O.Outgoing → Bool
number_zero (Invoke n a t m) = eqb (of_z w64 n) 0
number_zero (Cancel n) = eqb (of_z w64 n) 0
number_zero ClientFin = false
number_zero (Payload n) = eqb (of_z w64 n) 0
number_zero (Error n c) = eqb (of_z w64 n) 0
number_zero ServerFin = false
number_zero (Unknown kind) = false

-- "rest reads as header", 15: of an invoke without the marker, and of a page
unfoldable pub payload_misread : O.Outgoing → List ℕ → Bool
payload_misread (Invoke n a t m) p = payload_refused m p
payload_misread (Cancel n) p = false
payload_misread ClientFin p = false
payload_misread (Payload n) p = reads_as_header Client p
payload_misread (Error n c) p = false
payload_misread ServerFin p = false
payload_misread (Unknown kind) p = false
