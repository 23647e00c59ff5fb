-- A packet that the link itself sends, whatever its body (document 01, "Send order: 20, 22, 5, 21, 19, 12, 15, 2, 16";
-- 19, 12 and 15 are of messages). Assumes nothing.
use Rattle.std.specs.Prelude.{◌≡◌, ℕ, Bool, not, List, [], ◌∷◌, length, Result, Ok, Err, ⊤}
use Rattle.std.specs.Result.{result_and}
use Rattle.std.proofs.lemmas.List.Edits.{sets}
use Rattle.wire.specs.Choice.{first}
use Rattle.link_state.specs.declared.Link.{Link}
use Rattle.link_state.specs.Turn.{may_send}
use Rattle.packet.specs.Allowed.{allowed_of}
use Rattle.packet_out.specs.Size.{fits_of}
use Rattle.packet_out.specs.Packet.{packet_of, sealed_of}
use Rattle.refusal.specs.declared.Refusal.{Refusal}
use Rattle.refusal.specs.declared.Refusal.TheVariants.{LinkClosed, NotOurTurn, TypeNotAllowed, PingOutOfTurn}
use Rattle.send_rules.specs.Sent.{sent_of}
use Rattle.send_rules.specs.declared.Step.{Step}

-- "link closed", "not this side's turn", "type not allowed now", "Ping or Pong out of turn": 20, 22, 5, 21
unfoldable pub check_send : Link → ℕ → Bool → Result ⊤ Refusal
check_send l kind busy =
    first (
    (l.closed, Err LinkClosed) ∷
    (not (may_send l.set.server l.stage), Err NotOurTurn) ∷
    (not (allowed_of l kind), Err TypeNotAllowed) ∷
    (busy, Err PingOutOfTurn) ∷
    []
    ) (Ok tt)

-- the answer for a body of so many bytes and so much room: these, then 2, 16, then the packet's size
unfoldable pub control_answer : Link → ℕ → Bool → ℕ → ℕ → Result ℕ Refusal
control_answer l kind busy len room = result_and (check_send l kind busy) (fits_of l len room)

-- the link after the call: a send that is refused changes nothing
abbrev pub step_by : Link → ℕ → ℕ → Result ℕ Refusal → Step
step_by l kind id (Ok n) = record { link = sent_of l kind id n; answer = Ok n }
step_by l kind id (Err r) = record { link = l; answer = Err r }

-- the buffer after the call: the packet at its front, or all as it was
abbrev pub buffer_by : Link → ℕ → List ℕ → List ℕ → Result ℕ Refusal → List ℕ
buffer_by l kind body b (Ok n) = sets b 0 (packet_of l kind body)
buffer_by l kind body b (Err r) = b

-- a packet with this body, for which there is so much room
unfoldable pub control_step : Link → ℕ → Bool → List ℕ → ℕ → ℕ → Step
control_step l kind busy body id room = step_by l kind id (control_answer l kind busy (length body) room)

-- what it leaves in the buffer b
unfoldable pub control_buffer : Link → ℕ → Bool → List ℕ → List ℕ → List ℕ
control_buffer l kind busy body b = buffer_by l kind body b (control_answer l kind busy (length body) (length b))

-- what a writer of the body leaves of the buffer b: a refusal leaves all as it was, else it is what was written, sealed
abbrev pub Leaves : (List ℕ → List ℕ → Type 0) → Link → ℕ → ℕ → List ℕ → List ℕ → Result ℕ Refusal → Type 0
Leaves Writes l kind len b b' (Ok n) = (w : List ℕ) × Writes b w × (b' ≡ sealed_of l kind len w)
Leaves Writes l kind len b b' (Err r) = b' ≡ b

-- what writes a body into a buffer leaves this one there from byte 12 on
abbrev pub Stores : (List ℕ → List ℕ → Type 0) → List ℕ → Type 0
Stores Writes body = (b b' : List ℕ) → Writes b b' → b' ≡ sets b 12 body
