-- What a link makes of the front of the bytes, but for the body (document 01, "Opening" and the receive order).
-- Assumes nothing.
use Rattle.std.specs.Prelude.{ℕ, not, List, [], ◌∷◌, Result, Ok, Err, ⊤}
use Rattle.std.specs.Result.{result_and}
use Rattle.wire.specs.Choice.{first}
use Rattle.link_state.specs.declared.Link.{Link}
use Rattle.link_state.specs.Turn.{may_send}
use Rattle.packet_in.specs.Frame.{frame_of}
use Rattle.packet.specs.declared.Arrival.{Arrival}
use Rattle.refusal.specs.declared.Refusal.{Refusal}
use Rattle.refusal.specs.declared.Refusal.TheVariants.{LinkClosed, NotOurTurn}

-- "link closed", then "A call at the other side's turn gets 22": the other side must be the one that may send
unfoldable pub check_turn : Link → Result ⊤ Refusal
check_turn l =
    first (
    (l.closed, Err LinkClosed) ∷
    (not (may_send (not l.set.server) l.stage), Err NotOurTurn) ∷
    []
    ) (Ok tt)

-- 20, 22, then what stands at the front of s
unfoldable pub look_of : Link → List ℕ → Result Arrival Refusal
look_of l s = result_and (check_turn l) (frame_of l s)
