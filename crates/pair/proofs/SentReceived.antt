-- What a send call leaves in the buffer is received. Assumes nothing.
use native.Mathlib.Omega.{arith}
use mathlib.Core.Path.{◌≡◌, refl, ap, ◌∙◌}
use mathlib.Core.Bool.{Bool, true}
use mathlib.Core.List.{List}
use Prim.Native.Nat.{ℕ, ◌+◌, ◌<◌, ◌^◌}
use lib.ListN.{length, drop}
use Rattle.wire.proofs.StoreLaws.{front-stored}
use Rattle.wire.proofs.ByteLaws.{Small}
use Rattle.link_state.specs.declared.Link.{Link}
use Rattle.link_state.specs.declared.Moment.{Moment}
use Rattle.packet.specs.Allowed.{allowed_of}
use Rattle.packet_head.specs.Head.{check_length}
use Rattle.packet.specs.declared.Arrival.TheVariants.{Packet}
use Rattle.packet_out.specs.Size.{size_of}
use Rattle.packet_out.specs.Packet.{packet_of}
use Rattle.packet_out.proofs.PacketLaws.{length-packet}
use Rattle.link_next.specs.Next.{after_of}
use Rattle.link.specs.Receive.{check_body, gives, receive_of}
use Rattle.send_rules.specs.Control.{control_answer, buffer_by, control_buffer}
use Rattle.send_rules.proofs.ControlLaws.{fits}
use Rattle.pair.specs.Awaits.{Awaits}
use Rattle.pair.proofs.RoundTrip.{received}
use Rattle.std.specs.Prelude.{Ok}

-- where a send is not refused, the whole buffer afterwards, whatever it held, is received as the packet
pub sent-received : (l : Link) (kind : ℕ) (busy : Bool) (body b : List ℕ) (k : Link) (n : ℕ) → control_answer l kind busy (length body) (length b) ≡ Ok n → Awaits k l
    → check_length k (length body + 16) ≡ Ok tt → allowed_of k kind ≡ true → l.sends < 2 ^ 32 → length body + 16 < 2 ^ 32 → kind < 2 ^ 32 → Small body
    → (m : Moment) → check_body k kind body m ≡ Ok tt
    → receive_of k (control_buffer l kind busy body b) m ≡ gives (after_of k kind body m) (Ok (Packet kind (size_of l (length body)) 12 (length body)))
unfolding control_buffer
sent-received l kind busy body b k n e a len may number small kind_fits g m ok =
    let P : List ℕ = packet_of l kind body in
    let room = (fits l kind busy (length body) body 0 b refl n e).1 in
    let p : length P ≡ size_of l (length body) = length-packet l kind body in
    ap (λ (s : List ℕ). receive_of k s m) (ap (buffer_by l kind body b) e ∙ front-stored b P (omega arith))
    ∙ received l kind body (drop (length P) b) k a len may number small kind_fits g m ok
