-- What a receive call answers, and the link after it (document 01, "Packets" and "Receive order: 20, 22, 1, 3, 2, 4, 5,
-- 6, then 7 to 10 or 17, 21"; document 02, A11: 24 "after 8 and before 9"). Assumes nothing.
use Rattle.std.specs.Prelude.{ℕ, List, [], ◌∷◌, eqb, Result, Ok, Err, ⊤}
use Rattle.wire.specs.Bytes.{within}
use Rattle.wire.specs.Choice.{first}
use Rattle.link_state.specs.declared.Link.{Link}
use Rattle.link_state.specs.declared.Moment.{Moment}
use Rattle.refusal.specs.declared.Refusal.{Refusal}
use Rattle.packet.specs.declared.Arrival.{Arrival}
use Rattle.packet.specs.declared.Arrival.TheVariants.{Incomplete, Packet}
use Rattle.opening.specs.Nonce.{check_nonce}
use Rattle.handshake_in.specs.Handshake.{check_handshake}
use Rattle.link_next.specs.KeepAlive.{check_ping, check_pong}
use Rattle.link_next.specs.Next.{refused_of, after_of}
use Rattle.link.specs.Look.{look_of}
use Rattle.link.specs.declared.Received.{Received}

-- "then 7 to 10 or 17, 21": what is refused in the bodies that a link itself reads
unfoldable pub check_body : Link → ℕ → List ℕ → Moment → Result ⊤ Refusal
check_body l kind b m =
    first (
    (eqb kind 0x7acb87aa, check_nonce l b m) ∷
    (eqb kind 0x7682eef5, check_handshake l.set b) ∷
    (eqb kind 0x5730a2df, check_ping l b) ∷
    (eqb kind 0x8430eaa7, check_pong l b) ∷
    []
    ) (Ok tt)

-- a link and an answer
abbrev pub gives : Link → Result Arrival Refusal → Received
gives l a = record { link = l; answer = a }

-- a refusal
abbrev pub refuse : Link → Refusal → Received
refuse l r = gives (refused_of l r) (Err r)

-- a packet, by what is refused of its body: the link after one that is not
abbrev pub packet_by : Link → Link → Arrival → Result ⊤ Refusal → Received
packet_by l after a (Ok u) = gives after (Ok a)
packet_by l after a (Err r) = refuse l r

-- by what stands at the front of s, and of a packet by its body
abbrev pub receive_by : Link → List ℕ → Moment → Result Arrival Refusal → Received
receive_by l s m (Err r) = refuse l r
receive_by l s m (Ok (Incomplete k)) = gives l (Ok (Incomplete k))
receive_by l s m (Ok (Packet kind consumed at len)) =
    packet_by l (after_of l kind (within s at len) m) (Packet kind consumed at len)
    (check_body l kind (within s at len) m)

-- a receive call
unfoldable pub receive_of : Link → List ℕ → Moment → Received
receive_of l s m = receive_by l s m (look_of l s)
