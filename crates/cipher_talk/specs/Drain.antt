-- What a driver takes out of its clear bytes: receive calls, each behind the packet before it, until one waits or is
-- refused, or it is this side's turn (document 01, "Packets", "Messages" and "Opening"). Assumes nothing.
use Rattle.std.specs.Prelude.{ℕ, zero, suc, Bool, not, List, [], ◌∷◌, ◌++◌, eqb, length, drop, Err, Result, Ok}
use Rattle.wire.specs.Choice.{pick, first}
use Rattle.header.specs.declared.Side.{Side}
use Rattle.link_state.specs.Turn.{may_send}
use Rattle.link_state.specs.declared.Link.{Link}
use Rattle.link_state.specs.declared.Moment.{Moment}
use Rattle.packet.specs.Body.{body_of}
use Rattle.packet.specs.declared.Arrival.{Arrival}
use Rattle.packet.specs.declared.Arrival.TheVariants.{Incomplete, Packet}
use Rattle.link.specs.Receive.{receive_of}
use Rattle.link.specs.declared.Received.{Received}
use Rattle.message.specs.PartOf.{part_of}
use Rattle.message.specs.ReadMessage.{read_message}
use Rattle.message.specs.declared.Message.{Message}
use Rattle.pair_messages.specs.Hear.{side_of}
use Rattle.refusal.specs.declared.Refusal.{Refusal}

-- a message with its rest, page or text; a packet of the link itself, with its body; or a refusal
pub data Got : Type 0 where
  message : Result Message Refusal → List ℕ → Got
  control : ℕ → List ℕ → Got
  fault : Refusal → Got

-- a packet of this type, with this body: Nonce, Handshake, Ping and Pong are the link's own, all else is a message
unfoldable pub got_of : Side → ℕ → List ℕ → Got
got_of side kind body =
    first (
    (eqb kind 0x7acb87aa, control kind body) ∷
    (eqb kind 0x7682eef5, control kind body) ∷
    (eqb kind 0x5730a2df, control kind body) ∷
    (eqb kind 0x8430eaa7, control kind body) ∷
    []
    ) (message (read_message side kind body) (part_of body (read_message side kind body)))

-- the link after the calls, what they took, and the bytes that no packet has used
pub record Drained : Type 0 where
  pub link : Link
  pub got : List Got
  pub left : List ℕ

-- a packet first, and then the others
abbrev pub ahead : Got → Drained → Drained
ahead g d = record { link = d.link; got = g ∷ d.got; left = d.left }

-- by one call's answer on the bytes s, and the link k after it; next is what is done behind a packet
abbrev pub drain_on : (Link → List ℕ → Drained) → Side → List ℕ → Link → Result Arrival Refusal → Drained
drain_on next side s k (Ok (Incomplete n)) = record { link = k; got = []; left = s }
drain_on next side s k (Ok (Packet kind consumed at len)) =
    ahead (got_of side kind (body_of s (Ok (Packet kind consumed at len)))) (next k (drop consumed s))
drain_on next side s k (Err r) = record { link = k; got = fault r ∷ []; left = s }

abbrev pub drain_by : (Link → List ℕ → Drained) → Link → List ℕ → Received → Drained
drain_by next l s r = drain_on next (side_of l.set.server) s r.link r.answer

-- whether the other side may send; where not, a receive call would answer 22, and a driver makes none. Once the
-- opening is over it always may
abbrev pub theirs : Link → Bool
theirs l = may_send (not l.set.server) l.stage

-- at most so many calls
unfoldable pub drained : ℕ → Link → List ℕ → Moment → Drained
drained zero l s m = record { link = l; got = []; left = s }
drained (suc n) l s m =
    pick (theirs l)
    (drain_by (λ (k : Link) (t : List ℕ). drained n k t m) l s (receive_of l s m))
    (record { link = l; got = []; left = s })

-- the same with calls at this side's turn too: what `drained` is once the opening is over, by `open-drains`
unfoldable pub calls_of : ℕ → Link → List ℕ → Moment → Drained
calls_of zero l s m = record { link = l; got = []; left = s }
calls_of (suc n) l s m = drain_by (λ (k : Link) (t : List ℕ). calls_of n k t m) l s (receive_of l s m)

-- all of them: a packet takes 16 bytes at least, so that more calls take no more
abbrev pub all_of : Link → List ℕ → Moment → Drained
all_of l s m = drained (length s) l s m

-- ---- bytes that come in pieces

-- bytes, and the clock when they come
pub record Piece : Type 0 where
  pub bytes : List ℕ
  pub clock : Moment

unfoldable pub joined : List Piece → List ℕ
joined [] = []
joined (p ∷ ps) = p.bytes ++ joined ps

-- each joined to what is left of those before it, which at first is h
unfoldable pub fed : Link → List ℕ → List Piece → Drained
fed l h [] = record { link = l; got = []; left = h }
fed l h (p ∷ ps) =
    let d = all_of l (h ++ p.bytes) p.clock in
    let r = fed d.link d.left ps in
    record { link = r.link; got = d.got ++ r.got; left = r.left }
