-- Ping and Pong between two links whose opening is over (document 01, "Opening"), each packet received before the next
-- call. A send call that is refused hands nothing over. Assumes nothing.
use Rattle.std.specs.Prelude.{◌≡◌, ℕ, ◌≤◌, ◌<◌, ◌^◌, Bool, true, false, List, [], ◌∷◌, ◌++◌, length, Err, Result, Ok}
use Rattle.wire.specs.Choice.{pick}
use Rattle.link_state.specs.declared.Link.{Link}
use Rattle.link_state.specs.declared.Moment.{Moment}
use Rattle.packet.specs.declared.Arrival.{Arrival}
use Rattle.packet.specs.declared.Arrival.TheVariants.{Packet}
use Rattle.link.specs.Receive.{receive_of}
use Rattle.send_rules.specs.declared.Step.{Step}
use Rattle.keep_alive_out.specs.KeepAlive.{ping_step, ping_buffer, pong_step, pong_buffer}
use Rattle.pair.specs.Awaits.{Awaits}
use Rattle.refusal.specs.declared.Refusal.{Refusal}

-- k owes a Pong exactly if l awaits one, and with the ID of l's Ping
pub record Owing (l k : Link) : Type 0 where
  pub turn : k.owes ≡ l.awaits
  pub id : l.awaits ≡ true → l.awaited ≡ k.owed
  pub fits : k.owed < 2 ^ 64

-- two links whose opening is over, each of which waits for the other's next packet and owes the Pong that the other
-- awaits
pub record Alive (l k : Link) : Type 0 where
  pub there : Awaits k l
  pub back : Awaits l k
  pub open_l : 4 ≤ l.stage
  pub open_k : 4 ≤ k.stage
  pub number_l : l.sends < 2 ^ 32
  pub number_k : k.sends < 2 ^ 32
  pub owing_k : Owing l k
  pub owing_l : Owing k l

-- ---- one Ping and its Pong, by four calls

-- the two links after them, what the two send calls answered, and the two receive calls
pub record Exchanged : Type 0 where
  pub pinger : Link
  pub ponger : Link
  pub sent : List (Result ℕ Refusal)
  pub received : List (Result Arrival Refusal)

-- l sends a Ping with an ID in the buffer b1, k receives it, sends its Pong in b2, and l receives that; k's clock is
-- m1, l's m2
unfoldable pub exchange_of : Link → Link → ℕ → List ℕ → List ℕ → Moment → Moment → Exchanged
exchange_of l k id b1 b2 m1 m2 =
    let sent1 = ping_step l id (length b1) in
    let got1 = receive_of k (ping_buffer l id b1) m1 in
    let sent2 = pong_step got1.link (length b2) in
    let got2 = receive_of sent1.link (pong_buffer got1.link b2) m2 in
    record {
      pinger = got2.link;
      ponger = sent2.link;
      sent = sent1.answer ∷ sent2.answer ∷ [];
      received = got1.answer ∷ got2.answer ∷ [];
    }

-- both were written and received, no Ping is unanswered and no Pong is owed, and the two are alive as before
pub record KeptAlive (e : Exchanged) : Type 0 where
  pub written : e.sent ≡ Ok 24 ∷ Ok 24 ∷ []
  pub arrived : e.received ≡ Ok (Packet 0x5730a2df 24 12 8) ∷ Ok (Packet 0x8430eaa7 24 12 8) ∷ []
  pub answered : e.pinger.awaits ≡ false
  pub settled : e.ponger.owes ≡ false
  pub alive : Alive e.pinger e.ponger

-- ---- any Pings and Pongs

-- a call: whether the first link makes it, whether it sends a Ping or a Pong, a Ping's ID, the buffer, and the
-- other's clock
pub record Call : Type 0 where
  pub ours : Bool
  pub ping : Bool
  pub id : ℕ
  pub buffer : List ℕ
  pub moment : Moment

-- an ID has 8 bytes
abbrev pub AllFit : List Call → Type 0
AllFit [] = Unit {0}
AllFit (c ∷ cs) = (c.id < 2 ^ 64) × AllFit cs

abbrev pub step_of : Link → Call → Step
step_of l c = pick c.ping (ping_step l c.id (length c.buffer)) (pong_step l (length c.buffer))

abbrev pub buffer_of : Link → Call → List ℕ
buffer_of l c = pick c.ping (ping_buffer l c.id c.buffer) (pong_buffer l c.buffer)

-- the peer after it, by what the send call answered
abbrev pub peer_by : Link → Call → Link → Result ℕ Refusal → Link
peer_by l c k (Ok n) = (receive_of k (buffer_of l c) c.moment).link
peer_by l c k (Err r) = k

-- what the peer answers
unfoldable pub heard_by : Link → Call → Link → Result ℕ Refusal → List (Result Arrival Refusal)
heard_by l c k (Ok n) = (receive_of k (buffer_of l c) c.moment).answer ∷ []
heard_by l c k (Err r) = []

-- what it should: that packet
unfoldable pub meant_by : Link → Call → Link → Result ℕ Refusal → List (Result Arrival Refusal)
meant_by l c k (Ok n) = Ok (Packet (pick c.ping 0x5730a2df 0x8430eaa7) n 12 8) ∷ []
meant_by l c k (Err r) = []

-- what f says of each call, from its sender to the peer, in their order
unfoldable pub along : (Link → Call → Link → Result ℕ Refusal → List (Result Arrival Refusal)) → Link → Link → List Call → List (Result Arrival Refusal)
along f l k [] = []
along f l k (c ∷ cs) =
    pick c.ours
    (f l c k (step_of l c).answer ++ along f (step_of l c).link (peer_by l c k (step_of l c).answer) cs)
    (f k c l (step_of k c).answer ++ along f (peer_by k c l (step_of k c).answer) (step_of k c).link cs)
