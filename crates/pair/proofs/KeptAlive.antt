-- A Ping and the Pong that answers it, by the four calls: both are written, both are received, and both links are at rest
-- again. Assumes nothing.
use borrow.Author.Tests.{le-ltb, le-leb}
use native.Mathlib.Omega.{arith}
use mathlib.Core.Path.{◌≡◌, refl, ap, sym, ◌∙◌}
use mathlib.Core.Bool.{Bool, true, false, not}
use mathlib.Core.List.{List, ◌++◌}
use Prim.Native.Nat.{ℕ, ◌+◌, ◌≤◌, ◌<◌, ◌^◌}
use lib.ListN.{length, drop}
use Rattle.wire.proofs.StoreLaws.{front-stored}
use Rattle.wire.specs.Bytes.{bytes}
use Rattle.wire.specs.Choice.{pick}
use Rattle.wire.proofs.ByteLaws.{length-bytes}
use Rattle.link_state.specs.declared.Link.{Link}
use Rattle.link_state.specs.declared.Moment.{Moment}
use Rattle.link_state.specs.Turn.{may_send, stage_after}
use Rattle.packet.specs.Allowed.{allowed_of}
use Rattle.packet_padding.specs.Padding.{pads_of, tail_of}
use Rattle.packet.specs.declared.Arrival.TheVariants.{Packet}
use Rattle.packet_out.specs.Packet.{packet_of}
use Rattle.packet_out.specs.Size.{size_of, fits_of}
use Rattle.packet_out.proofs.PacketLaws.{length-packet}
use Rattle.link.specs.Look.{check_turn}
use Rattle.link_next.specs.KeepAlive.{awaits_after, owes_after}
use Rattle.link_next.specs.Next.{after_of}
use Rattle.link.specs.Receive.{gives, receive_of}
use Rattle.send_rules.specs.Sent.{awaits_sent, awaited_sent, owes_sent, sent_of}
use Rattle.send_rules.specs.Control.{check_send, control_answer, step_by, buffer_by, control_step, control_buffer}
use Rattle.keep_alive_out.specs.KeepAlive.{ping_step, ping_buffer, pong_step, pong_buffer}
use Rattle.pair.specs.Awaits.{Awaits}
use Rattle.pair.proofs.StepAlike.{awaits-again, awaits-still}
use Rattle.pair.proofs.KeepAlive.{ping-allowed, pong-allowed, ping-received, pong-received}
use Rattle.std.specs.Prelude.{Ok, Err, ⊤, Result}
use Rattle.refusal.specs.declared.Refusal.TheVariants.{LinkClosed, NotOurTurn}
use Rattle.refusal.specs.declared.Refusal.{Refusal}

-- 8 bytes make a packet of 24, whole words on every link
pub size-24 : (l : Link) → size_of l 8 ≡ 24
unfolding size_of tail_of
size-24 l = go (pads_of l)
  where
    go : (b : Bool) → 24 + pick b 0 0 ≡ 24
    go true = refl
    go false = refl

-- a link whose turn to receive it is, is not closed
not_closed : (l : Link) → check_turn l ≡ Ok tt → l.closed ≡ false
unfolding check_turn
not_closed l e = go l.closed refl e
  where
    go : (b : Bool) → l.closed ≡ b → ◌≡◌ {A = Result ⊤ Refusal} (pick b (Err LinkClosed) (pick (not (may_send (not l.set.server) l.stage)) (Err NotOurTurn) (Ok tt))) (Ok tt) → b ≡ false
    go true q z = cc
    go false q z = refl

-- a send of 8 bytes on an open link, where nothing of its own is in the way
module _ (l : Link) (kind : ℕ) (busy : Bool) (body : List ℕ) (id : ℕ) (b : List ℕ) (n : length body ≡ 8) (turn : check_turn l ≡ Ok tt) (over : 4 ≤ l.stage)
    (may : allowed_of l kind ≡ true) (free : busy ≡ false) (room : 24 ≤ length b) where
  written : control_answer l kind busy (length body) (length b) ≡ Ok 24
  unfolding control_answer check_send may_send fits_of
  written = simp (n, size-24 l, not_closed l turn, le-leb 4 l.stage over, may, free, le-ltb (length b) 24 room)

  step_is : control_step l kind busy body id (length b) ≡ record { link = sent_of l kind id 24; answer = Ok 24 }
  unfolding control_step
  step_is = ap (step_by l kind id) written

  buffer-is : control_buffer l kind busy body b ≡ packet_of l kind body ++ drop (length (packet_of l kind body)) b
  unfolding control_buffer
  buffer-is =
      let p : length (packet_of l kind body) ≡ 24 = length-packet l kind body ∙ (ap (size_of l) n ∙ size-24 l) in
      ap (buffer_by l kind body b) written ∙ front-stored b (packet_of l kind body) (omega arith)

module _ (l k : Link) (there : Awaits k l) (back : Awaits l k) (over-l : 4 ≤ l.stage) (over-k : 4 ≤ k.stage) (number_l : l.sends < 2 ^ 32) (number_k : k.sends < 2 ^ 32)
    (id : ℕ) (fits : id < 2 ^ 64) (rest : l.awaits ≡ false) (free : k.owes ≡ false) (b1 b2 : List ℕ) (room1 : 24 ≤ length b1) (room2 : 24 ≤ length b2) (m1 m2 : Moment) where
  abbrev l1 : Link
  l1 = sent_of l 0x5730a2df id 24

  abbrev k1 : Link
  k1 = after_of k 0x5730a2df (bytes 8 id) m1

  abbrev k2 : Link
  k2 = sent_of k1 0x8430eaa7 0 24

  abbrev l2 : Link
  l2 = after_of l1 0x8430eaa7 (bytes 8 k1.owed) m2

  eight : (x : ℕ) → length (bytes 8 x) ≡ 8
  eight x = length-bytes 8 x

  stay : (s : ℕ) → 4 ≤ s → 4 ≤ stage_after s
  unfolding stage_after
  stay s h = rw (le-ltb s 4 h) h

  -- the Ping is written
  pub ping-written : ping_step l id (length b1) ≡ record { link = l1; answer = Ok 24 }
  unfolding ping_step
  ping-written = step_is l 0x5730a2df l.awaits (bytes 8 id) id b1 (eight id) back.turn over-l (ping-allowed l over-l) rest room1

  -- and received
  pub ping-heard : receive_of k (ping_buffer l id b1) m1 ≡ gives k1 (Ok (Packet 0x5730a2df 24 12 8))
  unfolding ping_buffer
  ping-heard =
      ap (λ (s : List ℕ). receive_of k s m1) (buffer-is l 0x5730a2df l.awaits (bytes 8 id) id b1 (eight id) back.turn over-l (ping-allowed l over-l) rest room1)
      ∙ ((ping-received k l there over-k number_l (drop (length (packet_of l 0x5730a2df (bytes 8 id))) b1) m1 id fits free).0
      ∙ ap (λ (n : ℕ). gives k1 (Ok (Packet 0x5730a2df (size_of l n) 12 n))) (eight id)
      ∙ ap (λ (n : ℕ). gives k1 (Ok (Packet 0x5730a2df n 12 8))) (size-24 l))

  owes : k1.owes ≡ true
  unfolding after_of owes_after
  owes = refl

  owed : k1.owed ≡ id
  owed = (ping-received k l there over-k number_l b1 m1 id fits free).1.1

  there1 : Awaits k1 l1
  there1 = awaits-again k l over-k over-l 0x5730a2df id 24 (bytes 8 id) m1 (ping-allowed k over-k) there

  back1 : Awaits l1 k1
  back1 = awaits-still k l over-k over-l 0x5730a2df id 24 (bytes 8 id) m1 (ping-allowed k over-k) back

  over-l1 : 4 ≤ l1.stage
  unfolding sent_of
  over-l1 = stay l.stage over-l

  over-k1 : 4 ≤ k1.stage
  unfolding after_of
  over-k1 = stay k.stage over-k

  number-k1 : k1.sends < 2 ^ 32
  unfolding after_of
  number-k1 = number_k

  -- the Pong is written
  pub pong-written : pong_step k1 (length b2) ≡ record { link = k2; answer = Ok 24 }
  unfolding pong_step
  pong-written = step_is k1 0x8430eaa7 (not k1.owes) (bytes 8 k1.owed) 0 b2 (eight k1.owed) there1.turn over-k1 (pong-allowed k1 over-k1) (ap not owes) room2

  waits : l1.awaits ≡ true
  unfolding sent_of awaits_sent
  waits = refl

  awaited : l1.awaited ≡ k1.owed
  unfolding sent_of awaited_sent
  awaited = sym owed

  -- and received
  pub pong-heard : receive_of l1 (pong_buffer k1 b2) m2 ≡ gives l2 (Ok (Packet 0x8430eaa7 24 12 8))
  unfolding pong_buffer
  pong-heard =
      ap (λ (s : List ℕ). receive_of l1 s m2)
      (buffer-is k1 0x8430eaa7 (not k1.owes) (bytes 8 k1.owed) 0 b2 (eight k1.owed) there1.turn over-k1 (pong-allowed k1 over-k1) (ap not owes) room2)
      ∙ ((pong-received l1 k1 back1 over-l1 number-k1 (drop (length (packet_of k1 0x8430eaa7 (bytes 8 k1.owed))) b2) m2 (rw owed fits) waits awaited).0
      ∙ ap (λ (n : ℕ). gives l2 (Ok (Packet 0x8430eaa7 (size_of k1 n) 12 n))) (eight k1.owed)
      ∙ ap (λ (n : ℕ). gives l2 (Ok (Packet 0x8430eaa7 n 12 8))) (size-24 k1))

  -- KEPT ALIVE: no Ping is unanswered and no Pong is owed, and each waits for the other's next packet
  pub at_rest : ((l2.awaits ≡ false) × (k2.owes ≡ false)) × (Awaits k2 l2 × Awaits l2 k2)
  unfolding after_of awaits_after sent_of owes_sent
  at_rest = (
    (refl, refl),
    (
      awaits-still l1 k1 over-l1 over-k1 0x8430eaa7 0 24 (bytes 8 k1.owed) m2 (pong-allowed l1 over-l1) there1,
      awaits-again l1 k1 over-l1 over-k1 0x8430eaa7 0 24 (bytes 8 k1.owed) m2 (pong-allowed l1 over-l1) back1,
    ),
  )
