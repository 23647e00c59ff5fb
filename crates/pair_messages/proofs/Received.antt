-- A message that a link sends is received by the link that waits for it. Assumes nothing.
use native.Mathlib.Omega.{arith}
use borrow.Author.Tests.{le-ltb}
use mathlib.Core.Path.{◌≡◌, refl, ap, sym, ◌∙◌}
use mathlib.Core.Bool.{Bool, true, false}
use mathlib.Core.List.{List, ◌++◌}
use Prim.Native.Nat.{ℕ, ◌+◌, ◌≤◌, ◌<◌, ◌^◌}
use lib.ListN.{length, drop}
use lib.Dec.{ltb, eqb, lit<}
use Rattle.wire.proofs.StoreLaws.{front-stored}
use Rattle.wire.proofs.ByteLaws.{Small}
use Rattle.link_state.specs.declared.Link.{Link}
use Rattle.link_state.specs.declared.Moment.{Moment}
use Rattle.packet.specs.Allowed.{allowed_of}
use Rattle.packet_head.specs.Head.{check_length}
use Rattle.packet.specs.Body as Body
use Rattle.packet.specs.declared.Arrival.TheVariants.{Packet}
use Rattle.packet_out.specs.Size.{size_of}
use Rattle.packet_out.specs.Packet.{packet_of}
use Rattle.packet_out.proofs.PacketLaws.{length-packet}
use Rattle.link_next.specs.Next.{after_of}
use Rattle.link.specs.Receive.{check_body, gives, receive_of}
use Rattle.send_rules.specs.Control.{buffer_by}
use Rattle.message_out.specs.Outgoing.{kind_of, body_of, wrong_way}
use Rattle.message_out.specs.MessageStep.{message_answer, message_buffer}
use Rattle.message_out.specs.declared.Outgoing.{Outgoing}
use Rattle.message_out.specs.declared.Outgoing.TheVariants.{Invoke, Cancel, ClientFin, Payload, Error, ServerFin, Unknown}
use Rattle.pair.specs.Awaits.{Awaits}
use Rattle.pair.proofs.RoundTrip.{received, reads-body}
use Rattle.pair_messages.proofs.Accepted.{Accepted, accepted}
use Rattle.pair_messages.proofs.SmallBodies.{small-body}
use Rattle.std.specs.Prelude.{Ok}

-- a type that no rule of the link itself speaks of
pub record Plain (kind : ℕ) : Type 0 where
  pub nonce : eqb kind 0x7acb87aa ≡ false
  pub handshake : eqb kind 0x7682eef5 ≡ false
  pub ping : eqb kind 0x5730a2df ≡ false
  pub pong : eqb kind 0x8430eaa7 ≡ false
  pub fits : kind < 2 ^ 32

plain : (server : Bool) (w : Outgoing) → wrong_way server w ≡ false → Plain (kind_of w)
unfolding kind_of wrong_way
plain server (Invoke n a t m) e = record { nonce = refl; handshake = refl; ping = refl; pong = refl; fits = lit< tt }
plain server (Cancel n) e = record { nonce = refl; handshake = refl; ping = refl; pong = refl; fits = lit< tt }
plain server ClientFin e = record { nonce = refl; handshake = refl; ping = refl; pong = refl; fits = lit< tt }
plain server (Payload n) e = record { nonce = refl; handshake = refl; ping = refl; pong = refl; fits = lit< tt }
plain server (Error n code) e = record { nonce = refl; handshake = refl; ping = refl; pong = refl; fits = lit< tt }
plain server ServerFin e = record { nonce = refl; handshake = refl; ping = refl; pong = refl; fits = lit< tt }
plain server (Unknown kind) e = let z : ◌≡◌ {A = ℕ} 0 1 = cc in absurd (omega arith)

module _ (k : Link) (over : 4 ≤ k.stage) where
  no-opening : ltb k.stage 4 ≡ false
  no-opening = le-ltb k.stage 4 over

  pub length-passes : (n : ℕ) → n ≤ 16777199 → check_length k (n + 16) ≡ Ok tt
  unfolding check_length
  length-passes n h = simp (no-opening, le-ltb (n + 16) 16 (omega arith), le-ltb 16777215 (n + 16) (omega arith))

  allowed : (kind : ℕ) → Plain kind → allowed_of k kind ≡ true
  unfolding allowed_of
  allowed kind pl = simp (no-opening, le-ltb k.stage 2 (omega arith), pl.nonce, pl.handshake)

pub no-refusal : (k : Link) (kind : ℕ) (body : List ℕ) (m : Moment) → Plain kind → check_body k kind body m ≡ Ok tt
unfolding check_body
no-refusal k kind body m pl = simp (pl.nonce, pl.handshake, pl.ping, pl.pong)

module _ (l k : Link) (w : Outgoing) (p b : List ℕ) (n : ℕ) (sent : message_answer l w p (length b) ≡ Ok n) where
  abbrev body : List ℕ
  body = body_of w p

  abbrev packet : List ℕ
  packet = packet_of l (kind_of w) body

  abbrev known : Accepted l w p (length b) n
  known = accepted l w p (length b) n sent

  pub sent-plain : Plain (kind_of w)
  sent-plain = plain l.set.server w known.way

  -- its type is allowed after the opening
  pub may-come : 4 ≤ k.stage → allowed_of k (kind_of w) ≡ true
  may-come over = allowed k over (kind_of w) sent-plain

  -- the whole buffer: the packet, and what stood behind it
  pub whole : message_buffer l w p b ≡ packet ++ drop (length packet) b
  unfolding message_buffer
  whole =
      let e : length packet ≡ size_of l (length body) = length-packet l (kind_of w) body in
      ap (buffer_by l (kind_of w) body b) sent ∙ front-stored b packet (omega (arith, known.fits))

  -- the body, as the second call hands it back
  pub body-handed : Body.body_of (message_buffer l w p b) (Ok (Packet (kind_of w) n 12 (length body))) ≡ body
  unfolding Body.body_of
  body-handed = rw whole (reads-body l (kind_of w) body (drop (length packet) b))

  -- MESSAGES ARE RECEIVED: the packet is handed over, and the link steps by it
  pub message-received : Awaits k l → 4 ≤ k.stage → l.sends < 2 ^ 32 → Small p → (m : Moment)
      → receive_of k (message_buffer l w p b) m ≡ gives (after_of k (kind_of w) body m) (Ok (Packet (kind_of w) n 12 (length body)))
  message-received a over number g m =
      ap (λ (s : List ℕ). receive_of k s m) whole
      ∙ (received l (kind_of w) body (drop (length packet) b) k a (length-passes k over (length body) known.short) (may-come over) number
      (omega (arith, known.short)) sent-plain.fits (small-body w p g) m (no-refusal k (kind_of w) body m sent-plain)
      ∙ ap (λ (x : ℕ). gives (after_of k (kind_of w) body m) (Ok (Packet (kind_of w) x 12 (length body)))) (sym known.size))
