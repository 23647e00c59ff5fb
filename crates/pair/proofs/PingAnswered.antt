-- A Ping of a link that awaits no Pong, and the Pong that answers it: both are sent and received, and the two links are alive
-- after it. Assumes nothing.
use mathlib.Core.Path.{◌≡◌, refl, ap, sym, ◌∙◌}
use mathlib.Core.Bool.{false}
use mathlib.Core.List.{List, [], ◌∷◌}
use Prim.Native.Nat.{ℕ, ◌≤◌, ◌<◌, ◌^◌}
use lib.ListN.{length}
use Rattle.wire.specs.Bytes.{bytes}
use Rattle.link_state.specs.declared.Link.{Link}
use Rattle.link_state.specs.declared.Moment.{Moment}
use Rattle.packet.specs.declared.Arrival.TheVariants.{Packet}
use Rattle.link_next.specs.KeepAlive.{awaits_after}
use Rattle.link_next.specs.Next.{after_of}
use Rattle.send_rules.specs.Sent.{owes_sent, sent_of}
use Rattle.send_rules.specs.Control.{control_step}
use Rattle.send_rules.specs.declared.Step.{Step}
use Rattle.send_rules.proofs.ControlLaws.{step-answer}
use Rattle.keep_alive_out.specs.KeepAlive.{ping_step, pong_step}
use Rattle.pair.specs.KeepAlive.{exchange_of, KeptAlive, Alive}
use Rattle.pair.proofs.KeptAlive.{ping-written, ping-heard, pong-written, pong-heard}
use Rattle.pair.proofs.InTurn.{alive-after-ping, alive-after-pong, flipped}
use Rattle.std.specs.Prelude.{Ok}

module _ (l k : Link) (a : Alive l k) (id : ℕ) (fits : id < 2 ^ 64) (rest : l.awaits ≡ false)
    (b1 b2 : List ℕ) (room1 : 24 ≤ length b1) (room2 : 24 ≤ length b2) (m1 m2 : Moment) where
  abbrev l1 : Link
  l1 = sent_of l 0x5730a2df id 24

  abbrev k1 : Link
  k1 = after_of k 0x5730a2df (bytes 8 id) m1

  free : k.owes ≡ false
  free = a.owing_k.turn ∙ rest

  sent1 : ping_step l id (length b1) ≡ record { link = l1; answer = Ok 24 }
  sent1 = ping-written l k a.there a.back a.open_l a.open_k a.number_l a.number_k id fits rest free b1 b2 room1 room2 m1 m2

  sent2 : pong_step k1 (length b2) ≡ record { link = sent_of k1 0x8430eaa7 0 24; answer = Ok 24 }
  sent2 = pong-written l k a.there a.back a.open_l a.open_k a.number_l a.number_k id fits rest free b1 b2 room1 room2 m1 m2

  whole : exchange_of l k id b1 b2 m1 m2
      ≡ record {
        pinger = after_of l1 0x8430eaa7 (bytes 8 k1.owed) m2;
        ponger = sent_of k1 0x8430eaa7 0 24;
        sent = Ok 24 ∷ Ok 24 ∷ [];
        received = Ok (Packet 0x5730a2df 24 12 8) ∷ Ok (Packet 0x8430eaa7 24 12 8) ∷ [];
      }
  unfolding exchange_of
  whole =
      rw (
        sent1,
        ping-heard l k a.there a.back a.open_l a.open_k a.number_l a.number_k id fits rest free b1 b2 room1 room2 m1 m2,
        sent2,
        pong-heard l k a.there a.back a.open_l a.open_k a.number_l a.number_k id fits rest free b1 b2 room1 room2 m1 m2,
      )

  alive1 : Alive l1 k1
  unfolding ping_step control_step
  alive1 = alive-after-ping l k a m1 id fits b1 24 (sym (step-answer l 0x5730a2df id _) ∙ ap (λ (x : Step). x.answer) sent1)

  alive2 : Alive (sent_of k1 0x8430eaa7 0 24) (after_of l1 0x8430eaa7 (bytes 8 k1.owed) m2)
  unfolding pong_step control_step
  alive2 = alive-after-pong k1 l1 (flipped l1 k1 alive1) m2 b2 24 (sym (step-answer k1 0x8430eaa7 0 _) ∙ ap (λ (x : Step). x.answer) sent2)

  -- KEPT ALIVE: a Ping of a link that awaits no Pong, and the Pong that answers it
  pub kept-alive : KeptAlive (exchange_of l k id b1 b2 m1 m2)
  unfolding after_of awaits_after sent_of owes_sent
  kept-alive =
      rw whole
      (record {
        written = refl;
        arrived = refl;
        answered = refl;
        settled = refl;
        alive = flipped (sent_of k1 0x8430eaa7 0 24) (after_of l1 0x8430eaa7 (bytes 8 k1.owed) m2) alive2;
      })
