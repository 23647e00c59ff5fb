-- When a driver makes a receive call: after the opening, whenever it has bytes. Assumes nothing.
use borrow.Author.Tests.{le-leb}
use mathlib.Core.Path.{◌≡◌, refl, ap}
use mathlib.Core.Bool.{Bool, true, false}
use mathlib.Core.List.{List}
use Prim.Native.Nat.{ℕ, zero, suc, ◌≤◌}
use Rattle.wire.specs.Choice.{pick}
use Rattle.wire.specs.Bytes.{within}
use Rattle.link_state.specs.declared.Link.{Link}
use Rattle.link_state.specs.declared.Moment.{Moment}
use Rattle.link_state.specs.Turn.{may_send}
use Rattle.packet.specs.declared.Arrival.{Arrival}
use Rattle.packet.specs.declared.Arrival.TheVariants.{Incomplete, Packet}
use Rattle.link.specs.Look.{check_turn, look_of}
use Rattle.link_next.specs.Next.{closes_of, closed_of, refused_of, after_of}
use Rattle.link.specs.Receive.{check_body, refuse, packet_by, receive_by, receive_of}
use Rattle.pair.proofs.StepAlike.{stays}
use Rattle.pair_messages.specs.Hear.{side_of}
use Rattle.cipher_talk.specs.Drain.{ahead, drain_on, theirs, drained, calls_of}
use Rattle.std.specs.Prelude.{Err, Result, Ok, ⊤}
use Rattle.refusal.specs.declared.Refusal.{Refusal}
use Rattle.refusal.specs.declared.Refusal.TheVariants.{NotOurTurn}

-- at its own turn a call is refused with 22, whatever the bytes
pub own_turn : (l : Link) (s : List ℕ) (m : Moment) → l.closed ≡ false → theirs l ≡ false
    → receive_of l s m ≡ refuse l NotOurTurn
unfolding receive_of look_of check_turn
own_turn l s m c e = rw (c, e)

-- a link that is open stays open
still_open : (l : Link) (s : List ℕ) (m : Moment) → 4 ≤ l.stage → 4 ≤ (receive_of l s m).link.stage
unfolding receive_of refused_of closed_of after_of
still_open l s m h = go (look_of l s)
  where
    refused : (b : Bool) → 4 ≤ (pick b (closed_of l) l).stage
    refused true = h
    refused false = h

    go : (a : Result Arrival Refusal) → 4 ≤ (receive_by l s m a).link.stage
    go (Ok (Incomplete k)) = h
    go (Err k) = refused (closes_of k)
    go (Ok (Packet kind used at len)) =
        by (check_body l kind (within s at len) m)
      where
        by : (r : Result ⊤ Refusal)
            → 4 ≤ (packet_by l (after_of l kind (within s at len) m) (Packet kind used at len) r).link.stage
        by (Err r) = refused (closes_of r)
        by (Ok u) = rw (stays l.stage h) h

-- OPEN LINKS: there the turn is never looked at
pub open-drains : (n : ℕ) (l : Link) (s : List ℕ) (m : Moment) → 4 ≤ l.stage → drained n l s m ≡ calls_of n l s m
unfolding drained calls_of may_send
open-drains zero l s m h = refl
open-drains (suc n) l s m h =
    rw (le-leb 4 l.stage h)
    (go (receive_of l s m).link (still_open l s m h) (receive_of l s m).answer (λ k t j. open-drains n k t m j))
  where
    go : (k : Link) → 4 ≤ k.stage → (a : Result Arrival Refusal)
        → ((k2 : Link) (t : List ℕ) → 4 ≤ k2.stage → drained n k2 t m ≡ calls_of n k2 t m)
        → drain_on (λ (k2 : Link) (t : List ℕ). drained n k2 t m) (side_of l.set.server) s k a
        ≡ drain_on (λ (k2 : Link) (t : List ℕ). calls_of n k2 t m) (side_of l.set.server) s k a
    go k j (Ok (Incomplete r)) ih = refl
    go k j (Ok (Packet kind used at len)) ih = ap (ahead _) (ih k _ j)
    go k j (Err r) ih = refl
