-- What is sent behind a flush is received. Assumes nothing.
use mathlib.Core.Path.{◌≡◌}
use mathlib.Core.Bool.{true}
use mathlib.Core.List.{List, ◌++◌}
use Prim.Native.Nat.{ℕ, ◌+◌, ◌≤◌, ◌<◌, ◌^◌}
use lib.ListN.{length, take}
use Rattle.wire.proofs.ByteLaws.{Small}
use Rattle.link_state.specs.declared.Link.{Link}
use Rattle.link_state.specs.declared.Moment.{Moment}
use Rattle.packet.specs.Allowed.{allowed_of}
use Rattle.packet_padding.specs.Padding.{padded_of}
use Rattle.packet.specs.declared.Arrival.TheVariants.{Packet}
use Rattle.packet_head.specs.Head.{check_length}
use Rattle.packet_out.specs.Size.{size_of}
use Rattle.packet_out.specs.Packet.{packet_of}
use Rattle.link_next.specs.Next.{after_of}
use Rattle.link.specs.Receive.{check_body, gives, receive_of}
use Rattle.flush.specs.Flush.{words_due, flush_step, flush_buffer}
use Rattle.pair.specs.Awaits.{Awaits}
use Rattle.pair.proofs.RoundTrip.{received-behind}
use Rattle.link_padding.proofs.Counts.{flush-size}
use Rattle.link_padding.proofs.Flushed.{due-allowed, words_are}
use Rattle.std.specs.Prelude.{Ok}

-- a flush that l accepted, into the buffer b
module _ (l : Link) (b : List ℕ) (n : ℕ) (flushed : (flush_step l (length b)).answer ≡ Ok n) where
  -- SENT BEHIND A FLUSH: the words of a flush and the packet that goes out next, by the link l2 that l has become
  -- (which received something in between, or not), are received as that packet, whatever bytes follow, by a link of
  -- the same profile whose opening is over and that waits for it
  pub flushed-received : (k l2 : Link) → Awaits k l2 → 4 ≤ k.stage → padded_of k ≡ padded_of l
      → (kind : ℕ) (body rest : List ℕ) → check_length k (length body + 16) ≡ Ok tt → allowed_of k kind ≡ true
      → l2.sends < 2 ^ 32 → length body + 16 < 2 ^ 32 → kind < 2 ^ 32 → Small body → (m : Moment)
      → check_body k kind body m ≡ Ok tt
      → receive_of k (take n (flush_buffer l b) ++ (packet_of l2 kind body ++ rest)) m
      ≡ gives (after_of k kind body m) (Ok (Packet kind (n + size_of l2 (length body)) (n + 12) (length body)))
  flushed-received k l2 a over same kind body rest len may number small kind_fits g m ok =
      rw (words_are l b n flushed, flush-size l (length b) n flushed)
      (received-behind l2 kind body rest k a len may number small kind_fits g (words_due l) (due-allowed k l over same)
      m ok)
