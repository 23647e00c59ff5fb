-- A Ping that one link sends is received by the other, and the Pong that answers it by the first. Assumes nothing.
use borrow.Author.Tests.{le-ltb, eq-eqb}
use native.Mathlib.Omega.{arith}
use mathlib.Core.Path.{◌≡◌, refl, ap, ◌∙◌}
use mathlib.Core.Bool.{true, false}
use mathlib.Core.List.{List, ◌++◌}
use Prim.Native.Nat.{ℕ, ◌+◌, ◌≤◌, ◌<◌, ◌^◌}
use lib.ListN.{length}
use lib.Seq.{take_all}
use lib.Dec.{ltb, lit<}
use Rattle.wire.specs.Bytes.{le, part, bytes}
use Rattle.wire.proofs.ByteLaws.{length-bytes, le_bytes}
use Rattle.link_state.specs.declared.Link.{Link}
use Rattle.link_state.specs.declared.Moment.{Moment}
use Rattle.packet.specs.Allowed.{allowed_of}
use Rattle.packet_head.specs.Head.{check_length}
use Rattle.packet.specs.declared.Arrival.TheVariants.{Packet}
use Rattle.packet_out.specs.Size.{size_of}
use Rattle.packet_out.specs.Packet.{packet_of}
use Rattle.link_next.specs.KeepAlive.{check_ping, check_pong, awaits_after, owes_after, owed_after}
use Rattle.link_next.specs.Next.{after_of}
use Rattle.link.specs.Receive.{check_body, gives, receive_of}
use Rattle.pair.specs.Awaits.{Awaits}
use Rattle.pair.proofs.SumLaws.{small_bytes}
use Rattle.pair.proofs.RoundTrip.{received}
use Rattle.std.specs.Prelude.{Ok}

-- an ID, as the peer reads it
pub id-read : (id : ℕ) → id < 2 ^ 64 → le (part (bytes 8 id) 0 8) ≡ id
id-read id h =
    let n : length (bytes 8 id) ≡ 8 = length-bytes 8 id in
    ap le (take_all 8 (bytes 8 id) (omega arith)) ∙ le_bytes 8 id h

module _ (k : Link) (over : 4 ≤ k.stage) where
  no-opening : ltb k.stage 4 ≡ false
  no-opening = le-ltb k.stage 4 over

  before : ltb k.stage 2 ≡ false
  before = le-ltb k.stage 2 (omega arith)

  -- 24 bytes pass after the opening
  pub length-24 : (id : ℕ) → check_length k (length (bytes 8 id) + 16) ≡ Ok tt
  unfolding check_length
  length-24 id = simp (length-bytes, no-opening)

  pub ping-allowed : allowed_of k 0x5730a2df ≡ true
  unfolding allowed_of
  ping-allowed = simp (before, no-opening)

  pub pong-allowed : allowed_of k 0x8430eaa7 ≡ true
  unfolding allowed_of
  pong-allowed = simp (before, no-opening)

module _ (k l : Link) (a : Awaits k l) (over : 4 ≤ k.stage) (number : l.sends < 2 ^ 32) (rest : List ℕ) (m : Moment) where
  -- a Ping that is the first unanswered one is received, and its ID is owed
  pub ping-received : (id : ℕ) → id < 2 ^ 64 → k.owes ≡ false
      → (receive_of k (packet_of l 0x5730a2df (bytes 8 id) ++ rest) m ≡ gives (after_of k 0x5730a2df (bytes 8 id) m) (Ok (Packet 0x5730a2df (size_of l (length (bytes 8 id))) 12 (length (bytes 8 id)))))
      × (((after_of k 0x5730a2df (bytes 8 id) m).owes ≡ true) × ((after_of k 0x5730a2df (bytes 8 id) m).owed ≡ id))
  unfolding check_body check_ping after_of owes_after owed_after
  ping-received id fits free =
      let n : length (bytes 8 id) ≡ 8 = length-bytes 8 id in (
        received l 0x5730a2df (bytes 8 id) rest k a (length-24 k over id) (ping-allowed k over) number (omega arith) (lit< tt) (small_bytes 8 id) m (simp (n, free)),
        (refl, id-read id fits),
      )

  -- the Pong that answers our Ping is received, and none is awaited any more
  pub pong-received : l.owed < 2 ^ 64 → k.awaits ≡ true → k.awaited ≡ l.owed
      → (receive_of k (packet_of l 0x8430eaa7 (bytes 8 l.owed) ++ rest) m
      ≡ gives (after_of k 0x8430eaa7 (bytes 8 l.owed) m) (Ok (Packet 0x8430eaa7 (size_of l (length (bytes 8 l.owed))) 12 (length (bytes 8 l.owed)))))
      × ((after_of k 0x8430eaa7 (bytes 8 l.owed) m).awaits ≡ false)
  unfolding check_body check_pong after_of awaits_after
  pong-received fits waits same =
      let n : length (bytes 8 l.owed) ≡ 8 = length-bytes 8 l.owed in (
        received l 0x8430eaa7 (bytes 8 l.owed) rest k a (length-24 k over l.owed) (pong-allowed k over) number (omega arith) (lit< tt) (small_bytes 8 l.owed) m
            (simp (n, waits, id-read l.owed fits, same, eq-eqb l.owed l.owed refl)),
        refl,
      )
