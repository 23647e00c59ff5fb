-- Links that are not padded read, and write, as before. Assumes nothing.
use mathlib.Core.Path.{◌≡◌, refl, ap}
use mathlib.Core.Bool.{Bool, true, false, ◌&&◌}
use mathlib.Core.List.{List, append-nil}
use Prim.Native.Nat.{ℕ, ◌+◌}
use native.Mathlib.Nat.{add-zero, zero-add}
use lib.ListN.{length}
use lib.Dec.{leb}
use Rattle.wire.specs.Bytes.{le, bytes}
use Rattle.link_state.specs.declared.Link.{Link}
use Rattle.link_state.specs.declared.Moment.{Moment}
use Rattle.packet_padding.specs.Padding.{padded_of, pads_of, tail_of, words_allowed}
use Rattle.packet.specs.Sum.{sum_of}
use Rattle.packet.specs.declared.Arrival.{Arrival}
use Rattle.packet_head.specs.Words.{words_of}
use Rattle.packet_in.specs.Frame.{length_at, kind_at, whole_of, rows_of, frame_of}
use Rattle.packet_out.specs.Size.{size_of}
use Rattle.packet_out.specs.Packet.{front_of, packet_of}
use Rattle.link.specs.Look.{check_turn, look_of}
use Rattle.link.specs.Receive.{receive_by, receive_of}
use Rattle.link_padding.specs.Before.{whole_before, frame_before, receive_before, size_before, packet_before}
use Rattle.std.specs.Prelude.{Result}
use Rattle.refusal.specs.declared.Refusal.{Refusal}
use Rattle.std.specs.Result.{result_and}

module _ (l : Link) (plain : padded_of l ≡ false) where
  off : (b : Bool) → (b && padded_of l) ≡ false
  off true = plain
  off false = refl

  no-tail : (len : ℕ) → tail_of l len ≡ 0
  unfolding tail_of pads_of
  no-tail len = rw (off (leb 2 l.stage))

  none_allowed : words_allowed l ≡ 0
  unfolding words_allowed
  none_allowed = rw (off (leb 4 l.stage))

  no_words : (s : List ℕ) → words_of l s ≡ 0
  unfolding words_of
  no_words s = rw none_allowed

  whole_of-before : (s : List ℕ) (kind size : ℕ) → whole_of l s kind size 0 0 ≡ whole_before l s kind size
  unfolding whole_of whole_before le
  whole_of-before s kind size = rw (zero-add, add-zero)

  rows_before : (s : List ℕ) → rows_of l s 0 ≡ frame_before l s
  unfolding rows_of frame_before
  rows_before s = rw (no-tail (length_at s), add-zero (length_at s), whole_of-before s (kind_at s) (length_at s))

  frame-before : (s : List ℕ) → frame_of l s ≡ frame_before l s
  unfolding frame_of
  frame-before s = rw (no_words s) (rows_before s)

  -- AS BEFORE: what a receive call answers, and the link after it
  pub as_before : (s : List ℕ) (m : Moment) → receive_of l s m ≡ receive_before l s m
  unfolding receive_of receive_before look_of
  as_before s m =
      ap (λ (a : Result Arrival Refusal). receive_by l s m (result_and (check_turn l) a)) (frame-before s)

  -- and what a packet is that is sent, and its size
  pub size-before : (len : ℕ) → size_of l len ≡ size_before len
  unfolding size_of size_before
  size-before len = rw (no-tail (len + 16), add-zero (len + 16))

  pub packet-before : (kind : ℕ) (body : List ℕ) → packet_of l kind body ≡ packet_before l kind body
  unfolding packet_of packet_before
  packet-before kind body = rw (no-tail (length body + 16), append-nil (bytes 4 (sum_of l (front_of l kind body))))
