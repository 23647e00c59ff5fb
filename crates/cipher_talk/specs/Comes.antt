-- A run of packets as the link that they come to takes them. Assumes nothing.
use Rattle.std.specs.Prelude.{◌≡◌, true, false, List, [], ◌∷◌, ◌++◌, ℕ, ◌+◌, ◌≤◌, ◌<◌, ◌^◌, length, get_or, Ok}
use Rattle.link_state.specs.declared.Link.{Link}
use Rattle.link_state.specs.declared.Moment.{Moment}
use Rattle.packet.specs.Allowed.{allowed_of}
use Rattle.packet_padding.specs.Padding.{words_allowed, fours_of}
use Rattle.packet_head.specs.Head.{check_length}
use Rattle.packet_out.specs.Packet.{packet_of}
use Rattle.link.specs.Look.{check_turn}
use Rattle.link_next.specs.Next.{after_of}
use Rattle.link.specs.Receive.{check_body}
use Rattle.pair.specs.Awaits.{Awaits}
use Rattle.pair_messages.specs.Hear.{side_of}
use Rattle.cipher_talk.specs.Drain.{Got, got_of, theirs}

-- l's next packet, of this type and with this body, is one that k waits for and takes, at any clock
pub record Fine (k l : Link) (kind : ℕ) (body : List ℕ) : Type 0 where
  pub awaited : Awaits k l
  pub long : check_length k (length body + 16) ≡ Ok tt
  pub allowed : allowed_of k kind ≡ true
  pub number : l.sends < 2 ^ 32
  pub short : length body + 16 < 2 ^ 32
  pub kind_fits : kind < 2 ^ 32
  pub bytes : (i : ℕ) → get_or body i 0 < 256
  pub taken : (m : Moment) → check_body k kind body m ≡ Ok tt

-- `Comes k s gs k2 t`: the bytes s are packets that k takes, one after the other, as gs; it is k2 after them, and the
-- bytes t are left. Before each packet stand up to as many words as k allows (what `after_of` is does not depend on the
-- clock m)
pub data Comes : Link → List ℕ → List Got → Link → List ℕ → Type 0 where
  -- words alone
  words : {k : Link} (w : ℕ) → w ≤ words_allowed k → check_turn k ≡ Ok tt → Comes k (fours_of w) [] k (fours_of w)
  -- any bytes, at k's turn
  ours : {k : Link} (s : List ℕ) → theirs k ≡ false → Comes k s [] k s
  -- a packet of some link l, and what follows it
  takes : {k l k2 : Link} {kind : ℕ} {body s t : List ℕ} {gs : List Got} (w : ℕ) (m : Moment) → w ≤ words_allowed k
      → Fine k l kind body → Comes (after_of k kind body m) s gs k2 t
      → Comes k (fours_of w ++ (packet_of l kind body ++ s)) (got_of (side_of k.set.server) kind body ∷ gs) k2 t
