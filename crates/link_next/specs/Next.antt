-- The link after a packet, and after a refusal (document 01, "Packets", "Opening" and "Refusal numbers").
-- Assumes nothing.
use Rattle.std.specs.Prelude.{ℕ, ◌+◌, ◌%◌, ◌^◌, Bool, true, ◌&&◌, List, [], ◌∷◌, ◌==◌, nat_le}
use Rattle.wire.specs.Choice.{pick, first}
use Rattle.link_state.specs.declared.Link.{Link}
use Rattle.link_state.specs.declared.Moment.{Moment}
use Rattle.link_state.specs.Turn.{stage_after}
use Rattle.link_cipher.specs.Chosen.{encryption_at, chosen_of}
use Rattle.opening.specs.Nonce.{version_at}
use Rattle.handshake_in.specs.Handshake.{flag_of}
use Rattle.refusal.specs.declared.Refusal.{Refusal}
use Rattle.refusal.specs.Numbers.{number}
use Rattle.link_next.specs.KeepAlive.{awaits_after, owes_after, owed_after}

-- a link, closed
unfoldable pub closed_of : Link → Link
closed_of l =
    record {
      set = l.set;
      closed = true;
      crc32c = l.crc32c;
      version = l.version;
      stage = l.stage;
      phase = l.phase;
      awaits = l.awaits;
      owes = l.owes;
      ciphered = l.ciphered;
      keyid = l.keyid;
      sends = l.sends;
      gets = l.gets;
      awaited = l.awaited;
      owed = l.owed;
    }

-- "On receive, 1 to 10, 21, and 17 for Ping and Pong close the link; nothing else does" (receive gives 17 for no other);
-- 24, 25 and 26 close it too (document 02, A11 and A7)
unfoldable pub closes_of : Refusal → Bool
closes_of r =
    first (
    ((number r == 17), true) ∷
    ((number r == 21), true) ∷
    ((number r == 24), true) ∷
    ((number r == 25), true) ∷
    ((number r == 26), true) ∷
    []
    ) (nat_le 1 (number r) && nat_le (number r) 10)

-- the link after a refusal
unfoldable pub refused_of : Link → Refusal → Link
refused_of l r = pick (closes_of r) (closed_of l) l

-- "the server sets it if the client did and its own setting allows. If the server set it, both ends use CRC-32C"
unfoldable pub agreed_after : Link → ℕ → List ℕ → Bool
agreed_after l kind b = pick (kind == 0x7682eef5) (l.set.allows && flag_of b) l.crc32c

-- the version in the other side's Nonce: "a server writes the smaller of the client's and 2"
unfoldable pub version_after : Link → ℕ → List ℕ → ℕ
version_after l kind b = pick (kind == 0x7acb87aa) (version_at b) l.version

-- whether the cipher is chosen: the other side's Nonce decides (document 02, A9)
unfoldable pub ciphered_after : Link → ℕ → List ℕ → Bool
ciphered_after l kind b = pick (kind == 0x7acb87aa) (chosen_of l.set (encryption_at b)) l.ciphered

-- the link after a packet of a type with a body: "each next is one more, and after 4,294,967,295 comes 0 again"
unfoldable pub after_of : Link → ℕ → List ℕ → Moment → Link
after_of l kind b m =
    record {
      set = l.set;
      closed = l.closed;
      crc32c = agreed_after l kind b;
      version = version_after l kind b;
      stage = stage_after l.stage;
      phase = l.phase;
      awaits = awaits_after l kind;
      owes = owes_after l kind;
      ciphered = ciphered_after l kind b;
      keyid = l.keyid;
      sends = l.sends;
      gets = (l.gets + 1) % 2 ^ 32;
      awaited = l.awaited;
      owed = owed_after l kind b;
    }
