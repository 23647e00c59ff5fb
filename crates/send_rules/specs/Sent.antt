-- The link after it sent a packet (document 01, "Packets" and "Opening"). Assumes nothing.
use Rattle.std.specs.Prelude.{ℕ, ◌+◌, ◌%◌, ◌^◌, Bool, true, false, ◌==◌}
use Rattle.wire.specs.Choice.{pick}
use Rattle.link_state.specs.declared.Link.{Link}
use Rattle.link_state.specs.Turn.{stage_after}
use Rattle.packet_padding.specs.Padding.{phase_after}

-- "One Ping of ours may be unanswered": a Ping is, until its Pong comes
unfoldable pub awaits_sent : Link → ℕ → Bool
awaits_sent l kind = pick (kind == 0x5730a2df) true l.awaits

-- "A Pong must bear its ID": a Ping's ID is kept
unfoldable pub awaited_sent : Link → ℕ → ℕ → ℕ
awaited_sent l kind id = pick (kind == 0x5730a2df) id l.awaited

-- a Pong of ours answers their Ping
unfoldable pub owes_sent : Link → ℕ → Bool
owes_sent l kind = pick (kind == 0x8430eaa7) false l.owes

-- the link after it sent a packet of a type, which takes n bytes with its zeros; id is a Ping's: "each next is one
-- more, and after 4,294,967,295 comes 0"
unfoldable pub sent_of : Link → ℕ → ℕ → ℕ → Link
sent_of l kind id n =
    record {
      set = l.set;
      closed = l.closed;
      crc32c = l.crc32c;
      version = l.version;
      stage = stage_after l.stage;
      phase = phase_after l n;
      awaits = awaits_sent l kind;
      owes = owes_sent l kind;
      ciphered = l.ciphered;
      keyid = l.keyid;
      sends = (l.sends + 1) % 2 ^ 32;
      gets = l.gets;
      awaited = awaited_sent l kind id;
      owed = l.owed;
    }
