-- Our Handshake (document 01, "Opening": "flags 4, sender and peer NetPID (IP 4, port 2, pid 2, start time 4 each) .. we
-- write 28, the NetPIDs as the caller gives them"). Assumes nothing.
use Rattle.std.specs.Prelude.{ℕ, false, List, ◌++◌}
use Rattle.wire.specs.Bytes.{bytes}
use Rattle.wire.specs.Choice.{pick}
use Rattle.link_state.specs.declared.Link.{Link}
use Rattle.send_rules.specs.Control.{control_step, control_buffer}
use Rattle.send_rules.specs.declared.Step.{Step}
use Rattle.handshake_in.specs.declared.NetPid.{NetPid}

-- "Flag 0x800 offers CRC-32C; the server sets it if the client did and its own setting allows", which is kept as agreed;
-- "Other flag bits are .. written as 0"
unfoldable pub flags_of : Link → ℕ
flags_of l = pick (pick l.set.server l.crc32c l.set.allows) 0x800 0

-- "IP 4, port 2, pid 2, start time 4"
unfoldable pub pid_bytes : NetPid → List ℕ
pid_bytes p = bytes 4 p.ip ++ (bytes 2 p.port ++ (bytes 2 p.pid ++ bytes 4 p.start))

-- the whole body
unfoldable pub handshake_body : ℕ → NetPid → NetPid → List ℕ
handshake_body flags sender peer = bytes 4 flags ++ (pid_bytes sender ++ pid_bytes peer)

-- a send call
unfoldable pub handshake_step : Link → NetPid → NetPid → ℕ → Step
handshake_step l sender peer room = control_step l 0x7682eef5 false (handshake_body (flags_of l) sender peer) 0 room

-- and the buffer after it
unfoldable pub handshake_buffer : Link → NetPid → NetPid → List ℕ → List ℕ
handshake_buffer l sender peer b = control_buffer l 0x7682eef5 false (handshake_body (flags_of l) sender peer) b
