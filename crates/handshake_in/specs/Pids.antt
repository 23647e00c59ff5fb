-- The NetPIDs of a Handshake (document 01, "Opening": "flags 4, sender and peer NetPID (IP 4, port 2, pid 2, start time
-- 4 each)"). A byte that the body does not have counts as 0. Assumes nothing.
use Rattle.std.specs.Prelude.{ℕ, ◌+◌, ◌<◌, ◌^◌, List}
use Rattle.wire.specs.Bytes.{le, part}
use Rattle.handshake_in.specs.declared.NetPid.{NetPid}
use Rattle.handshake_in.specs.declared.NetPids.{NetPids}

-- "IP 4, port 2, pid 2, start time 4", from `at` on
unfoldable pub pid_at : List ℕ → ℕ → NetPid
pid_at b at =
    record {
      ip = le (part b at 4);
      port = le (part b (at + 4) 2);
      pid = le (part b (at + 6) 2);
      start = le (part b (at + 8) 4);
    }

-- "sender and peer NetPID", behind the flags
unfoldable pub pids_of : List ℕ → NetPids
pids_of b = record { sender = pid_at b 4; peer = pid_at b 16 }

-- a NetPID as its bytes hold it: each field fits its width
pub record PidFits (p : NetPid) : Type 0 where
  pub ip_fits : p.ip < 2 ^ 32
  pub port_fits : p.port < 2 ^ 16
  pub pid_fits : p.pid < 2 ^ 16
  pub start_fits : p.start < 2 ^ 32
