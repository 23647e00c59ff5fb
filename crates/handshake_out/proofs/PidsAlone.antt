-- The NetPIDs of a Handshake that was written read back with nothing behind it. Assumes nothing.
use mathlib.Core.Path.{◌≡◌, sym, ap, ◌∙◌}
use mathlib.Core.List.{[], append-nil}
use Prim.Native.Nat.{ℕ}
use Rattle.handshake_in.specs.declared.NetPid.{NetPid}
use Rattle.handshake_in.specs.Pids.{PidFits, pids_of}
use Rattle.handshake_out.specs.Handshake.{handshake_body}
use Rattle.handshake_out.proofs.PidsBack.{pids-back-rest}

module _ (flags : ℕ) (sender peer : NetPid) (fs : PidFits sender) (fp : PidFits peer) where
  pub pids-back : pids_of (handshake_body flags sender peer) ≡ record { sender = sender; peer = peer }
  pids-back =
      ap pids_of (sym (append-nil (handshake_body flags sender peer)))
      ∙ pids-back-rest flags sender peer fs fp []
