-- No Nonce that a link writes has a version below its lowest. Assumes nothing.
use mathlib.Core.Path.{◌≡◌}
use mathlib.Core.List.{List}
use Prim.Native.Nat.{ℕ, ◌≤◌}
use lib.ListN.{length}
use Rattle.wire.specs.Bytes.{le, part}
use Rattle.link_state.specs.declared.Link.{Link}
use Rattle.link_state.specs.declared.Settings.{Settings}
use Rattle.link_state.specs.declared.Moment.{Moment}
use Rattle.link_state.specs.SetUp.{set_up_of}
use Rattle.link_state.proofs.SetUpLaws.{set-up-took}
use Rattle.nonce_out.specs.declared.Drawn.{Drawn}
use Rattle.send.specs.Send.{send_of, send_buffer}
use Rattle.send.specs.declared.ToSend.TheVariants.{Nonce}
use Rattle.link_calls.specs.Calls.{Call, after_calls}
use Rattle.link_versions.proofs.NoOlder.{holds-from-set-up}
use Rattle.link_versions.proofs.Writes.{version-written, due, reads-version}
use Rattle.std.specs.Prelude.{Ok, Option}

-- NO OLDER IS WRITTEN: a link that was set up, after any calls, leaves no Nonce in a buffer whose version, which is
-- byte 17, is below its lowest; at either side
pub writes-no-older : (set : Settings) (key : Option (List ℕ)) (l : Link) → set_up_of set key ≡ Ok l
    → (cs : List Call) (p b : List ℕ) (drawn : Drawn) (m : Moment) (n : ℕ)
    → (send_of (after_calls l cs) Nonce p drawn m (length b)).answer ≡ Ok n
    → set.lowest ≤ le (part (send_buffer (after_calls l cs) Nonce p drawn m b) 17 1)
writes-no-older set key l ready cs p b drawn m n e =
    let k : Link = after_calls l cs in
    rw (reads-version k p b drawn m n e)
    (version-written set k (holds-from-set-up set key l ready cs) (set-up-took set key l ready).1.0
    (due k p b drawn m n e))
