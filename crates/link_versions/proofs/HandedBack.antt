-- What a second call hands back of a Nonce that was accepted, on the body that the receive call named: with its clock the
-- clock difference (the fields that a derivation needs: AcceptedNonce). Assumes nothing.
use mathlib.Core.Path.{◌≡◌, refl}
use mathlib.Core.Bool.{Bool, true, false, not}
use mathlib.Core.List.{List}
use Prim.Native.Nat.{ℕ}
use lib.ListN.{length}
use lib.Dec.{ltb}
use Rattle.wire.specs.Choice.{pick}
use Rattle.link_state.specs.declared.Link.{Link}
use Rattle.link_state.specs.declared.Moment.{Moment}
use Rattle.packet.specs.Body.{body_of}
use Rattle.packet.specs.declared.Arrival.TheVariants.{Packet}
use Rattle.opening.specs.Clock.{nonce_clock, near_of}
use Rattle.opening.specs.Nonce.{least_of, version_at, check_nonce}
use Rattle.link.specs.Receive.{receive_of}
use Rattle.link_versions.proofs.AcceptedNonce.{taken}
use Rattle.std.specs.Prelude.{Ok, ⊤, Result, Err, is_some}
use Rattle.refusal.specs.declared.Refusal.TheVariants.{OpeningShort, Clocks}
use Rattle.refusal.specs.declared.Refusal.{Refusal}

-- a Nonce that is not refused
not-far : (l : Link) (b : List ℕ) (m : Moment) → check_nonce l b m ≡ Ok tt → near_of b m ≡ true
unfolding check_nonce
not-far l b m = go (ltb (length b) (least_of (version_at b))) (near_of b m) _
  where
    go : (short near : Bool) (rest : Result ⊤ Refusal) → ◌≡◌ {A = Result ⊤ Refusal} (pick short (Err OpeningShort) (pick (not near) (Err Clocks) rest)) (Ok tt) → near ≡ true
    go short true rest e = refl
    go true false rest e = cc
    go false false rest e = cc

module _ (l : Link) (s : List ℕ) (m : Moment) (consumed at len : ℕ)
    (accepted : (receive_of l s m).answer ≡ Ok (Packet 0x7acb87aa consumed at len)) where
  -- the body that the receive call named
  abbrev named : List ℕ
  named = body_of s (receive_of l s m).answer

  -- AN ACCEPTED NONCE'S CLOCK DIFFERENCE IS HANDED BACK
  pub clock-handed-back : is_some (nonce_clock named m) ≡ true
  unfolding near_of
  clock-handed-back = not-far l named m (taken l s m consumed at len accepted)
