-- What a packet that was received or written says of the link before it: it came after the Nonces, or it was this
-- side's turn; and an accepted Nonce has no version below the lowest. Assumes nothing.
use borrow.Author.Tests.{ltb-false}
use native.Mathlib.Omega.{arith}
use mathlib.Core.Path.{◌≡◌, refl}
use mathlib.Core.Bool.{Bool, true, false, not}
use mathlib.Core.List.{List}
use Prim.Native.Nat.{ℕ, ◌≤◌}
use lib.ListN.{length}
use lib.Dec.{ltb, eqb}
use Rattle.wire.specs.Choice.{pick}
use Rattle.link_state.specs.declared.Link.{Link}
use Rattle.link_state.specs.declared.Moment.{Moment}
use Rattle.link_state.specs.Turn.{may_send}
use Rattle.packet.specs.Allowed.{allowed_of}
use Rattle.opening.specs.Clock.{near_of}
use Rattle.opening.specs.Nonce.{least_of, version_at, check_nonce}
use Rattle.send_rules.specs.Control.{check_send}
use Rattle.link_calls.proofs.Ways.{may-go}
use Rattle.std.specs.Prelude.{Err, Result, Ok, ⊤}
use Rattle.refusal.specs.declared.Refusal.{Refusal}
use Rattle.refusal.specs.declared.Refusal.TheVariants.{OpeningShort, Clocks, VersionTooOld}
use Rattle.std.specs.Result.{result_and}

-- ---- a Nonce that is not refused

module _ (l : Link) (b : List ℕ) (m : Moment) where
  pub not-older : check_nonce l b m ≡ Ok tt → l.set.lowest ≤ version_at b
  unfolding check_nonce
  not-older = go (ltb (length b) (least_of (version_at b))) (near_of b m) (ltb (version_at b) l.set.lowest) refl _
    where
      go : (short near old : Bool) → ltb (version_at b) l.set.lowest ≡ old
          → (rest : Result ⊤ Refusal) → ◌≡◌ {A = Result ⊤ Refusal} (pick short (Err OpeningShort) (pick (not near) (Err Clocks) (pick old (Err VersionTooOld) rest))) (Ok tt) → l.set.lowest ≤ version_at b
      go short near false q rest e = ltb-false (version_at b) l.set.lowest q
      go true near true q rest e = let z : ◌≡◌ {A = ℕ} 0 1 = cc in absurd (omega arith)
      go false true true q rest e = let z : ◌≡◌ {A = ℕ} 0 1 = cc in absurd (omega arith)
      go false false true q rest e = let z : ◌≡◌ {A = ℕ} 0 1 = cc in absurd (omega arith)

-- what is no Nonce comes after the two Nonces
pub past-nonces : (l : Link) (kind : ℕ) → allowed_of l kind ≡ true → eqb kind 0x7acb87aa ≡ false → 2 ≤ l.stage
unfolding allowed_of
past-nonces l kind may other = go (ltb l.stage 2) refl _ may
  where
    go : (x : Bool) → ltb l.stage 2 ≡ x → (rest : Bool) → pick x (eqb kind 0x7acb87aa) rest ≡ true → 2 ≤ l.stage
    go true q rest e = let z : ◌≡◌ {A = ℕ} 0 1 = cc in absurd (omega arith)
    go false q rest e = ltb-false l.stage 2 q

-- ---- a packet that is written

-- every send call's answer begins with this check
module _ (l : Link) (kind : ℕ) (busy : Bool) (x : Result ℕ Refusal) (n : ℕ)
    (e : result_and (check_send l kind busy) x ≡ Ok n) where
  passes : check_send l kind busy ≡ Ok tt
  passes = go (check_send l kind busy) e
    where
      go : (r : Result ⊤ Refusal) → result_and r x ≡ Ok n → r ≡ Ok tt
      go (Ok u) h = refl
      go (Err k) h = cc

  -- it was this side's turn
  pub at_turn : may_send l.set.server l.stage ≡ true
  at_turn = (may-go l kind busy passes).0
