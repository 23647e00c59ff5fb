-- A link that is cipher only allows nothing but Nonces before it is ciphered, whatever bytes the other side sends and
-- whatever calls are made. Assumes nothing.
use native.Mathlib.Omega.{arith}
use mathlib.Core.Path.{◌≡◌}
use mathlib.Core.Bool.{true, false}
use mathlib.Core.List.{List}
use Prim.Native.Nat.{ℕ}
use lib.Dec.{eqb}
use Rattle.link_state.specs.declared.Link.{Link}
use Rattle.link_state.specs.declared.Settings.{Settings}
use Rattle.link_state.specs.SetUp.{set_up_of}
use Rattle.packet.specs.Allowed.{allowed_of}
use Rattle.link_calls.specs.Calls.{Call, after_calls}
use Rattle.link_versions.proofs.Accepted.{past-nonces}
use Rattle.cipher_choice.proofs.Unasked.{never-clear, soon}
use Rattle.std.specs.Prelude.{Ok, Option}

module _ (set : Settings) (has : set.cipher ≡ true) (alone : set.only ≡ true) where
  -- ONLY NONCES BEFORE: a link that was set up cipher only allows what is no Nonce only where it is ciphered, after any
  -- calls on any bytes; so nothing but Nonces goes over it clear
  pub only-nonces-before : (key : Option (List ℕ)) (l : Link) → set_up_of set key ≡ Ok l → (cs : List Call) (kind : ℕ)
      → allowed_of (after_calls l cs) kind ≡ true → eqb kind 0x7acb87aa ≡ false → (after_calls l cs).ciphered ≡ true
  only-nonces-before key l e cs kind may other =
      never-clear set has alone key l e cs (omega (arith, past-nonces (after_calls l cs) kind may other, soon set.server))
