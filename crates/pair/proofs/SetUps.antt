-- Set-up hands out the links that the theorems on two links speak of. Assumes nothing.
use mathlib.Core.Path.{◌≡◌, refl, ap, ◌∙◌}
use mathlib.Core.Bool.{Bool, false}
use mathlib.Core.List.{List}
use Prim.Native.Nat.{ℕ, ◌≤◌, ◌<◌, ◌^◌}
use lib.Dec.{lit<}
use Rattle.wire.proofs.ByteLaws.{Small, le-lt}
use Rattle.link_state.specs.SetUp.{fresh_of, key_refused, key_id_of, set_up_of}
use Rattle.link_state.proofs.SetUpLaws.{set-up-takes}
use Rattle.pair.specs.Opens.{Choices, settings_of, made_of}
use Rattle.std.specs.Prelude.{Ok, Option, Some, None}

-- with every lowest version up to 2, and a key that is not refused or, without the cipher, none
pub set-ups : (server : Bool) (x : Choices) (key : Option (List ℕ)) → key_refused (settings_of server x) key ≡ false
    → x.lowest ≤ 2
    → key_id_of key ≡ x.keyid → set_up_of (settings_of server x) key ≡ Ok (made_of server x)
set-ups server x key fine low is =
    set-up-takes (settings_of server x) key fine low ∙ ap (λ (k : ℕ). Ok (fresh_of (settings_of server x) k)) is

-- its KeyID has 32 bits
pub key-id-fits : (key : Option (List ℕ)) → ((k : List ℕ) → key ≡ Some k → Small k) → key_id_of key < 2 ^ 32
unfolding key_id_of
key-id-fits None h = lit< tt
key-id-fits (Some k) h = le-lt k 0 4 (h k refl)
