-- Which settings and keys set-up takes, and what a link keeps of a key. Assumes nothing.
use borrow.Author.Tests.{ltb-false, le-ltb}
use mathlib.Core.Path.{◌≡◌, refl}
use mathlib.Core.Bool.{Bool, true, false}
use mathlib.Core.List.{List}
use Prim.Native.Nat.{ℕ, ◌≤◌}
use lib.Dec.{ltb}
use Rattle.wire.specs.Bytes.{part}
use Rattle.wire.specs.Choice.{pick}
use Rattle.link_state.specs.declared.Link.{Link}
use Rattle.link_state.specs.declared.Settings.{Settings}
use Rattle.link_state.specs.SetUp.{fresh_of, key_id_of, key_refused, set_up_of}
use Rattle.refusal.specs.declared.Refusal.TheVariants.{OutOfRange, UnsuitableKey}
use Rattle.std.specs.Prelude.{Option, Some, Ok, Err}

-- set-up takes a lowest version up to 2, with a key that is not refused or, if it has no cipher, with none
pub set-up-takes : (set : Settings) (key : Option (List ℕ)) → key_refused set key ≡ false → set.lowest ≤ 2
    → set_up_of set key ≡ Ok (fresh_of set (key_id_of key))
unfolding set_up_of
set-up-takes set key fine h = rw (fine, le-ltb 2 set.lowest h)

pub set-up-took : (set : Settings) (key : Option (List ℕ)) (l : Link) → set_up_of set key ≡ Ok l
    → (l ≡ fresh_of set (key_id_of key)) × ((set.lowest ≤ 2) × (key_refused set key ≡ false))
unfolding set_up_of
set-up-took set key l = go (key_refused set key) refl (ltb 2 set.lowest) refl
  where
    go : (k : Bool) → key_refused set key ≡ k → (x : Bool) → ltb 2 set.lowest ≡ x
        → pick k (Err UnsuitableKey) (pick x (Err OutOfRange) (Ok (fresh_of set (key_id_of key)))) ≡ Ok l
        → (l ≡ fresh_of set (key_id_of key)) × ((set.lowest ≤ 2) × (key_refused set key ≡ false))
    go true p x q e = cc
    go false p true q e = cc
    go false p false q e = let f : l ≡ fresh_of set (key_id_of key) = cc in (f, (ltb-false 2 set.lowest q, p))

-- NO KEY IS KEPT: of two keys that set-up takes and that begin with the same four bytes it makes the same link
pub keeps-key-id : (set : Settings) (a b : List ℕ) → key_refused set (Some a) ≡ false → key_refused set (Some b) ≡ false
    → part a 0 4 ≡ part b 0 4 → set_up_of set (Some a) ≡ set_up_of set (Some b)
unfolding set_up_of key_id_of
keeps-key-id set a b fine-a fine-b e = rw (fine-a, fine-b, e)
