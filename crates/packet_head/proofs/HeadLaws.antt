-- What follows from a length that is not refused. Assumes nothing.
use borrow.Author.Tests.{ltb-false}
use mathlib.Core.Path.{◌≡◌, refl}
use mathlib.Core.Bool.{Bool, true, false}
use Prim.Native.Nat.{ℕ, ◌≤◌}
use lib.Dec.{ltb}
use Rattle.wire.specs.Choice.{pick}
use Rattle.link_state.specs.declared.Link.{Link}
use Rattle.std.specs.Prelude.{Result, Ok, Err, ⊤}
use Rattle.refusal.specs.declared.Refusal.{Refusal}
use Rattle.refusal.specs.declared.Refusal.TheVariants.{LengthUnder16}
use Rattle.packet_head.specs.Head.{check_length}

by-test : (len : ℕ) (t : Bool) (r : Result ⊤ Refusal) → ltb len 16 ≡ t → pick t (Err LengthUnder16) r ≡ Ok tt → 16 ≤ len
by-test len true r e h = cc
by-test len false r e h = ltb-false len 16 e

-- it is at least 16
pub long-enough : (l : Link) (len : ℕ) → check_length l len ≡ Ok tt → 16 ≤ len
unfolding check_length
long-enough l len h = by-test len (ltb len 16) _ refl h
