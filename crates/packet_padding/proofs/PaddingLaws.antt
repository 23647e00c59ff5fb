-- How many zeros follow a packet. Assumes nothing.
use native.Mathlib.Omega.{arith}
use mathlib.Core.Path.{◌≡◌}
use mathlib.Core.Bool.{Bool, true, false}
use Prim.Native.Nat.{ℕ, ◌+◌, ◌-◌, ◌%◌, ◌≤◌}
use Rattle.wire.specs.Choice.{pick}
use Rattle.link_state.specs.declared.Link.{Link}
use Rattle.packet_padding.specs.Padding.{pads_of, tail_of}

-- at most three
pub tail-small : (l : Link) (len : ℕ) → tail_of l len ≤ 3
unfolding tail_of
tail-small l len = go (pads_of l)
  where
    go : (b : Bool) → pick b ((4 - len % 4) % 4) 0 ≤ 3
    go true = omega arith
    go false = omega arith

-- as many as bring a padded packet to whole words
pub tail-whole : (l : Link) (len : ℕ) → pads_of l ≡ true → (len + tail_of l len) % 4 ≡ 0
unfolding tail_of
tail-whole l len e = rw e (omega arith)

-- the same of what a call answered
pub tail-bound : (l : Link) (len : ℕ) {r : ℕ} → r ≡ tail_of l len → r ≤ 3
tail-bound l len e = omega (arith, tail-small l len)
