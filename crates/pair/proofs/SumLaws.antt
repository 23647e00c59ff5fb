-- A checksum of bytes has 32 bits. Assumes nothing.
use native.Mathlib.Omega.{arith}
use Prim.Native.Nat.{ℕ, zero, suc, ◌+◌, ◌/◌, ◌%◌, ◌<◌, ◌^◌}
use mathlib.Core.Bool.{Bool, true, false}
use mathlib.Core.List.{List, [], ◌∷◌, ◌++◌}
use lib.ListN.{length}
use lib.Bits.{bit_xor, xor_lt}
use lib.Dec.{lit<}
use Rattle.wire.specs.Bytes.{bytes}
use Rattle.wire.specs.Choice.{pick}
use Rattle.wire.proofs.ByteLaws.{Small}
use Rattle.crc.specs.Crc.{reflected, when, clock, clocks, feed, feeds, crc}
use Rattle.crc.specs.declared.Polynomial.TheVariants.{Ieee, Castagnoli}
use Rattle.link_state.specs.declared.Link.{Link}
use Rattle.packet.specs.Sum.{castagnoli_of, sum_of}
use Rattle.packet_out.specs.Packet.{head_of, front_of}

-- ---- bytes

pub small-append : (a b : List ℕ) → Small a → Small b → Small (a ++ b)
small-append [] b ha hb i = hb i
small-append (x ∷ a) b ha hb zero = ha 0
small-append (x ∷ a) b ha hb (suc i) = small-append a b (λ j. ha (suc j)) hb i

pub small_bytes : (k n : ℕ) → Small (bytes k n)
unfolding bytes
small_bytes zero n i = lit< tt
small_bytes (suc k) n zero = omega arith
small_bytes (suc k) n (suc i) = small_bytes k (n / 256) i

pub small-front : (l : Link) (kind : ℕ) (body : List ℕ) → Small body → Small (front_of l kind body)
unfolding front_of head_of
small-front l kind body h =
    let n : ℕ = length body + 16 in
    small-append (bytes 4 n ++ (bytes 4 l.sends ++ bytes 4 kind)) body
    (small-append (bytes 4 n) (bytes 4 l.sends ++ bytes 4 kind) (small_bytes 4 n)
    (small-append (bytes 4 l.sends) (bytes 4 kind) (small_bytes 4 l.sends) (small_bytes 4 kind)))
    h

-- ---- the register

when-lt : (bit p : ℕ) → p < 2 ^ 32 → when bit p < 2 ^ 32
when-lt zero p h = lit< tt
when-lt (suc bit) p h = h

module _ (p : ℕ) (fits : p < 2 ^ 32) where
  clock-lt : (c : ℕ) → c < 2 ^ 32 → clock p c < 2 ^ 32
  unfolding clock
  clock-lt c h = xor_lt 32 (c / 2) (when (c % 2) p) (omega arith) (when-lt (c % 2) p fits)

  clocks-lt : (n c : ℕ) → c < 2 ^ 32 → clocks p n c < 2 ^ 32
  unfolding clocks
  clocks-lt zero c h = h
  clocks-lt (suc n) c h = clocks-lt n (clock p c) (clock-lt c h)

  feed-lt : (c b : ℕ) → c < 2 ^ 32 → b < 256 → feed p c b < 2 ^ 32
  unfolding feed
  feed-lt c b h g = clocks-lt 8 (bit_xor c b) (xor_lt 32 c b h (omega arith))

  feeds-lt : (c : ℕ) (s : List ℕ) → c < 2 ^ 32 → Small s → feeds p c s < 2 ^ 32
  unfolding feeds
  feeds-lt c [] h g = h
  feeds-lt c (b ∷ s) h g = feeds-lt (feed p c b) s (feed-lt c b h (g 0)) (λ i. g (suc i))

  crc-lt : (s : List ℕ) → Small s → crc p s < 2 ^ 32
  unfolding crc
  crc-lt s g = xor_lt 32 _ 0xffff_ffff (feeds-lt _ s (xor_lt 32 0 0xffff_ffff (lit< tt) (lit< tt)) g) (lit< tt)

-- the checksum of a packet, of either kind
pub sum_lt : (l : Link) (s : List ℕ) → Small s → sum_of l s < 2 ^ 32
unfolding sum_of
sum_lt l s g = go (castagnoli_of l)
  where
    go : (c : Bool) → pick c (crc (reflected Castagnoli) s) (crc (reflected Ieee) s) < 2 ^ 32
    go true = crc-lt (reflected Castagnoli) (lit< tt) s g
    go false = crc-lt (reflected Ieee) (lit< tt) s g
