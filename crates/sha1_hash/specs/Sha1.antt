-- SHA-1 (FIPS 180-4), over lists of bytes. Assumes nothing.
use Rattle.std.specs.Prelude.{ℕ, zero, suc, ◌-◌, ◌*◌, true, List, [], ◌∷◌, ◌++◌, reverse, bit_and, bit_xor, nat_lt, slice_index}
use Rattle.wire.specs.Bytes.{part, bytes}
use Rattle.wire.specs.Choice.{pick}
use Rattle.hash_blocks.specs.Words.{plus, flip, rotl, be}
use Rattle.hash_blocks.specs.Blocks.{hashed}
use Rattle.sha1_hash.specs.declared.State.{State}

-- 6.1.2, 1: word t of the schedule of block b, after those of w
unfoldable pub word_of : List ℕ → ℕ → List ℕ → ℕ
word_of b t w =
    pick (nat_lt t 16) (be (part b (4 * t) 4))
    (rotl 1 (bit_xor (bit_xor (bit_xor (slice_index w (t - 3)) (slice_index w (t - 8))) (slice_index w (t - 14))) (slice_index w (t - 16))))

unfoldable pub longer : List ℕ → ℕ → List ℕ → List ℕ
longer b t w = w ++ (word_of b t w ∷ [])

-- the first n words
unfoldable pub schedule : List ℕ → ℕ → List ℕ
schedule b zero = []
schedule b (suc n) = longer b n (schedule b n)

-- 4.1.1: Ch, Parity, Maj, Parity
unfoldable pub mixing : ℕ → ℕ → ℕ → ℕ → ℕ
mixing t x y z =
    pick (nat_lt t 20) (bit_xor (bit_and x y) (bit_and (flip x) z))
    (pick (nat_lt t 40) (bit_xor (bit_xor x y) z)
    (pick (nat_lt t 60) (bit_xor (bit_xor (bit_and x y) (bit_and x z)) (bit_and y z))
    (bit_xor (bit_xor x y) z)))

-- 4.2.1
unfoldable pub constant : ℕ → ℕ
constant t = pick (nat_lt t 20) 0x5a82_7999 (pick (nat_lt t 40) 0x6ed9_eba1 (pick (nat_lt t 60) 0x8f1b_bcdc 0xca62_c1d6))

-- 6.1.2, 3: step t over the words w
unfoldable pub step : List ℕ → ℕ → State → State
step w t q =
    record {
      a = plus (plus (plus (plus (rotl 5 q.a) (mixing t q.b q.c q.d)) q.e) (constant t)) (slice_index w t);
      b = q.a;
      c = rotl 30 q.b;
      d = q.c;
      e = q.d;
    }

-- the first n steps
unfoldable pub steps : List ℕ → ℕ → State → State
steps w zero q = q
steps w (suc n) q = step w n (steps w n q)

unfoldable pub sum : State → State → State
sum p q = record {
  a = plus p.a q.a;
  b = plus p.b q.b;
  c = plus p.c q.c;
  d = plus p.d
      q.d;
  e = plus p.e q.e;
}

-- 6.1.2: a block
unfoldable pub compress : State → List ℕ → State
compress q b = sum q (steps (schedule b 80) 80 q)

-- 5.3.1
unfoldable pub start : State
start = record { a = 0x6745_2301; b = 0xefcd_ab89; c = 0x98ba_dcfe; d = 0x1032_5476; e = 0xc3d2_e1f0 }

-- the five words, each with its highest byte first
unfoldable pub digest : State → List ℕ
digest q =
    reverse (bytes 4 q.a)
    ++ (reverse (bytes 4 q.b) ++ (reverse (bytes 4 q.c) ++ (reverse (bytes 4 q.d)
    ++ reverse (bytes 4 q.e))))

unfoldable pub sha1 : List ℕ → List ℕ
sha1 s = digest (hashed compress start true s)
