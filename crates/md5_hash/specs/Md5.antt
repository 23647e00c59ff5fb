-- MD5 (RFC 1321), over lists of bytes. Assumes nothing.
use Rattle.std.specs.Prelude.{ℕ, zero, suc, ◌+◌, ◌*◌, ◌/◌, ◌%◌, false, List, [], ◌∷◌, ◌++◌, bit_and, bit_or, bit_xor, nat_lt, slice_index}
use Rattle.wire.specs.Bytes.{le, part, bytes}
use Rattle.wire.specs.Choice.{pick}
use Rattle.hash_blocks.specs.Words.{plus, flip, rotl}
use Rattle.hash_blocks.specs.Blocks.{hashed}
use Rattle.md5_hash.specs.declared.State.{State}

-- 3.4: the functions F, G, H, I, each in 16 steps
unfoldable pub mixing : ℕ → ℕ → ℕ → ℕ → ℕ
mixing i x y z =
    pick (nat_lt i 16) (bit_or (bit_and x y) (bit_and (flip x) z))
    (pick (nat_lt i 32) (bit_or (bit_and x z) (bit_and y (flip z)))
    (pick (nat_lt i 48) (bit_xor (bit_xor x y) z)
    (bit_xor y (bit_or x (flip z)))))

-- which word of the block step i takes: they begin at 0, 1, 5, 0 and go on by 1, 5, 3, 7
unfoldable pub place : ℕ → ℕ
place i = pick (nat_lt i 16) i (pick (nat_lt i 32) ((5 * i + 1) % 16) (pick (nat_lt i 48) ((3 * i + 5) % 16) (7 * i % 16)))

-- how far the steps turn: a row of four for each of the four rounds
abbrev pub turns : List ℕ
turns = 7 ∷ 12 ∷ 17 ∷ 22 ∷ 5 ∷ 9 ∷ 14 ∷ 20 ∷ 4 ∷ 11 ∷ 16 ∷ 23 ∷ 6 ∷ 10 ∷ 15 ∷ 21 ∷ []

unfoldable pub turn_of : ℕ → ℕ
turn_of i = slice_index turns (i / 16 * 4 + i % 4)

-- "the integer part of 4294967296 times abs(sin(i)), where i is in radians", for i from 1 to 64
abbrev pub sines : List ℕ
sines =
    0xd76a_a478 ∷ 0xe8c7_b756 ∷ 0x2420_70db ∷ 0xc1bd_ceee ∷ 0xf57c_0faf ∷ 0x4787_c62a ∷ 0xa830_4613 ∷ 0xfd46_9501 ∷
    0x6980_98d8 ∷ 0x8b44_f7af ∷ 0xffff_5bb1 ∷ 0x895c_d7be ∷ 0x6b90_1122 ∷ 0xfd98_7193 ∷ 0xa679_438e ∷ 0x49b4_0821 ∷
    0xf61e_2562 ∷ 0xc040_b340 ∷ 0x265e_5a51 ∷ 0xe9b6_c7aa ∷ 0xd62f_105d ∷ 0x0244_1453 ∷ 0xd8a1_e681 ∷ 0xe7d3_fbc8 ∷
    0x21e1_cde6 ∷ 0xc337_07d6 ∷ 0xf4d5_0d87 ∷ 0x455a_14ed ∷ 0xa9e3_e905 ∷ 0xfcef_a3f8 ∷ 0x676f_02d9 ∷ 0x8d2a_4c8a ∷
    0xfffa_3942 ∷ 0x8771_f681 ∷ 0x6d9d_6122 ∷ 0xfde5_380c ∷ 0xa4be_ea44 ∷ 0x4bde_cfa9 ∷ 0xf6bb_4b60 ∷ 0xbebf_bc70 ∷
    0x289b_7ec6 ∷ 0xeaa1_27fa ∷ 0xd4ef_3085 ∷ 0x0488_1d05 ∷ 0xd9d4_d039 ∷ 0xe6db_99e5 ∷ 0x1fa2_7cf8 ∷ 0xc4ac_5665 ∷
    0xf429_2244 ∷ 0x432a_ff97 ∷ 0xab94_23a7 ∷ 0xfc93_a039 ∷ 0x655b_59c3 ∷ 0x8f0c_cc92 ∷ 0xffef_f47d ∷ 0x8584_5dd1 ∷
    0x6fa8_7e4f ∷ 0xfe2c_e6e0 ∷ 0xa301_4314 ∷ 0x4e08_11a1 ∷ 0xf753_7e82 ∷ 0xbd3a_f235 ∷ 0x2ad7_d2bb ∷ 0xeb86_d391 ∷ []

-- step i on block b: a = b + ((a + F(b, c, d) + X[k] + T[i + 1]) <<< s), and the four words change places
unfoldable pub step : List ℕ → ℕ → State → State
step b i m =
    record {
      a = m.d;
      b = plus m.b (rotl (turn_of i) (plus (plus (plus m.a (mixing i m.b m.c m.d)) (le (part b
          (4 * place i) 4))) (slice_index sines i)));
      c = m.b;
      d = m.c;
    }

-- the first n steps
unfoldable pub steps : List ℕ → ℕ → State → State
steps b zero m = m
steps b (suc n) m = step b n (steps b n m)

unfoldable pub sum : State → State → State
sum m n = record { a = plus m.a n.a; b = plus m.b n.b; c = plus m.c n.c; d = plus m.d n.d }

-- a block: its 64 steps, added to what was before
unfoldable pub compress : State → List ℕ → State
compress m b = sum m (steps b 64 m)

-- 3.3
unfoldable pub start : State
start = record { a = 0x6745_2301; b = 0xefcd_ab89; c = 0x98ba_dcfe; d = 0x1032_5476 }

-- 3.5: "we begin with the low-order byte of A, and end with the high-order byte of D"
unfoldable pub digest : State → List ℕ
digest m = bytes 4 m.a ++ (bytes 4 m.b ++ (bytes 4 m.c ++ bytes 4 m.d))

unfoldable pub md5 : List ℕ → List ℕ
md5 s = digest (hashed compress start false s)
