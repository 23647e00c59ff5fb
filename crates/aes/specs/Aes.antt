-- FIPS 197, section 5, for keys of 256 bits: Nk is 8, Nb is 4, Nr is 14. All is lists of bytes. A state is the 16
-- bytes of a block as they come (3.4): the byte in row r and column c is at the place r + 4c. Assumes nothing.
use Rattle.std.specs.Prelude.{ℕ, zero, suc, ◌+◌, ◌*◌, ◌-◌, ◌/◌, ◌%◌, List, [], ◌∷◌, ◌++◌, get_or, take, drop, eqb}
use Rattle.std.specs.Int.Bits.{bit_xor}
use Rattle.wire.specs.Choice.{pick}
use Rattle.aes.specs.Field.{xtime, mul, sbox, unsbox}

-- ---- 5.1: the cipher

-- 5.1.1, SubBytes: each byte's substitute
unfoldable pub sub_bytes : List ℕ → List ℕ
sub_bytes [] = []
sub_bytes (b ∷ s) = sbox b ∷ sub_bytes s

-- the bytes of s at these places
unfoldable pub placed : List ℕ → List ℕ → List ℕ
placed s [] = []
placed s (i ∷ is) = get_or s i 0 ∷ placed s is

-- 5.1.2, ShiftRows: row r, the places r, r + 4, r + 8 and r + 12, is turned left by r
unfoldable pub shift_rows : List ℕ → List ℕ
shift_rows s = placed s (0 ∷ 5 ∷ 10 ∷ 15 ∷ 4 ∷ 9 ∷ 14 ∷ 3 ∷ 8 ∷ 13 ∷ 2 ∷ 7 ∷ 12 ∷ 1 ∷ 6 ∷ 11 ∷ [])

-- one row of a matrix, p q r t, times a column
unfoldable pub cell : ℕ → ℕ → ℕ → ℕ → ℕ → ℕ → ℕ → ℕ → ℕ
cell p q r t a b c d = bit_xor (mul a p) (bit_xor (mul b q) (bit_xor (mul c r) (mul d t)))

-- each column, four bytes, times the matrix of first row p q r t, each row the one above it turned right by one
unfoldable pub columns : ℕ → ℕ → ℕ → ℕ → List ℕ → List ℕ
columns p q r t (a ∷ b ∷ c ∷ d ∷ s) =
    cell p q r t a b c d ∷ cell t p q r a b c d ∷ cell r t p q a b c d ∷ cell q r t p a b c d ∷ columns p q r t s
columns p q r t [] = []
columns p q r t (a ∷ []) = []
columns p q r t (a ∷ b ∷ []) = []
columns p q r t (a ∷ b ∷ c ∷ []) = []

-- 5.1.3, MixColumns, (5.6)
unfoldable pub mix_columns : List ℕ → List ℕ
mix_columns s = columns 2 3 1 1 s

-- 5.1.4, AddRoundKey: byte by byte
unfoldable pub add : List ℕ → List ℕ → List ℕ
add [] t = []
add (a ∷ s) [] = []
add (a ∷ s) (b ∷ t) = bit_xor a b ∷ add s t

-- the four words of round r, of all round keys w
unfoldable pub round_key : ℕ → List ℕ → List ℕ
round_key r w = take 16 (drop (16 * r) w)

-- 5.1, figure 5: rounds 1 to n
unfoldable pub rounds : ℕ → List ℕ → List ℕ → List ℕ
rounds zero w s = s
rounds (suc n) w s = add (mix_columns (shift_rows (sub_bytes (rounds n w s)))) (round_key (suc n) w)

-- 5.1, figure 5: a key before the rounds, and a last round with no MixColumns
unfoldable pub cipher : List ℕ → List ℕ → List ℕ
cipher w s = add (shift_rows (sub_bytes (rounds 13 w (add s (round_key 0 w))))) (round_key 14 w)

-- ---- 5.2: the key expansion

-- Rcon[i] begins with x^(i-1); {8d} is x^(-1)
unfoldable pub rcon : ℕ → ℕ
rcon zero = 0x8d
rcon (suc i) = xtime (rcon i)

-- figure 11: temp, of the word t that stands before word i. RotWord takes its first byte to its end
unfoldable pub temp : ℕ → List ℕ → List ℕ
temp i t =
    pick (eqb (i % 8) 0)
    (add (sub_bytes (drop 1 t ++ take 1 t)) (rcon (i / 8) ∷ 0 ∷ 0 ∷ 0 ∷ []))
    (pick (eqb (i % 8) 4) (sub_bytes t) t)

-- word i, of the words w before it: word i - 8 and temp
unfoldable pub next : ℕ → List ℕ → List ℕ
next i w = add (take 4 (drop (4 * (i - 8)) w)) (temp i (take 4 (drop (4 * (i - 1)) w)))

-- the i words w, and one more
unfoldable pub grown : ℕ → List ℕ → List ℕ
grown i w = w ++ next i w

-- the key's eight words, and n more
unfoldable pub schedule : ℕ → List ℕ → List ℕ
schedule zero k = k
schedule (suc n) k = grown (8 + n) (schedule n k)

-- all 60 words, Nb (Nr + 1): the round keys of the key k
unfoldable pub keys : List ℕ → List ℕ
keys k = schedule 52 k

-- ---- 5.3: the inverse cipher

-- 5.3.1, InvShiftRows: row r is turned right by r
unfoldable pub unshift_rows : List ℕ → List ℕ
unshift_rows s = placed s (0 ∷ 13 ∷ 10 ∷ 7 ∷ 4 ∷ 1 ∷ 14 ∷ 11 ∷ 8 ∷ 5 ∷ 2 ∷ 15 ∷ 12 ∷ 9 ∷ 6 ∷ 3 ∷ [])

-- 5.3.2, InvSubBytes
unfoldable pub unsub_bytes : List ℕ → List ℕ
unsub_bytes [] = []
unsub_bytes (b ∷ s) = unsbox b ∷ unsub_bytes s

-- 5.3.3, InvMixColumns, (5.10): {0e}, {0b}, {0d}, {09}
unfoldable pub unmix_columns : List ℕ → List ℕ
unmix_columns s = columns 14 11 13 9 s

-- 5.3, figure 12: from the AddRoundKey of round n to the InvSubBytes after that of round 1. The steps in the figure's
-- order, cut before AddRoundKey, where its loop is cut before InvShiftRows: the theorem `figure-12` of crate
-- cipher_laws has the loop as it stands there
unfoldable pub unrounds : ℕ → List ℕ → List ℕ → List ℕ
unrounds zero w s = s
unrounds (suc n) w s = unrounds n w (unsub_bytes (unshift_rows (unmix_columns (add s (round_key (suc n) w)))))

-- 5.3, figure 12
unfoldable pub decipher : List ℕ → List ℕ → List ℕ
decipher w s = add (unrounds 13 w (unsub_bytes (unshift_rows (add s (round_key 14 w))))) (round_key 0 w)
