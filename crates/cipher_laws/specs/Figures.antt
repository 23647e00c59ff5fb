-- The two inverse ciphers with their steps and rounds cut as figures 12 and 15 of FIPS 197 have them. Assumes nothing.
use Rattle.std.specs.Prelude.{ℕ, zero, suc, ◌-◌, List}
use Rattle.aes.specs.Aes.{add, round_key, unshift_rows, unsub_bytes, unmix_columns}

-- figure 12: rounds n to 1, each InvShiftRows, InvSubBytes, AddRoundKey, InvMixColumns
unfoldable pub inverse_rounds : ℕ → List ℕ → List ℕ → List ℕ
inverse_rounds zero w s = s
inverse_rounds (suc n) w s =
    inverse_rounds n w (unmix_columns (add (unsub_bytes (unshift_rows s)) (round_key (suc n) w)))

unfoldable pub inverse_cipher : List ℕ → List ℕ → List ℕ
inverse_cipher w s = add (unsub_bytes (unshift_rows (inverse_rounds 13 w (add s (round_key 14 w))))) (round_key 0 w)

-- figure 15: n rounds, from round 13 down, each InvSubBytes, InvShiftRows, InvMixColumns, AddRoundKey
unfoldable pub equivalent_rounds : ℕ → List ℕ → List ℕ → List ℕ
equivalent_rounds zero d s = s
equivalent_rounds (suc n) d s =
    add (unmix_columns (unshift_rows (unsub_bytes (equivalent_rounds n d s)))) (round_key (13 - n) d)

unfoldable pub equivalent_cipher : List ℕ → List ℕ → List ℕ
equivalent_cipher d s = add (unshift_rows (unsub_bytes (equivalent_rounds 13 d (add s (round_key 14 d))))) (round_key 0 d)
