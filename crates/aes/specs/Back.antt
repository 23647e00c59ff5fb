-- FIPS 197, 5.3.5: the equivalent inverse cipher, which is the inverse cipher with InvMixColumns moved onto the round
-- keys. That it is the inverse cipher is the theorem `back_is` of crate cipher_laws. Assumes nothing.
use Rattle.std.specs.Prelude.{List, ◌++◌, ℕ, zero, suc, ◌-◌}
use Rattle.aes.specs.Aes.{add, unsub_bytes, unshift_rows, unmix_columns, round_key}

-- figure 15: the round keys dw of the round keys w, up to round n; those of rounds 1 to 13 go through InvMixColumns
unfoldable pub back_to : ℕ → List ℕ → List ℕ
back_to zero w = round_key 0 w
back_to (suc n) w = back_to n w ++ unmix_columns (round_key (suc n) w)

unfoldable pub back_keys : List ℕ → List ℕ
back_keys w = back_to 13 w ++ round_key 14 w

-- figure 15: n rounds, from round 13 down, under such keys d. The figure has InvSubBytes before InvShiftRows: that is
-- the same (5.3.5), by the theorem `figure-15` of crate cipher_laws
unfoldable pub back_rounds : ℕ → List ℕ → List ℕ → List ℕ
back_rounds zero d s = s
back_rounds (suc n) d s = add (unmix_columns (unsub_bytes (unshift_rows (back_rounds n d s)))) (round_key (13 - n) d)

-- figure 15
unfoldable pub back_cipher : List ℕ → List ℕ → List ℕ
back_cipher d s = add (unsub_bytes (unshift_rows (back_rounds 13 d (add s (round_key 14 d))))) (round_key 0 d)
