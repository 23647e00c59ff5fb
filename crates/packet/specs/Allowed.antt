-- Which types may go over a link now (document 01, "Opening"). Assumes nothing.
use Rattle.std.specs.Prelude.{ℕ, Bool, not, ◌&&◌, [], ◌∷◌, ltb, eqb}
use Rattle.wire.specs.Choice.{first}
use Rattle.link_state.specs.declared.Link.{Link}

-- "In the opening any type but the next one is 5; after it, Nonce and Handshake are": two Nonces, then two Handshakes
unfoldable pub allowed_of : Link → ℕ → Bool
allowed_of l kind =
    first (
    (ltb l.stage 2, eqb kind 0x7acb87aa) ∷
    (ltb l.stage 4, eqb kind 0x7682eef5) ∷
    []
    ) (not (eqb kind 0x7acb87aa) && not (eqb kind 0x7682eef5))
