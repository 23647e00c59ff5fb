-- Whose turn it is (document 01, "Opening": "Order: client Nonce, server Nonce, client Handshake, server Handshake").
-- Assumes nothing.
use Rattle.std.specs.Prelude.{ℕ, ◌+◌, ◌%◌, Bool, true, ltb, leb, eqb}
use Rattle.wire.specs.Choice.{pick}

-- a server sends the second and the fourth packet of the opening, a client the first and the third; after it both send
unfoldable pub may_send : Bool → ℕ → Bool
may_send server stage = pick (leb 4 stage) true (eqb (stage % 2) (pick server 1 0))

-- one packet of the opening more went over; after the fourth it is over
unfoldable pub stage_after : ℕ → ℕ
stage_after s = pick (ltb s 4) (s + 1) s
