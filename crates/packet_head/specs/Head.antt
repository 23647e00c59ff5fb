-- Which length, number and type of a packet are refused (document 01, "Refusal numbers": "1, 3, 2, 4, 5").
-- Assumes nothing.
use Rattle.std.specs.Prelude.{ℕ, not, ◌&&◌, [], ◌∷◌, ltb, leb, eqb, Result, Ok, Err, ⊤}
use Rattle.wire.specs.Choice.{first}
use Rattle.link_state.specs.declared.Link.{Link}
use Rattle.packet.specs.Allowed.{allowed_of}
use Rattle.refusal.specs.declared.Refusal.{Refusal}
use Rattle.refusal.specs.declared.Refusal.TheVariants.{LengthUnder16, LengthOverLimit, LengthInOpening, PacketNumber, TypeNotAllowed}

-- "length under 16; over 16,777,215; 1024 or more in the opening", in the order 1, 3, 2
unfoldable pub check_length : Link → ℕ → Result ⊤ Refusal
check_length l len =
    first (
    (ltb len 16, Err LengthUnder16) ∷
    (ltb l.stage 4 && leb 1024 len, Err LengthInOpening) ∷
    (ltb 16777215 len, Err LengthOverLimit) ∷
    []
    ) (Ok tt)

-- "packet number; type not allowed now"
unfoldable pub check_head : Link → ℕ → ℕ → Result ⊤ Refusal
check_head l number kind =
    first (
    (not (eqb number l.gets), Err PacketNumber) ∷
    (not (allowed_of l kind), Err TypeNotAllowed) ∷
    []
    ) (Ok tt)
