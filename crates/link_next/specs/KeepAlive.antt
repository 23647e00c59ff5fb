-- The other side's Ping and Pong (document 01, "Opening": "Ping and Pong hold an 8-byte ID", and the rows 17 and 21).
-- Assumes nothing.
use Rattle.std.specs.Prelude.{ℕ, Bool, true, false, not, List, [], ◌∷◌, length, ◌==◌, Result, Ok, Err, ⊤}
use Rattle.wire.specs.Bytes.{le, part}
use Rattle.wire.specs.Choice.{pick, first}
use Rattle.link_state.specs.declared.Link.{Link}
use Rattle.refusal.specs.declared.Refusal.{Refusal}
use Rattle.refusal.specs.declared.Refusal.TheVariants.{BodySize, PingOutOfTurn}

-- the ID in a body
abbrev pub id_at : List ℕ → ℕ
id_at b = le (part b 0 8)

-- "body of wrong size", then "A second Ping before we answered the first": 17, 21
unfoldable pub check_ping : Link → List ℕ → Result ⊤ Refusal
check_ping l b = first ((not (length b == 8), Err BodySize) ∷ (l.owes, Err PingOutOfTurn) ∷ []) (Ok tt)

-- "body of wrong size", then "a Pong not awaited or with another ID": 17, 21
unfoldable pub check_pong : Link → List ℕ → Result ⊤ Refusal
check_pong l b =
    first (
    (not (length b == 8), Err BodySize) ∷
    (not l.awaits, Err PingOutOfTurn) ∷
    (not (id_at b == l.awaited), Err PingOutOfTurn) ∷
    []
    ) (Ok tt)

-- "One Ping of ours may be unanswered": a Pong answers it
unfoldable pub awaits_after : Link → ℕ → Bool
awaits_after l kind = pick (kind == 0x8430eaa7) false l.awaits

-- a Ping of theirs is to be answered
unfoldable pub owes_after : Link → ℕ → Bool
owes_after l kind = pick (kind == 0x5730a2df) true l.owes

-- "ours takes the ID from the link": the Ping's
unfoldable pub owed_after : Link → ℕ → List ℕ → ℕ
owed_after l kind b = pick (kind == 0x5730a2df) (id_at b) l.owed
