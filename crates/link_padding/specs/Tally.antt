-- The bytes that a link wrote "since the first byte of our Handshake" (document 02, A7), counted along any calls from
-- their answers alone. Assumes nothing.
use Rattle.std.specs.Prelude.{ℕ, ◌+◌, Bool, true, false, List, [], ◌∷◌, eqb, Err, Result, Ok}
use Rattle.wire.specs.Choice.{pick}
use Rattle.link_state.specs.declared.Link.{Link}
use Rattle.link_state.specs.declared.Settings.{Settings}
use Rattle.link_state.specs.SetUp.{fresh_of}
use Rattle.link.specs.Receive.{receive_of}
use Rattle.send.specs.Send.{send_of}
use Rattle.flush.specs.Flush.{flush_step}
use Rattle.link_calls.specs.Calls.{Call, receives, sends, flushes, type_of}
use Rattle.refusal.specs.declared.Refusal.{Refusal}

-- a link, whether our Handshake went out on it, and the bytes that we wrote since its first byte
pub record Tally : Type 0 where
  pub link : Link
  pub begun : Bool
  pub bytes : ℕ

-- after a call that answered so, and left this link: what it wrote is our Handshake, or it counts if that went out
-- before
abbrev pub wrote : Tally → Bool → Link → Result ℕ Refusal → Tally
wrote t hand l (Ok n) =
    record {
      link = l;
      begun = pick hand true t.begun;
      bytes = pick (pick hand true t.begun) (t.bytes + n) t.bytes;
    }
wrote t hand l (Err k) = record { link = l; begun = t.begun; bytes = t.bytes }

-- after a call
unfoldable pub called : Tally → Call → Tally
called t (receives s m) = record { link = (receive_of t.link s m).link; begun = t.begun; bytes = t.bytes }
called t (sends what p drawn m room) =
    let r = send_of t.link what p drawn m room in wrote t (eqb (type_of what) 0x7682eef5) r.link r.answer
called t (flushes room) = let r = flush_step t.link room in wrote t false r.link r.answer

-- after all of them
unfoldable pub after : Tally → List Call → Tally
after t [] = t
after t (c ∷ cs) = after (called t c) cs

-- a fresh link, whatever key it was set up with
unfoldable pub start : Settings → ℕ → Tally
start set keyid = record { link = fresh_of set keyid; begun = false; bytes = 0 }

-- calls among which no packet is sent
abbrev pub Quiet : List Call → Type 0
Quiet [] = Unit {0}
Quiet (receives s m ∷ cs) = Quiet cs
Quiet (sends what p drawn m room ∷ cs) = ⊥
Quiet (flushes room ∷ cs) = Quiet cs
