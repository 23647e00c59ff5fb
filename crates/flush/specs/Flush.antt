-- The flush of a padded link (document 02, A7: "A flush call writes the words that bring the bytes since the first byte
-- of our Handshake to a multiple of 16, and hands back their size in bytes"). Assumes nothing.
use Rattle.std.specs.Prelude.{ℕ, ◌-◌, ◌*◌, ◌%◌, Bool, ◌&&◌, List, [], ◌∷◌, length, ltb, leb, Result, Ok, Err}
use Rattle.std.proofs.lemmas.List.Edits.{sets}
use Rattle.wire.specs.Choice.{pick, first}
use Rattle.link_state.specs.declared.Link.{Link}
use Rattle.packet_padding.specs.Padding.{padded_of, fours_of, phase_after}
use Rattle.refusal.specs.declared.Refusal.{Refusal}
use Rattle.send_rules.specs.declared.Step.{Step}
use Rattle.refusal.specs.declared.Refusal.TheVariants.{BufferTooSmall, LinkClosed}

-- our Handshake was sent: a client's is the third packet of the opening, a server's the fourth
unfoldable pub begun_of : Link → Bool
begun_of l = leb (pick l.set.server 4 3) l.stage

-- how many words a flush writes: what four lack, which are 16 bytes; "none before it or on unpadded links"
unfoldable pub words_due : Link → ℕ
words_due l = pick (padded_of l && begun_of l) ((4 - l.phase % 4) % 4) 0

-- "The flush has 20, then 16", for so much room; else the size of the words
unfoldable pub flush_answer : Link → ℕ → Result ℕ Refusal
flush_answer l room =
    first (
    (l.closed, Err LinkClosed) ∷
    (ltb room (words_due l * 4), Err BufferTooSmall) ∷
    []
    ) (Ok (words_due l * 4))

-- a link that wrote n bytes of words: they count, and nothing else of it changes
unfoldable pub flushed_of : Link → ℕ → Link
flushed_of l n =
    record {
      set = l.set;
      closed = l.closed;
      crc32c = l.crc32c;
      version = l.version;
      stage = l.stage;
      phase = phase_after l n;
      awaits = l.awaits;
      owes = l.owes;
      ciphered = l.ciphered;
      keyid = l.keyid;
      sends = l.sends;
      gets = l.gets;
      awaited = l.awaited;
      owed = l.owed;
    }

-- the link after the call: a flush that is refused changes nothing
abbrev pub flush_by : Link → Result ℕ Refusal → Step
flush_by l (Ok n) = record { link = flushed_of l n; answer = Ok n }
flush_by l (Err r) = record { link = l; answer = Err r }

-- the buffer after the call: the words at its front, or all as it was
abbrev pub flush_in : Link → List ℕ → Result ℕ Refusal → List ℕ
flush_in l b (Ok n) = sets b 0 (fours_of (words_due l))
flush_in l b (Err r) = b

-- a flush call, with so much room
unfoldable pub flush_step : Link → ℕ → Step
flush_step l room = flush_by l (flush_answer l room)

-- what it leaves in the buffer b
unfoldable pub flush_buffer : Link → List ℕ → List ℕ
flush_buffer l b = flush_in l b (flush_answer l (length b))
