-- Messages between two open links, one after the other, that either may send: each is received before the next is sent.
-- A send call that is refused hands nothing over. Assumes nothing.
use Rattle.std.specs.Prelude.{◌≡◌, ℕ, ◌≤◌, ◌<◌, ◌^◌, Bool, not, List, [], ◌∷◌, ◌++◌, length, get_or, Err, Result, Ok}
use Rattle.wire.specs.Choice.{pick}
use Rattle.link_state.specs.declared.Link.{Link}
use Rattle.link_state.specs.declared.Moment.{Moment}
use Rattle.link.specs.Receive.{receive_of}
use Rattle.message_out.specs.MessageStep.{message_answer, message_step, message_buffer}
use Rattle.message_out.specs.declared.Outgoing.{Outgoing}
use Rattle.pair.specs.Awaits.{Awaits}
use Rattle.pair_messages.specs.Meaning.{meaning_of, carried, Fits}
use Rattle.pair_messages.specs.Hear.{Heard, heard, hears}
use Rattle.refusal.specs.declared.Refusal.{Refusal}

-- a message, its payload or text, the sender's buffer, the receiver's clock; and whether the first link sends it
pub record Saying : Type 0 where
  pub ours : Bool
  pub message : Outgoing
  pub payload : List ℕ
  pub buffer : List ℕ
  pub moment : Moment

-- the fields of a message have their widths, and its payload is bytes
pub record Sound (s : Saying) : Type 0 where
  pub fields : Fits s.message
  pub bytes : (i : ℕ) → get_or s.payload i 0 < 256

abbrev pub AllSound : List Saying → Type 0
AllSound [] = Unit {0}
AllSound (s ∷ ss) = Sound s × AllSound ss

-- ---- one message from l to k

-- what the send call answers, and the link after it
abbrev pub answer_to : Link → Saying → Result ℕ Refusal
answer_to l s = message_answer l s.message s.payload (length s.buffer)

abbrev pub sender : Link → Saying → Link
sender l s = (message_step l s.message s.payload (length s.buffer)).link

-- the buffer after it
abbrev pub buffer_of : Link → Saying → List ℕ
buffer_of l s = message_buffer l s.message s.payload s.buffer

-- the peer after it, by the answer
abbrev pub receiver : Link → Link → Saying → Result ℕ Refusal → Link
receiver l k s (Ok n) = (receive_of k (buffer_of l s) s.moment).link
receiver l k s (Err r) = k

-- what the peer hears
unfoldable pub heard_of : Link → Link → Saying → Result ℕ Refusal → List Heard
heard_of l k s (Ok n) = hears k (buffer_of l s) s.moment ∷ []
heard_of l k s (Err r) = []

-- what was meant
unfoldable pub meant_of : Link → Link → Saying → Result ℕ Refusal → List Heard
meant_of l k s (Ok n) = heard n (meaning_of s.message s.payload) (carried s.message s.payload) ∷ []
meant_of l k s (Err r) = []

-- ---- all of them

-- what f says of each message, from its sender to its receiver, in their order
unfoldable pub along : (Link → Link → Saying → Result ℕ Refusal → List Heard) → Link → Link → List Saying → List Heard
along f l k [] = []
along f l k (s ∷ ss) =
    pick s.ours
    (f l k s (answer_to l s) ++ along f (sender l s) (receiver l k s (answer_to l s)) ss)
    (f k l s (answer_to k s) ++ along f (receiver k l s (answer_to k s)) (sender k s) ss)

-- two links whose opening is over, each of which waits for the other's next packet
pub record Joined (l k : Link) : Type 0 where
  pub there : Awaits k l
  pub back : Awaits l k
  pub sides : k.set.server ≡ not l.set.server
  pub open_l : 4 ≤ l.stage
  pub open_k : 4 ≤ k.stage
  pub number_l : l.sends < 2 ^ 32
  pub number_k : k.sends < 2 ^ 32
