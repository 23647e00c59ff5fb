-- An answer of any call, by document 01's numbers and values for each case of its enum; and a row of the table.
-- Assumes nothing.
use Rattle.std.specs.Prelude.{ℕ, ◌≡◌, List, [], ◌∷◌, ℤ, Result, Ok, Err}
use Rattle.wire.specs.Bytes.{within}
use Rattle.packet.specs.declared.Arrival.{Arrival}
use Rattle.packet.specs.declared.Arrival.TheVariants.{Incomplete, Packet}
use Rattle.text.specs.declared.Text.{Text}
use Rattle.message.specs.PartOf.{part_of}
use Rattle.message.specs.declared.Message as M
use Rattle.inflight.specs.declared.PublisherNumber.{PublisherNumber}
use Rattle.refusal.specs.Numbers as N
use Rattle.refusal.specs.declared.Refusal.{Refusal}

pub data Outcome : Type 0 where
  -- a refusal's number
  refused : ℕ → Outcome
  -- more bytes are needed, so many
  waits : ℕ → Outcome
  -- a packet: type, bytes used, the body's place and length
  packet : ℕ → ℕ → ℕ → ℕ → Outcome
  -- a packet number
  number : ℕ → Outcome
  -- the bytes of a text
  text : List ℕ → Outcome
  -- a message, and its rest
  means : M.Message → List ℕ → Outcome
  -- the load of each publisher
  loads : List ℕ → Outcome
  -- an ask is accepted, with this publisher number
  accepted : ℤ → Outcome

-- what a receive call answers
abbrev pub of_arrival : Result Arrival Refusal → Outcome
of_arrival (Ok (Incomplete k)) = waits k
of_arrival (Ok (Packet kind consumed at len)) = packet kind consumed at len
of_arrival (Err k) = refused (N.number k)

-- what reading a text in s answers
abbrev pub of_text : List ℕ → Result Text Refusal → Outcome
of_text s (Ok t) = text (within s t.at t.len)
of_text s (Err k) = refused (N.number k)

-- what reading the body s answers
abbrev pub of_message : List ℕ → Result M.Message Refusal → Outcome
of_message s (Ok (M.TheVariants.Invoke i)) = means (M.TheVariants.Invoke i) (part_of s (Ok (M.TheVariants.Invoke i)))
of_message s (Ok (M.TheVariants.Cancel n)) = means (M.TheVariants.Cancel n) []
of_message s (Ok M.TheVariants.ClientFin) = means M.TheVariants.ClientFin []
of_message s (Ok (M.TheVariants.Result r)) = means (M.TheVariants.Result r) (part_of s (Ok (M.TheVariants.Result r)))
of_message s (Ok M.TheVariants.ServerFin) = means M.TheVariants.ServerFin []
of_message s (Err k) = refused (N.number k)

-- what an ask answers
abbrev pub of_ask : Result PublisherNumber Refusal → Outcome
of_ask (Ok n) = accepted n.0
of_ask (Err k) = refused (N.number k)

-- a case: what our definitions give, and what document 01 says
pub record Case : Type 0 where
  pub ours : Outcome
  pub paper : Outcome

-- what our definitions give is what document 01 says: in a case, and in every case of a table
abbrev pub Holds : Case → Type 0
Holds c = c.ours ≡ c.paper

abbrev pub AllHold : List Case → Type 0
AllHold [] = Unit {0}
AllHold (c ∷ cs) = Holds c × AllHold cs
