-- Requests in flight (document 01: tickets, entries of the book), and what a call names them by.
-- Assumes nothing.
use Rattle.std.specs.Prelude.{ℕ, Bool, ◌&&◌, leb, ltb}
use Rattle.inflight.specs.declared.FrontNumber.{FrontNumber}
use Rattle.inflight.specs.declared.PublisherNumber.{PublisherNumber}
use Rattle.inflight.specs.declared.Peer.{Peer}
use Rattle.inflight.specs.declared.Peer.TheVariants as P

-- a request in flight
pub record Request : Type 0 where
  pub link : ℕ
  pub front : FrontNumber
  pub publisher : ℕ
  pub number : PublisherNumber
  -- "the latest time seen plus the timeout", in ms; 0, which no such sum is, for none (document 02, A2)
  pub deadline : ℕ

-- publisher and number, link and number, link, publisher, and a time at or after the deadline
pub data Key : Type 0 where
  Reply : ℕ → PublisherNumber → Key
  Cancel : ℕ → FrontNumber → Key
  Closed : ℕ → Key
  Lost : ℕ → Key
  Due : ℕ → Key

-- whether a deadline is there, and "at or before" a time
abbrev pub due : ℕ → ℕ → Bool
due deadline time = ltb 0 deadline && leb deadline time

-- a gone peer names all requests of its link, or all of its publisher (document 02, A4)
abbrev pub key_of : Peer → Key
key_of (P.Front l) = Closed l
key_of (P.Publisher p) = Lost p
