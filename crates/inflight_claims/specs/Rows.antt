-- The refusals of the five calls, each "exactly when its row applies and none earlier does": row by row, of every book.
-- By the list claim the table answers so at every point of every list.
-- Assumes nothing.
use Rattle.std.specs.Prelude.{◌≡◌, ℕ, ◌*◌, ◌≤◌, ◌<◌, List, ℤ, pos, length}
use Rattle.inflight.specs.Requests.{Key, Reply, Cancel, key_of}
use Rattle.inflight.specs.Matching.{matching}
use Rattle.inflight.specs.Model.{Model, matched, ask_answer, reply_answer, cancel_answer, gone_answer, run_out_key, run_out_answer}
use Rattle.inflight.specs.declared.FrontNumber.{FrontNumber}
use Rattle.inflight.specs.declared.PublisherNumber.{PublisherNumber}
use Rattle.inflight.specs.declared.Peer.{Peer}
use Rattle.inflight.specs.declared.Peer.TheVariants as P
use Rattle.inflight_claims.specs.ListClaim.{Valid, Capacity}
use Rattle.std.specs.Prelude.{Ok, Err}
use Rattle.refusal.specs.declared.Refusal.TheVariants.{OutOfRange, NumberZero, InFlightAlready, NoSuchRequest, BufferTooSmall}

-- no request that a key matches is in flight
abbrev pub None : Key → Model → Type 0
None k m = length (matching k m.requests) ≡ 0

-- ask: 30, 12, 31; where none of them applies the ask is valid, and is refused with 32 or 33, or accepted, as
-- `Capacity` says
pub record AskRows (m : Model) (l : ℕ) (n : FrontNumber) (p time : ℕ) : Type 0 where
  pub link : 32 ≤ l → ask_answer m l n p time ≡ Err OutOfRange
  pub publisher : 8 ≤ p → ask_answer m l n p time ≡ Err OutOfRange
  pub clock : 4611686018427387904 ≤ time → ask_answer m l n p time ≡ Err OutOfRange
  pub zero : l < 32 → p < 8 → time < 4611686018427387904 → n.0 ≡ pos 0 → ask_answer m l n p time ≡ Err NumberZero
  pub own : l < 32 → p < 8 → time < 4611686018427387904 → (n.0 ≡ pos 0 → ⊥) → (None (Cancel l n) m → ⊥)
      → ask_answer m l n p time ≡ Err InFlightAlready
  pub valid : Valid m l n p time → Capacity m l n p time

-- reply: 30, 12, 34, and else the request's link and front number
pub record ReplyRows (m : Model) (p : ℕ) (n : PublisherNumber) : Type 0 where
  pub range : 8 ≤ p → reply_answer m p n ≡ Err OutOfRange
  pub zero : p < 8 → n.0 ≡ pos 0 → reply_answer m p n ≡ Err NumberZero
  pub none : p < 8 → (n.0 ≡ pos 0 → ⊥) → None (Reply p n) m → reply_answer m p n ≡ Err NoSuchRequest
  pub one : p < 8 → (n.0 ≡ pos 0 → ⊥) → (None (Reply p n) m → ⊥)
      → reply_answer m p n ≡ Ok (record { link = (matched m (Reply p n)).link; number = (matched m (Reply p n)).front })

-- cancel: 30, 12, 34, and else the request's publisher and publisher number
pub record CancelRows (m : Model) (l : ℕ) (n : FrontNumber) : Type 0 where
  pub range : 32 ≤ l → cancel_answer m l n ≡ Err OutOfRange
  pub zero : l < 32 → n.0 ≡ pos 0 → cancel_answer m l n ≡ Err NumberZero
  pub none : l < 32 → (n.0 ≡ pos 0 → ⊥) → None (Cancel l n) m → cancel_answer m l n ≡ Err NoSuchRequest
  pub one : l < 32 → (n.0 ≡ pos 0 → ⊥) → (None (Cancel l n) m → ⊥)
      → cancel_answer m l n ≡ Ok (record { publisher = (matched m (Cancel l n)).publisher; number = (matched m (Cancel l n)).number })

-- gone, by the peer, its number and its side's limit: 30, 16, and else the count
pub record GoneRows (m : Model) (peer : Peer) (limit x : ℕ) (out : List ℤ) : Type 0 where
  pub range : limit ≤ x → gone_answer m peer out ≡ Err OutOfRange
  pub short : x < limit → length out < 2 * length (matching (key_of peer) m.requests)
      → gone_answer m peer out ≡ Err BufferTooSmall
  pub all : x < limit → 2 * length (matching (key_of peer) m.requests) ≤ length out
      → gone_answer m peer out ≡ Ok (length (matching (key_of peer) m.requests))

-- run out: 30, 16, and else the count
pub record RunOutRows (m : Model) (time : ℕ) (out : List ℤ) : Type 0 where
  pub clock : 4611686018427387904 ≤ time → run_out_answer m time out ≡ Err OutOfRange
  pub short : time < 4611686018427387904 → length out < 2 * length (matching (run_out_key m time) m.requests)
      → run_out_answer m time out ≡ Err BufferTooSmall
  pub all : time < 4611686018427387904 → 2 * length (matching (run_out_key m time) m.requests) ≤ length out
      → run_out_answer m time out ≡ Ok (length (matching (run_out_key m time) m.requests))

pub record Rows (m : Model) : Type 0 where
  pub ask : (l : ℕ) (n : FrontNumber) (p time : ℕ) → AskRows m l n p time
  pub reply : (p : ℕ) (n : PublisherNumber) → ReplyRows m p n
  pub cancel : (l : ℕ) (n : FrontNumber) → CancelRows m l n
  pub front : (l : ℕ) (out : List ℤ) → GoneRows m (P.Front l) 32 l out
  pub publisher : (p : ℕ) (out : List ℤ) → GoneRows m (P.Publisher p) 8 p out
  pub run_out : (time : ℕ) (out : List ℤ) → RunOutRows m time out
