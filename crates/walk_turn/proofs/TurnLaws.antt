-- How many requests a call frees: no more than its slice has room for. Assumes nothing.
use Rattle.std.proofs.Common.{◌≡◌, ◌*◌, ◌≤◌, ℕ, Bool, true, false, List, ℤ, Result, refl, length, arith}
use borrow.Author.Tests.{ltb-false}
use lib.Dec.{ltb}
use Rattle.inflight.specs.Model.{no_peer, no_time}
use Rattle.inflight.specs.Tables.{leaving, slots_of, other_at, ends_at, drop_of, gone_of, latest_of, due_of, run_out_of}
use Rattle.inflight.specs.declared.Peer.{Peer}
use Rattle.inflight.specs.declared.Table.{Table}
use Rattle.inflight.specs.declared.Peer.TheVariants as P
use Rattle.refusal.specs.declared.Refusal.{Refusal}
use Rattle.walk_turn.specs.Lines.{count_of, dropped_lines, gone_word}

-- a drop count has two numbers of the slice for each
drop-count : (t : Table) (mask base : ℕ) (out : List ℤ) → 2 * count_of (drop_of t mask base out).answer ≤ length out
unfolding drop_of
drop-count t mask base out = go (ltb (length out) (2 * length (leaving t mask))) refl
  where
    go : (b : Bool) → ltb (length out) (2 * length (leaving t mask)) ≡ b → 2 * count_of (drop_of t mask base out).answer ≤ length out
    go true e = rw e (omega arith)
    go false e = rw e (ltb-false _ _ e)

pub gone-count : (t : Table) (peer : Peer) (out : List ℤ) → 2 * count_of (gone_of t peer out).answer ≤ length out
unfolding gone_of
gone-count t peer out = go (no_peer peer) refl
  where
    go : (b : Bool) → no_peer peer ≡ b → 2 * count_of (gone_of t peer out).answer ≤ length out
    go true e = rw e (omega arith)
    go false e = rw e (drop-count t (slots_of t.masks t.places peer) (other_at peer) out)

pub run-out-count : (t : Table) (time : ℕ) (out : List ℤ) → 2 * count_of (run_out_of t time out).answer ≤ length out
unfolding run_out_of
run-out-count t time out = go (no_time time) refl
  where
    due : ℕ
    due = due_of t.masks t.times (latest_of t.times time)

    go : (b : Bool) → no_time time ≡ b → 2 * count_of (run_out_of t time out).answer ≤ length out
    go true e = rw e (omega arith)
    go false e = rw e (drop-count t due (ends_at false) out)

pub word-short : (peer : Peer) → length (gone_word peer) ≤ 8
word-short (P.Front l) = omega arith
word-short (P.Publisher p) = omega arith

pub dropped_same : {v w : List ℕ} {a b : Result ℕ Refusal} {xs ys : List ℤ} → v ≡ w → a ≡ b → xs ≡ ys → dropped_lines v a xs ≡ dropped_lines w b ys
dropped_same p q r = cc
