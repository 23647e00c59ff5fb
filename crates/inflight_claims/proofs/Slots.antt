-- Loads and the count in use by masks along every list, and no request moves: proved.
-- Assumes nothing.
use mathlib.Core.Path.{◌≡◌, refl, sym, ap, ◌∙◌}
use Prim.Native.Nat.{ℕ, zero, suc, ◌+◌, ◌-◌, ◌*◌, ◌/◌, ◌%◌, ◌^◌, ◌<◌}
use native.Mathlib.Omega.{arith}
use mathlib.Core.Bool.{Bool, true, false}
use mathlib.Core.List.{List}
use lib.Dec.{leb, ltb}
use lib.Count.{count_trailing_zeros, trailing_of_zero, under}
use lib.IntN.{ℤ, pos}
use lib.ListN.{length}
use lib.Seq.{get_or-set_other}
use mir.Syntax.{w64}
use mir.Val.{SFits}
use borrow.Author.Tests.{leb-true, leb-false}
use Rattle.wire.proofs.ChoiceLaws.{by_row}
use Rattle.inflight.specs.Numbers.{same}
use Rattle.inflight.specs.Matching.{load}
use Rattle.inflight.specs.Masks.{bit_at, seek, slots, lowest_free}
use Rattle.inflight.specs.Model.{Model, empty, no_link, no_publisher, no_peer, no_time}
use Rattle.inflight.specs.Requests.{Request}
use Rattle.inflight.specs.Tables.{Sized, table_of, used, mine, placed, given_of, struck, freed, slots_of, leaving}
use Rattle.inflight.specs.declared.Table.{Table}
use Rattle.inflight.specs.Tables.{is_number, is_front, check_ask_of, fresh_of, asked_after, ask_of, reply_of, cancel_of, other_at, drop_of}
use Rattle.inflight.specs.Tables.{Asked, Replied, Cancelled, Dropped, gone_of, ends_at, latest_of, due_of, dropped_at, run_out_of}
use Rattle.inflight.specs.Calls.{Call, ask, reply, cancel, gone, run_out, table_at, model_at}
use Rattle.inflight.specs.declared.FrontNumber.{FrontNumber}
use Rattle.inflight.specs.declared.PublisherNumber.{PublisherNumber}
use Rattle.inflight.proofs.MaskLaws.{twice}
use Rattle.inflight_tied.proofs.Tied.{in_flight, model_of}
use Rattle.inflight_tied.proofs.Loads.{load-ones, length-standing}
use Rattle.inflight_tied.proofs.Placed.{free-slot}
use Rattle.inflight_tied.proofs.Asks.{numbers-old, places-old, deadline-old}
use Rattle.inflight_tied.proofs.Simulated.{Stays, stays, ready-not-below, fresh-good, fresh-model}
use Rattle.inflight_claims.specs.Slots.{LoadsByMasks, UsedByMask, SeenByTimes, LowestSlot, Unmoved, NeverMoves}
use Rattle.inflight_claims.proofs.ListClaim.{ready-ranged}
use Rattle.std.specs.Prelude.{Result, Ok, Err, ⊤}
use Rattle.refusal.specs.declared.Refusal.{Refusal}

-- ---- along the list the table is tied, and reads as the model

module _ (t : Table) (z : Sized t) (first : PublisherNumber) (f : SFits w64 first.0)
    (r : (fresh_of t first).answer ≡ Ok tt) (cs : List Call) where
  along : Stays (fresh_of t first).table cs
  along =
      stays cs (fresh_of t first).table
      (fresh-good t first z (ready-not-below t first r) (ready-ranged t first f r))

  read : model_of (table_at (fresh_of t first).table cs) ≡ model_at (empty first) cs
  read = along.model ∙ ap (λ (m : Model). model_at m cs) (fresh-model t first z (ready-not-below t first r))

  as-model : in_flight (table_at (fresh_of t first).table cs) ≡ (model_at (empty first) cs).requests
  as-model = ap (λ (m : Model). m.requests) read

pub loads-by-masks : LoadsByMasks
loads-by-masks t z first f r cs p h =
    load-ones (table_at (fresh_of t first).table cs) (along t z first f r cs).good.kept.tied p h
    ∙ ap (λ (es : List Request). load es p) (as-model t z first f r cs)

pub used-by-mask : UsedByMask
used-by-mask t z first f r cs =
    sym (length-standing (table_at (fresh_of t first).table cs) (along t z first f r cs).good.kept.tied)
    ∙ ap length (as-model t z first f r cs)

pub seen-by-times : SeenByTimes
seen-by-times t z first f r cs = ap (λ (m : Model). m.seen) (read t z first f r cs)

-- ---- the lowest free slot

-- every bit below the trailing zeros of the inverted mask is set
below : (k n j : ℕ) → n < 2 ^ k → j < count_trailing_zeros k (2 ^ k - 1 - n) → bit_at j n ≡ 1
unfolding count_trailing_zeros bit_at
below zero n j h l = absurd (omega arith)
below (suc k) n j h l = go ((2 ^ suc k - 1 - n) % 2) refl l j refl (below k (n / 2))
  where
    go : (d : ℕ) → (2 ^ suc k - 1 - n) % 2 ≡ d → j < under d (count_trailing_zeros k ((2 ^ suc k - 1 - n) / 2)) → (i : ℕ) → j ≡ i
        → ((i : ℕ) → n / 2 < 2 ^ k → i < count_trailing_zeros k (2 ^ k - 1 - n / 2) → bit_at i (n / 2) ≡ 1) → bit_at i n ≡ 1
    go (suc d) e l i q m = absurd (omega arith)
    go zero e l zero q m = let t = twice k in omega arith
    go zero e l (suc i) q m =
        let t = twice k in
        let z : (2 ^ suc k - 1 - n) / 2 ≡ 2 ^ k - 1 - n / 2 = omega arith in
        m i (omega arith) (rw (← z) (omega arith))

pub lowest-slot : LowestSlot
unfolding lowest_free
lowest-slot u h = (λ j l. below 64 u j h l, λ l. free-slot u h l)

-- ---- no request moves

-- a slot that a mask has is not its lowest free one; a mask of more than 64 bits leaves none free
used-apart : (u i : ℕ) → bit_at i u ≡ 1 → lowest_free u < 64 → i ≡ lowest_free u → ⊥
unfolding lowest_free
used-apart u i b h e = go (leb 18446744073709551616 u) refl
  where
    go : (x : Bool) → leb 18446744073709551616 u ≡ x → ⊥
    go true q =
        let m : 18446744073709551615 - u ≡ 0 = let a = leb-true 18446744073709551616 u q in omega arith in
        let z : lowest_free u ≡ 64 = ap (count_trailing_zeros 64) m ∙ trailing_of_zero 64 in
        omega (arith, h, z)
    go false q =
        let z = free-slot u (leb-false 18446744073709551616 u q) h in
        let y : bit_at i u ≡ 0 = ap (λ (j : ℕ). bit_at j u) e ∙ z in
        omega (arith, b, y)

module _ (t : Table) (i : ℕ) where
  -- where only masks and order change
  stay : {ms os : List ℕ} → Unmoved t (table_of ms t.numbers t.places os t.times) i
  stay = record { front = refl; number = refl; link = refl; publisher = refl; deadline = refl }

  -- a request that is placed in another slot
  placed-stay : (l : ℕ) (n : FrontNumber) (p s : ℕ) (g : PublisherNumber) (time timeout : ℕ) → i < 64 → s < 64
      → (i ≡ s → ⊥) → Unmoved t (placed t l n p s g time timeout) i
  placed-stay l n p s g time timeout h k d =
      record {
        front = numbers-old t l n p s g time timeout i d (λ e. omega arith) (λ e. omega arith);
        number = numbers-old t l n p s g time timeout (64 + i) (λ e. omega arith) (λ e. d (omega arith)) (λ e. omega arith);
        link = places-old t l n p s g time timeout i d (λ e. omega arith);
        publisher = places-old t l n p s g time timeout (64 + i) (λ e. omega arith) (λ e. d (omega arith));
        deadline = deadline-old t l n p s g time timeout i h d;
      }

  drop-stay : (g base : ℕ) (out : List ℤ) → Unmoved t (drop_of t g base out).table i
  unfolding drop_of struck
  drop-stay g base out =
      by_row (λ (a : Dropped). Unmoved t a.table i) (ltb (length out) (2 * length (leaving t g))) _ _ (λ e. stay)
      (λ e. stay)

  -- where the latest time changes too
  run-out-stay : (g base now : ℕ) (out : List ℤ) → i < 64
      → Unmoved t (dropped_at t.times now (drop_of t g base out)).table i
  unfolding drop_of struck
  run-out-stay g base now out h =
      by_row (λ (a : Dropped). Unmoved t (dropped_at t.times now a).table i)
      (ltb (length out) (2 * length (leaving t g))) _ _ (λ e. stay)
      (λ e. record {
        front = refl;
        number = refl;
        link = refl;
        publisher = refl;
        deadline = get_or-set_other t.times 64 i now 0 (λ q. omega arith);
      })

-- what an ask leaves, by its check
by_check : (P : Asked → Type 0) (t : Table) (r : Result ⊤ Refusal) (a : Asked) → P a → ((e : Refusal) → P (record { table = t; answer = Err e }))
    → P (asked_after t r a)
by_check P t (Ok x) a h k = h
by_check P t (Err e) a h k = k e

pub never-moves : NeverMoves
unfolding ask_of reply_of cancel_of gone_of run_out_of freed
never-moves t (ask l n p time timeout) i h b =
    let kept : (Asked → Type 0) = λ a. Unmoved t a.table i in
    let s : ℕ = lowest_free (used t) in
    by_check kept t (check_ask_of t l n p time) _
    (by_row kept (leb 64 s) _ _ (λ d. stay t i)
    (λ d. let k = leb-false 64 s d in
    placed-stay t i l n p s (given_of t p) time timeout h k (used-apart (used t) i b k)))
    (λ e. stay t i)
never-moves t (reply p n) i h b =
    let kept : (Replied → Type 0) = λ a. Unmoved t a.table i in
    by_row kept (no_publisher p) _ _ (λ e. stay t i)
    (λ e. by_row kept (same n.0 (pos 0)) _ _ (λ d. stay t i)
    (λ d. by_row kept (leb 64 (seek (is_number t.numbers n) (slots (mine t p)))) _ _ (λ q. stay t i)
    (λ q. stay t i)))
never-moves t (cancel l n) i h b =
    let kept : (Cancelled → Type 0) = λ a. Unmoved t a.table i in
    by_row kept (no_link l) _ _ (λ e. stay t i)
    (λ e. by_row kept (same n.0 (pos 0)) _ _ (λ d. stay t i)
    (λ d. by_row kept (leb 64 (seek (is_front t.numbers t.places l n) (slots (used t)))) _ _ (λ q. stay t i)
    (λ q. stay t i)))
never-moves t (gone peer out) i h b =
    by_row (λ (a : Dropped). Unmoved t a.table i) (no_peer peer) _ _ (λ e. stay t i)
    (λ e. drop-stay t i (slots_of t.masks t.places peer) (other_at peer) out)
never-moves t (run_out time out) i h b =
    let now : ℕ = latest_of t.times time in
    by_row (λ (a : Dropped). Unmoved t a.table i) (no_time time) _ _ (λ e. stay t i)
    (λ e. run-out-stay t i (due_of t.masks t.times now) (ends_at false) now out h)
