-- Call by call: a good table answers, writes the slice and is left as the model; then along the list, and from a fresh
-- table on.
-- Assumes nothing.
use mathlib.Core.Path.{◌≡◌, refl, sym, ap, ◌∙◌, subst}
use Prim.Native.Nat.{ℕ, zero, suc, ◌+◌, ◌*◌, ◌^◌, ◌<◌}
use native.Mathlib.Omega.{arith}
use mathlib.Core.Bool.{Bool, true, false}
use mathlib.Core.List.{List, [], ◌∷◌, ◌++◌, map}
use lib.Dec.{eqb, leb, ltb}
use lib.IntN.{ℤ, pos}
use lib.Signed.{lt_z}
use lib.Count.{ones, ones-ones}
use lib.ListN.{length, take, drop, get_or, set, replicate, length-set, length-map, length-append}
use lib.Seq.{drop_at, get_or-set_same, length-take-le}
use Rattle.wire.specs.Choice.{pick}
use Rattle.wire.proofs.ChoiceLaws.{by_row}
use Rattle.inflight.specs.Numbers.{same}
use Rattle.inflight.specs.Model.{Model, check_ask, empty, no_link, no_publisher, no_peer, no_time}
use Rattle.inflight.specs.Calls.{Call, Heard, ask, reply, cancel, gone, run_out, asked, replied, cancelled, dropped}
use Rattle.inflight.specs.Calls.{table_heard, table_after, table_run, table_at, model_heard, model_after, model_run, model_at}
use Rattle.inflight.specs.declared.FrontNumber.{FrontNumber}
use Rattle.inflight.specs.declared.PublisherNumber.{PublisherNumber}
use Rattle.inflight.specs.declared.Peer.{Peer}
use Rattle.inflight.specs.Masks.{bit_at, outside, laid_out, seek, slots, lowest_free}
use Rattle.inflight.specs.Tables.{Sized, used, mine, line, slots_of, leaving, struck, freed, placed, given_of}
use Rattle.inflight.specs.declared.Table.{Table}
use Rattle.inflight.specs.Tables.{is_number, is_front, check_ask_of, ask_of, reply_of, cancel_of, other_at, drop_of, gone_of}
use Rattle.inflight.specs.Tables.{Replied, Cancelled, fresh_answer, fresh_masks, fresh_numbers, fresh_times, fresh_of, timed_of}
use Rattle.inflight.specs.Tables.{latest_of, due_of, Dropped, dropped_at, run_out_of}
use Rattle.inflight_model.proofs.Capacity.{accepts, bounded-space}
use Rattle.inflight_model.proofs.Invariant.{Ranged, Invariant, inv-call, inv-empty}
use Rattle.inflight_tied.proofs.Tied.{occ, Below, Aged, Tied, entry, in_flight, model_of}
use Rattle.inflight_tied.proofs.Ties.{occ-nil}
use Rattle.inflight_tied.proofs.LaidOut.{anew-length}
use Rattle.inflight_tied.proofs.Cuts.{struck-tied}
use Rattle.inflight_tied.proofs.Placed.{bit-of-zero}
use Rattle.inflight_tied.proofs.Loads.{length-standing}
use Rattle.inflight_tied.proofs.Takes.{reply-same, cancel-same}
use Rattle.inflight_tied.proofs.Drops.{slots-fit, gone_same}
use Rattle.inflight_tied.proofs.Asks.{ask-all}
use Rattle.inflight_tied.proofs.RunOuts.{seeing, run-out-same}
use Rattle.std.specs.Prelude.{Result, Ok, Err, ⊤}
use Rattle.refusal.specs.declared.Refusal.{Refusal}
use Rattle.refusal.specs.declared.Refusal.TheVariants.{OutOfRange}

-- ---- the tie and the sizes are kept

pub record Kept (w : Table) : Type 0 where
  pub tied : Tied w
  pub sized : Sized w

struck-sized : (w : Table) (g : ℕ) → Sized w → Sized (struck w g)
unfolding struck
struck-sized w g l =
    record {
      masks = length-map w.masks _ ∙ l.masks;
      numbers = l.numbers;
      places = l.places;
      order = anew-length (outside g (line w)) 0 w.order ∙ l.order;
      times = l.times;
    }

struck-kept : (w : Table) (g : ℕ) → g < 2 ^ 64 → Kept w → Kept (struck w g)
struck-kept w g f h = record { tied = struck-tied w g f h.tied; sized = struck-sized w g h.sized }

seeing-sized : (w : Table) (now : ℕ) → Sized w → Sized (seeing w now)
seeing-sized w now l =
    record {
      masks = l.masks;
      numbers = l.numbers;
      places = l.places;
      order = l.order;
      times = length-set w.times 64 now ∙ l.times;
    }

freed-sized : (w : Table) (s : ℕ) → Sized w → Sized (freed w s)
unfolding freed
freed-sized w s l =
    record {
      masks = length-map w.masks _ ∙ l.masks;
      numbers = l.numbers;
      places = l.places;
      order = length-map w.order _ ∙ l.order;
      times = l.times;
    }

placed-sized : (w : Table) (a : ℕ) (n : FrontNumber) (p s : ℕ) (g : PublisherNumber) (time timeout : ℕ) → Sized w
    → Sized (placed w a n p s g time timeout)
unfolding timed_of
placed-sized w a n p s g time timeout l =
    record {
      masks = simp length-set l.masks;
      numbers = simp length-set l.numbers;
      places = simp length-set l.places;
      order = simp length-set l.order;
      times = simp length-set l.times;
    }

ask-sized : (w : Table) (l : ℕ) (n : FrontNumber) (p time timeout : ℕ) → Sized w
    → Sized (ask_of w l n p time timeout).table
unfolding ask_of
ask-sized w l n p time timeout h = go (check_ask_of w l n p time) refl (leb 64 (lowest_free (used w))) refl
  where
    go : (x : Result ⊤ Refusal) → check_ask_of w l n p time ≡ x → (y : Bool)
        → leb 64 (lowest_free (used w)) ≡ y → Sized (ask_of w l n p time timeout).table
    go (Err x) e y d = rw e h
    go (Ok x) e true d = rw (e, d) h
    go (Ok x) e false d = rw (e, d) (placed-sized w l n p (lowest_free (used w)) (given_of w p) time timeout h)

reply-sized : (w : Table) (p : ℕ) (n : PublisherNumber) → Sized w → Sized (reply_of w p n).table
unfolding reply_of
reply-sized w p n h =
    let sized : (Replied → Type 0) = λ a. Sized a.table in
    by_row sized (no_publisher p) _ _ (λ a. h)
    (λ a. by_row sized (same n.0 (pos 0)) _ _ (λ b. h)
    (λ b. by_row sized (leb 64 (seek (is_number w.numbers n) (slots (mine w p)))) _ _ (λ c. h)
    (λ c. freed-sized w _ h)))

cancel-sized : (w : Table) (l : ℕ) (n : FrontNumber) → Sized w → Sized (cancel_of w l n).table
unfolding cancel_of
cancel-sized w l n h =
    let sized : (Cancelled → Type 0) = λ a. Sized a.table in
    by_row sized (no_link l) _ _ (λ a. h)
    (λ a. by_row sized (same n.0 (pos 0)) _ _ (λ b. h)
    (λ b. by_row sized (leb 64 (seek (is_front w.numbers w.places l n) (slots (used w)))) _ _ (λ c. h)
    (λ c. freed-sized w _ h)))

drop-kept : (w : Table) (g base : ℕ) (out : List ℤ) → g < 2 ^ 64 → Kept w → Kept (drop_of w g base out).table
unfolding drop_of
drop-kept w g base out f h = go (ltb (length out) (2 * length (leaving w g))) refl
  where
    go : (x : Bool) → ltb (length out) (2 * length (leaving w g)) ≡ x → Kept (drop_of w g base out).table
    go true e = rw e h
    go false e = rw e (struck-kept w g f h)

gone-kept : (w : Table) (peer : Peer) (out : List ℤ) → Kept w → Kept (gone_of w peer out).table
unfolding gone_of
gone-kept w peer out h = go (no_peer peer) refl
  where
    go : (x : Bool) → no_peer peer ≡ x → Kept (gone_of w peer out).table
    go true e = rw e h
    go false e =
        rw e
        (drop-kept w (slots_of w.masks w.places peer) (other_at peer) out (slots-fit w h.tied peer) h)

run-out-sized : (w : Table) (time : ℕ) (out : List ℤ) → Sized w → Sized (run_out_of w time out).table
unfolding run_out_of drop_of struck
run-out-sized w time out h =
    let sized : (Dropped → Type 0) = λ r. Sized r.table in
    by_row sized (no_time time) _ _ (λ e. h)
    (λ e. by_row (λ r. Sized (dropped_at w.times now r).table) (ltb (length out) (2 * length (leaving w g))) _ _ (λ s. h)
    (λ s. seeing-sized (struck w g) now (struck-sized w g h)))
  where
    now : ℕ
    now = latest_of w.times time

    g : ℕ
    g = due_of w.masks w.times now

-- ---- one call

pub record Good (w : Table) : Type 0 where
  pub kept : Kept w
  pub inv : Invariant (model_of w)

pub record Same (w : Table) (c : Call) : Type 0 where
  pub answer : table_heard w c ≡ model_heard (model_of w) c
  pub table : model_of (table_after w c) ≡ model_after (model_of w) c
  pub kept : Kept (table_after w c)

heard-eq : {a b : Result ℕ Refusal} {x y : List ℤ} → a ≡ b → x ≡ y → dropped a x ≡ dropped b y
heard-eq p q = rw (p, q)

pub same-call : (w : Table) (c : Call) → Good w → Same w c
same-call w (ask l n p time timeout) g =
    let r = ask-all w g.kept.tied g.kept.sized g.inv.seen l n p time timeout (λ e. room e) in
    record {
      answer = ap asked r.answer;
      table = r.table;
      kept = record { tied = r.kept; sized = ask-sized w l n p time timeout g.kept.sized };
    }
  where
    room : check_ask (model_of w) l n p time ≡ Ok tt → ones (used w) < 64
    room e =
        let a = bounded-space (in_flight w) p g.inv.bounded (accepts (model_of w) l n p time e) in
        let b = length-standing w g.kept.tied in
        omega (arith, a, b)
same-call w (reply p n) g =
    let r = reply-same w g.kept.tied p n (g.inv.once p n) in
    record {
      answer = ap replied r.answer;
      table = r.table;
      kept = record { tied = r.kept; sized = reply-sized w p n g.kept.sized };
    }
same-call w (cancel l n) g =
    let r = cancel-same w g.kept.tied l n (g.inv.front_once l n) in
    record {
      answer = ap cancelled r.answer;
      table = r.table;
      kept = record { tied = r.kept; sized = cancel-sized w l n g.kept.sized };
    }
same-call w (gone peer out) g =
    let r = gone_same w g.kept.tied peer out in
    record { answer = heard-eq r.answer r.slice; table = r.table; kept = gone-kept w peer out g.kept }
same-call w (run_out time out) g =
    let r = run-out-same w g.kept.tied g.kept.sized g.inv.seen time out in
    record {
      answer = heard-eq r.answer r.slice;
      table = r.table;
      kept = record { tied = r.kept; sized = run-out-sized w time out g.kept.sized };
    }

pub good-after : (w : Table) (c : Call) → Good w → Good (table_after w c)
good-after w c g =
    let r = same-call w c g in
    record { kept = r.kept; inv = subst Invariant (sym r.table) (inv-call (model_of w) c g.inv) }

-- ---- the list

pub run-same : (cs : List Call) (w : Table) → Good w → table_run w cs ≡ model_run (model_of w) cs
unfolding table_run model_run
run-same [] w g = refl
run-same (c ∷ cs) w g =
    let r = same-call w c g in
    let i : table_run (table_after w c) cs ≡ model_run (model_after (model_of w) c) cs =
    run-same cs (table_after w c) (good-after w c g) ∙ ap (λ (b : Model). model_run b cs) r.table in
    ap (λ (h : Heard). h ∷ table_run (table_after w c) cs) r.answer
    ∙ ap (λ (hs : List Heard). model_heard (model_of w) c ∷ hs) i

-- the table after some calls reads as the model after them, and answers the next call as it does
pub record Stays (w : Table) (cs : List Call) : Type 0 where
  pub model : model_of (table_at w cs) ≡ model_at (model_of w) cs
  pub good : Good (table_at w cs)

pub stays : (cs : List Call) (w : Table) → Good w → Stays w cs
unfolding table_at model_at
stays [] w g = record { model = refl; good = g }
stays (c ∷ cs) w g =
    let r = same-call w c g in
    let s = stays cs (table_after w c) (good-after w c g) in
    record { model = s.model ∙ ap (λ (b : Model). model_at b cs) r.table; good = s.good }

pub heard-at : (cs : List Call) (c : Call) (w : Table) → Good w
    → table_heard (table_at w cs) c ≡ model_heard (model_at (model_of w) cs) c
heard-at cs c w g =
    let s = stays cs w g in
    (same-call (table_at w cs) c s.good).answer ∙ ap (λ (b : Model). model_heard b c) s.model

-- ---- a fresh table, over any contents

-- fresh accepts a first number that is not below 1
pub fresh-ready : (w : Table) (n : PublisherNumber) → lt_z n.0 (pos 1) ≡ false → (fresh_of w n).answer ≡ Ok tt
unfolding fresh_of fresh_answer
fresh-ready w n h = rw h

-- and no other
pub ready-not-below : (w : Table) (n : PublisherNumber) → (fresh_of w n).answer ≡ Ok tt → lt_z n.0 (pos 1) ≡ false
unfolding fresh_of fresh_answer
ready-not-below w n r = go (lt_z n.0 (pos 1)) r
  where
    go : (b : Bool) → pick {A = Result ⊤ Refusal} b (Err OutOfRange) (Ok tt) ≡ Ok tt → b ≡ false
    go true q = cc
    go false q = refl

zero-mask : (k i : ℕ) → ◌≡◌ {A = ℕ} (get_or (replicate k 0) i 0) 0
zero-mask zero i = refl
zero-mask (suc k) zero = refl
zero-mask (suc k) (suc i) = zero-mask k i

nothing : (x : Bool) → ◌≡◌ {A = ℕ} (pick x 0 0) 0
nothing true = refl
nothing false = refl

module _ (w : Table) (n : PublisherNumber) (z : Sized w) (low : lt_z n.0 (pos 1) ≡ false) where
  table : Table
  table =
      record {
        masks = replicate 9 0;
        numbers = take 128 w.numbers ++ replicate 8 n.0;
        places = w.places;
        order = w.order;
        times = set w.times 64 0;
      }

  fresh-is : (fresh_of w n).table ≡ table
  unfolding fresh_of fresh_masks fresh_numbers fresh_times table
  fresh-is = rw low

  no_line : line table ≡ []
  unfolding table line
  no_line = ap (λ (k : ℕ). take k (laid_out w.order (slots 0) (replicate 64 0))) (ones-ones 0)

  front : length (take 128 w.numbers) ≡ 128
  front = length-take-le 128 w.numbers (let a = z.numbers in omega arith)

  table-model : model_of table ≡ empty n
  unfolding table empty in_flight
  table-model =
      ap
      (λ (xs : List ℕ). record {
        requests = map (entry table) xs;
        next = map (λ x. record { 0 = x }) (drop 128 (take 128 w.numbers ++ replicate 8 n.0));
        seen = get_or (set w.times 64 0) 64 0;
      })
      no_line
      ∙ ap
      (λ (xs : List ℤ). record {
        requests = [];
        next = map (λ x. record { 0 = x }) xs;
        seen = get_or (set w.times 64 0) 64 0;
      })
      (drop_at (take 128 w.numbers) (replicate 8 n.0) 128 front)
      ∙ ap (λ (s : ℕ). record { requests = []; next = replicate 8 n; seen = s })
      (get_or-set_same w.times 64 0 0 (let a = z.times in omega arith))

  table-tied : Tied table
  unfolding table Below Aged
  table-tied =
      record {
        fits = omega arith;
        narrow = λ p. rw (zero-mask 9 (1 + p)) (omega arith);
        low = rw no_line tt;
        tie = λ i h. ap (occ i) no_line ∙ occ-nil i ∙ sym (bit-of-zero i);
        own =
            λ p h i k. ap (bit_at i) (zero-mask 9 (1 + p))
            ∙ bit-of-zero i
            ∙ sym
            (ap (λ (b : ℕ). pick (eqb (get_or w.places (64 + i) 0) p) b 0) (bit-of-zero i)
            ∙ nothing (eqb (get_or w.places (64 + i) 0) p));
        whole = z.order;
        aged = rw no_line tt;
      }

  table-sized : Sized table
  unfolding table
  table-sized =
      record {
        masks = refl;
        numbers = length-append (take 128 w.numbers) (replicate 8 n.0) ∙ ap (λ (k : ℕ). k + 8) front;
        places = z.places;
        order = z.order;
        times = length-set w.times 64 0 ∙ z.times;
      }

  -- it reads as the empty model
  pub fresh-model : model_of (fresh_of w n).table ≡ empty n
  fresh-model = ap model_of fresh-is ∙ table-model

  pub fresh-good : Ranged n → Good (fresh_of w n).table
  fresh-good r =
      subst Good (sym fresh-is)
      (record {
        kept = record { tied = table-tied; sized = table-sized };
        inv = subst Invariant (sym table-model) (inv-empty n r);
      })
