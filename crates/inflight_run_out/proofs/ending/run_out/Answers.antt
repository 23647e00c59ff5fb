-- Run out: a time out of range is refused; else the due slots.
-- Assumes nothing.
use mathlib.Core.Path.{◌≡◌, refl, sym, ap, ◌∙◌}
use mathlib.Core.Bool.{false}
use Prim.Native.Nat.{ℕ}
use lib.ListN.{set}
use Rattle.refusal.proofs.Passing.{passed}
use Rattle.inflight.specs.Tables.{table_of, ends_at, Dropped, drop_of, run_out_of}
use Rattle.inflight.specs.declared.Table.{Table}
use Rattle.inflight_run_out.proofs.EndingLaws.{drop-times, run-out-eq, unseen, seen}
use Rattle.inflight_run_out.proofs.ending.run_out.Goals as goal

pub returns-then-no_time : goal.returns-then-no_time
unfolding run_out_of
returns-then-no_time c = rw (sym c.no_time.ensures ∙ c.if-no_time.true) (refl, refl, refl)

pub returns-in_err-count : goal.returns-in_err-count
returns-in_err-count c =
    let a = c.args in
    let t = a.table.now in
    let now : ℕ = c.latest-seen.result in
    let mask : ℕ = c.find_due-mask.result in
    let d = drop_of t mask (ends_at false) a.out.now in
    let q = run-out-eq t a.time a.out.now now mask (sym c.no_time.ensures ∙ c.if-no_time.false) c.latest-seen.ensures.0 c.find_due-mask.ensures in
    let e = c.drop_slots.ensures in
    let n : d.answer ≡ c.drop_slots.result = sym e.0 in (
      passed c.from_residual.result _ c.from_residual.ensures.1 ∙ sym c.in_err-count.was ∙ e.0 ∙ ap (λ (r : Dropped). r.answer) q,
      e.1 ∙ unseen t.times now d (drop-times t mask (ends_at false) a.out.now) _ (n ∙ c.in_err-count.was) ∙ ap (λ (r : Dropped). r.table) q,
      e.2 ∙ ap (λ (r : Dropped). r.slice) q,
    )

pub returns : goal.returns
returns c =
    let a = c.args in
    let t = a.table.now in
    let now : ℕ = c.latest-seen.result in
    let mask : ℕ = c.find_due-mask.result in
    let d = drop_of t mask (ends_at false) a.out.now in
    let q = run-out-eq t a.time a.out.now now mask (sym c.no_time.ensures ∙ c.if-no_time.false) c.latest-seen.ensures.0 c.find_due-mask.ensures in
    let e = c.drop_slots.ensures in
    let n : d.answer ≡ c.drop_slots.result = sym e.0 in (
      sym c.in_ok-count.was ∙ e.0 ∙ ap (λ (r : Dropped). r.answer) q,
      ap (λ (w : Table). table_of w.masks w.numbers w.places w.order (set w.times 64 now)) e.1
          ∙ seen t.times now d (drop-times t mask (ends_at false) a.out.now) _ (n ∙ c.in_ok-count.was) ∙ ap (λ (r : Dropped). r.table) q,
      e.2 ∙ ap (λ (r : Dropped). r.slice) q,
    )
