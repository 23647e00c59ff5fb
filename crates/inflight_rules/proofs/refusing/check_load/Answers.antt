-- The load, then the capacity.
-- Assumes nothing.
use borrow.Author.Tests.{eq-eqb, ne_eqb, le-leb, lt-leb}
use mathlib.Core.Path.{sym, ◌∙◌}
use Prim.Native.Nat.{ℕ, ◌+◌}
use native.Mathlib.Omega.{arith}
use lib.ListN.{get_or}
use lib.Count.{ones}
use Rattle.inflight.specs.Tables.{check_load}
use Rattle.inflight_rules.proofs.refusing.check_load.Goals as goal

pub returns-then-load-ge16 : goal.returns-then-load-ge16
unfolding check_load
returns-then-load-ge16 c =
    let L : ℕ = ones (get_or c.args.masks.now (1 + c.args.publisher) 0) in
    let n = c.count-load.ensures.0 in
    rw (le-leb 16 L (omega arith))

pub returns-then-load-lt4 : goal.returns-then-load-lt4
unfolding check_load
returns-then-load-lt4 c =
    let L : ℕ = ones (get_or c.args.masks.now (1 + c.args.publisher) 0) in
    let n = c.count-load.ensures.0 in
    rw (lt-leb 16 L (omega arith), lt-leb 4 L (omega arith))

pub returns-then-capacity_taken-eq64 : goal.returns-then-capacity_taken-eq64
unfolding check_load
returns-then-capacity_taken-eq64 c =
    let L : ℕ = ones (get_or c.args.masks.now (1 + c.args.publisher) 0) in
    let n = c.count-load.ensures.0 in
    rw (lt-leb 16 L (omega arith), le-leb 4 L (omega arith), eq-eqb _ 64 (sym c.capacity_taken.ensures ∙ c.if-capacity_taken-eq64.true))

pub returns : goal.returns
unfolding check_load
returns c =
    let L : ℕ = ones (get_or c.args.masks.now (1 + c.args.publisher) 0) in
    let n = c.count-load.ensures.0 in
    rw (lt-leb 16 L (omega arith), le-leb 4 L (omega arith), ne_eqb _ 64 (λ q. c.if-capacity_taken-eq64.false (c.capacity_taken.ensures ∙ q)))
