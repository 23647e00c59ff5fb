-- A walk with room for the lines of one event: what it has done so far is `Came`; each turn and each way out add to it.
-- Assumes nothing.
use mathlib.Core.Path.{◌≡◌, refl, sym, ap, ◌∙◌}
use Prim.Native.Nat.{◌+◌, ◌-◌, ◌≤◌}
use native.Mathlib.Omega.{arith}
use lib.ListN.{length, drop}
use lib.Seq.{length-take-le}
use Rattle.wire.proofs.StoreLaws.{lent}
use Rattle.walk_events.specs.Events.{event_of}
use Rattle.walk.proofs.WalkLaws.{came-first, none_left, wait-ends, full-ends, record-within, stop-ends, goes_on}
use Rattle.walk_events.proofs.EventLaws.{sized, some-bytes, unsized}
use Rattle.walk.proofs.WalkLaws.{lines-known, lines-short}
use Rattle.walk.proofs.walking.walk_with.Goals as goal

pub loop-init : goal.loop-init
loop-init c =
    let a = c.args in
    let all : length a.events.now - 0 ≡ length a.events.now = omega arith in
    rw all (came-first a.table.now a.events.now a.out.now a.last)

pub slice_bounds-copy-end : goal.slice_bounds-copy-end
slice_bounds-copy-end c = (lines-known c.turn-n.ensures (omega arith)).enough

pub slice_bounds-copy-end-in-loop : goal.slice_bounds-copy-end-in-loop
slice_bounds-copy-end-in-loop c =
    let k = lines-known c.turn-n.ensures (omega arith) in
    sym (length-take-le _ _ k.enough)

pub overflow_add-to : goal.overflow_add-to
overflow_add-to c =
    let l = c.loop in
    let k = lines-known c.turn-n.ensures (omega arith) in
    record { fits = omega (arith, k.size, lines-short l.table c.event-e.result, c.if-left-lt4096.false, c.left.ensures, l.invariant.same) }

pub returns-in_default : goal.returns-in_default
returns-in_default c =
    let a = c.args in
    let l = c.loop in
    let read : c.event-e.result ≡ event_of (drop l.at a.events.now) = c.event-e.ensures ∙ ap event_of (lent a.events.now l.at) in
    let roomy : 4096 ≤ length a.out.now - l.to = omega (arith, l.invariant.same, c.left.ensures, c.if-left-lt4096.false) in
    let none = unsized c.event-e.result c.in_default.ensures in
    stop-ends a.table.now a.events.now a.out.now a.last l.invariant (omega arith) read
    (lines-known c.turn-n.ensures (omega arith)) (sym c.must_wait.ensures ∙ c.if-must_wait.false) roomy
    refl c.copy.ensures none

pub overflow_add-at : goal.overflow_add-at
overflow_add-at c =
    let a = c.args in
    let l = c.loop in
    let read : c.event-e.result ≡ event_of (drop l.at a.events.now) = c.event-e.ensures ∙ ap event_of (lent a.events.now l.at) in
    let within = record-within a.table.now a.events.now a.out.now a.last l.invariant (omega arith) read in
    record { fits = omega (arith, within, sized c.event-e.result c.in-Some.ensures) }

pub loop-preserved : goal.loop-preserved
loop-preserved c =
    let a = c.args in
    let l = c.loop in
    let read : c.event-e.result ≡ event_of (drop l.at a.events.now) = c.event-e.ensures ∙ ap event_of (lent a.events.now l.at) in
    let roomy : 4096 ≤ length a.out.now - l.to = omega (arith, l.invariant.same, c.left.ensures, c.if-left-lt4096.false) in
    let on =
    goes_on a.table.now a.events.now a.out.now a.last l.invariant (omega arith) read (lines-known c.turn-n.ensures (omega arith))
    (sym c.must_wait.ensures ∙ c.if-must_wait.false) roomy
    (sized c.event-e.result c.in-Some.ensures) c.copy.ensures (some-bytes c.event-e.result c.in-Some.ensures) in
    let e : length a.events.now - l.counter - 1 ≡ length a.events.now - (l.counter + 1) = omega arith in
    rw e at on

pub returns-after-loop : goal.returns-after-loop
returns-after-loop c =
    let a = c.args in
    none_left a.table.now a.events.now a.out.now a.last c.loop.invariant (omega arith)

pub returns-then-must_wait : goal.returns-then-must_wait
returns-then-must_wait c =
    let a = c.args in
    let l = c.loop in
    let read : c.event-e.result ≡ event_of (drop l.at a.events.now) = c.event-e.ensures ∙ ap event_of (lent a.events.now l.at) in
    wait-ends a.table.now a.events.now a.out.now a.last l.invariant (omega arith) read
    (sym c.must_wait.ensures ∙ c.if-must_wait.true)

pub returns-then-left-lt4096 : goal.returns-then-left-lt4096
returns-then-left-lt4096 c =
    let a = c.args in
    let l = c.loop in
    let read : c.event-e.result ≡ event_of (drop l.at a.events.now) = c.event-e.ensures ∙ ap event_of (lent a.events.now l.at) in
    full-ends a.table.now a.events.now a.out.now a.last l.invariant (omega arith) read
    (sym c.must_wait.ensures ∙ c.if-must_wait.false)
    (omega (arith, l.invariant.same, c.left.ensures, c.if-left-lt4096.true))
