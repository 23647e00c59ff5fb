-- The lines of an event at the front of the slice: the place behind them is their size. Assumes nothing.
use Rattle.std.proofs.Common.{◌≡◌, refl, rules, arith, length}
use Rattle.walk_turn.specs.Turn.{turn_of, lines_of}
use Rattle.walk_turn.proofs.turns.turn.Goals as goal

pub returns : goal.returns
unfolding turn_of
returns c =
    let h = c.lines_turn.ensures in
    let n = c.new-lines.ensures in
    let size : c.lines_turn.new.lines.size ≡ length (lines_of c.args.table.now c.args.e) =
    omega (arith, h.lines.size, n.size) in
    let same = h.lines.same in
    let new_same = n.same in
    (rw (h.table, size) refl, let t = rw (n.text, n.size) at h.lines.text in search rules)
