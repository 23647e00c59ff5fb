-- No number of the four, or the slots one by one.
-- Assumes nothing.
use mathlib.Core.Path.{sym, ◌∙◌}
use Rattle.inflight_fronts.proofs.FourLaws.{four-none}
use Rattle.inflight_fronts.proofs.search.front_of_four.Goals as goal

pub returns-then-none_of_four : goal.returns-then-none_of_four
returns-then-none_of_four c =
    let a = c.args in
    four-none a.numbers.now a.places.now a.link a.n a.m a.i (sym c.none_of_four.ensures ∙ c.if-none_of_four.true)
