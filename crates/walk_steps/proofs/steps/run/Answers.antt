-- `walk_steps::steps::run`: each turn starts from what a run of steps left (`Run`), so nothing is lost between two steps. Assumes nothing.
use Rattle.std.proofs.Common.{◌≡◌, ℕ, List, [], ◌++◌, pos, refl, rules, replicate}
use borrow.Author.Tests.{not-false}
use Rattle.inflight.specs.Tables.{fresh_of, fresh_answer}
use Rattle.inflight.specs.declared.Table.{Table}
use Rattle.walk_progress.specs.declared.Progress.{Progress}
use Rattle.walk_progress.specs.Start.{one, start_of}
use Rattle.walk_steps.specs.Runs.{Run}
use Rattle.walk_steps.proofs.Runs.{runs}
use Rattle.walk_steps.proofs.steps.run.Goals as goal

-- the zeroed table, started at 1
abbrev zeroed : Table
zeroed =
    record {
      masks = replicate 9 0;
      numbers = replicate 136 (pos 0);
      places = replicate 128 0;
      order = replicate 64 0;
      times = replicate 65 0;
    }

begun : {p : Progress} {t : Table} (events : List ℕ) → t ≡ (fresh_of zeroed one).table → p ≡ start_of → Run t p events []
begun events f e =
    rw (f, e)
    (runs.begins zeroed (record { masks = refl; numbers = refl; places = refl; order = refl; times = refl }) events)

pub loop-init : goal.loop-init
loop-init g c = ([], begun _ c.fresh.ensures.1 c.start-p.ensures)

pub loop-preserved : goal.loop-preserved
loop-preserved g c =
    let l = c.loop in
    let s = c.step-q.ensures in
    let more = not-false c.step-q.result.more c.if-not-q.false in
    (l.invariant.0 ++ s.fed.text, runs.goes_on _ _ _ _ _ _ _ _ _ l.invariant.1 s more)

-- a table starts at 1
pub unwrap-requires : goal.unwrap-requires
unfolding fresh_of fresh_answer
unwrap-requires g c = rw c.fresh.ensures.0 (search rules)
