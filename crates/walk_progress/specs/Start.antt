-- Where the relay walk's program starts (document 01, "Program: relay walk"). Assumes nothing.
use Rattle.std.specs.Prelude.{true, false, pos}
use Rattle.inflight.specs.declared.PublisherNumber.{PublisherNumber}
use Rattle.walk_progress.specs.declared.Progress.{Progress}

-- "The table starts at 1"
abbrev pub one : PublisherNumber
one = record { 0 = pos 1 }

-- nothing waiting, the events not ended, and a step to come
unfoldable pub start_of : Progress
start_of = record { have = 0; ended = false; more = true }
