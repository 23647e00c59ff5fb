-- `packet_in::framing::frame` meets its contract: up to four words are there. Assumes nothing.
use native.Mathlib.Omega.{arith}
use Rattle.packet_head.proofs.WordLaws.{words-bound}
use Rattle.packet_in.proofs.framing.frame.Goals as goal

pub overflow_mul-before : goal.overflow_mul-before
overflow_mul-before c = record { fits = omega (arith, (words-bound _ _ _ c.words-w.ensures).0) }

pub slice_bounds-rows-count : goal.slice_bounds-rows-count
slice_bounds-rows-count c = omega (arith, (words-bound _ _ _ c.words-w.ensures).1)

pub slice_bounds-rows-start : goal.slice_bounds-rows-start
slice_bounds-rows-start c = omega (arith, (words-bound _ _ _ c.words-w.ensures).1)

pub rows-requires : goal.rows-requires
rows-requires c = omega (arith, (words-bound _ _ _ c.words-w.ensures).0)
