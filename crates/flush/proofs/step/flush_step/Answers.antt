-- `flush::step::flush_step` meets its contract. Assumes nothing.
use native.Mathlib.Omega.{arith}
use Rattle.flush.proofs.FlushLaws.{due-bound, closed-step, no-room-step, written_step}
use Rattle.flush.proofs.step.flush_step.Goals as goal

pub returns-then-link : goal.returns-then-link
returns-then-link c = closed-step _ _ c.if-link.true

pub overflow_mul-size : goal.overflow_mul-size
overflow_mul-size c = record { fits = omega (arith, due-bound _ c.words_due-words.ensures) }

pub returns-then-buf-size : goal.returns-then-buf-size
returns-then-buf-size c = no-room-step _ _ c.if-link.false c.words_due-words.ensures c.if-buf-size.true

pub put_words-requires : goal.put_words-requires
put_words-requires c = due-bound _ c.words_due-words.ensures

pub returns : goal.returns
returns c =
    written_step _ _ c.if-link.false c.words_due-words.ensures c.if-buf-size.false c.put_words.ensures c.flushed.ensures
