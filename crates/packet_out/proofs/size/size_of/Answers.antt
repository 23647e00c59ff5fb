-- `packet_out::size::size_of` meets its contract. Assumes nothing.
use native.Mathlib.Omega.{arith}
use Rattle.packet_padding.proofs.PaddingLaws.{tail-bound}
use Rattle.packet_out.proofs.size.size_of.Goals as goal

pub overflow_add-result : goal.overflow_add-result
overflow_add-result c = omega (arith, tail-bound _ _ c.tail.ensures)
