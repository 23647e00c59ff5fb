-- `packet_in::framing::rows` meets its contract. Assumes nothing.
use native.Mathlib.Omega.{arith}
use mathlib.Core.Path.{sym, ◌∙◌}
use lib.ListN.{length-take}
use Rattle.packet_padding.proofs.PaddingLaws.{tail-bound}
use Rattle.packet_head.proofs.HeadLaws.{long-enough}
use Rattle.packet_in.proofs.framing.rows.Goals as goal

pub overflow_add-all : goal.overflow_add-all
overflow_add-all c = omega (arith, tail-bound _ _ c.tail-zeros.ensures)

pub slice_bounds-checksum_of-count : goal.slice_bounds-checksum_of-count
slice_bounds-checksum_of-count c =
    let h = long-enough _ _ (sym c.check_length.ensures ∙ c.in_ok-check_length.was) in
    omega arith

pub slice_bounds-checksum_of-length : goal.slice_bounds-checksum_of-length
slice_bounds-checksum_of-length c = simp length-take (omega arith)

pub judged-requires : goal.judged-requires
judged-requires c = (
  long-enough _ _ (sym c.check_length.ensures ∙ c.in_ok-check_length.was),
  omega arith,
  tail-bound _ _ c.tail-zeros.ensures,
  omega arith,
)
