-- `packet_out::sealing::seal` meets its contract. Assumes nothing.
use mathlib.Core.Path.{refl}
use native.Mathlib.Omega.{arith}
use borrow.Author.Tests.{le-ltb}
use lib.ListN.{length-take}
use Rattle.packet_out.specs.Packet.{sealed_of}
use Rattle.packet_out.proofs.SealLaws.{room, behind, filled, sealed}
use Rattle.packet_out.proofs.sealing.seal.Goals as goal

pub slice_bounds-checksum_of-end : goal.slice_bounds-checksum_of-end
slice_bounds-checksum_of-end c = omega (arith, room _ _ _ c.size_of-size.ensures c.if-buf-size.false)

pub slice_bounds-checksum_of-end-2 : goal.slice_bounds-checksum_of-end-2
slice_bounds-checksum_of-end-2 c =
    simp length-take (omega (arith, room _ _ _ c.size_of-size.ensures c.if-buf-size.false))

pub slice_bounds-fill-count : goal.slice_bounds-fill-count
slice_bounds-fill-count c = room _ _ _ c.size_of-size.ensures (omega arith)

pub slice_bounds-fill-start : goal.slice_bounds-fill-start
slice_bounds-fill-start c = omega (arith, room _ _ c.size_of-size.result c.size_of-size.ensures (omega arith))

pub returns : goal.returns
unfolding sealed_of
returns c =
    let a = c.args in
    let fits = room _ _ _ c.size_of-size.ensures c.if-buf-size.false in
    let zeros = behind _ _ c.size_of-size.ensures in
    simp (le-ltb _ _ c.if-len-gt-LONGEST_BODY.false, ← c.size_of-size.ensures, le-ltb _ _ c.if-buf-size.false)
    (sealed a.link a.kind a.len a.buf.now fits _ _ _ _ _
    c.put_head.ensures c.checksum_of-sum.ensures c.put_u32.ensures refl
    (filled c.put_u32.new.d _ _ _ 0 zeros (c.fill.ensures.after (λ y e. e)) (omega (arith, zeros, fits))))
