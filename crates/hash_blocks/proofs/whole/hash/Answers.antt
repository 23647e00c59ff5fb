-- `hash_blocks::whole::hash` meets its contract. Assumes nothing.
use Rattle.std.proofs.Common.{replicate, ◌∙◌, arith}
use Rattle.hash_blocks.proofs.Ends.{end-taken}
use Rattle.hash_blocks.proofs.whole.hash.Goals.{then-s-lt56, else-s-lt56}
use Rattle.hash_blocks.proofs.whole.hash.Goals as goal

pub returns : goal.returns
returns g c =
    let a = c.args in
    let h = end-taken g.H.BlockHash.after a.start a.high a.s.now (replicate 128 0) in
    let q = c.take_in-state.ensures in
    let p = c.put_end in
    let n = p.auto.d in
    elim c.if-s-lt56.branch [
      | then-s-lt56 w ↦
          let e = h 1 q p.ensures (omega arith) (omega (arith, n, w.size-is)) w.size-is (omega (arith, w.if-s-lt56.true)) in
          c.take_in.ensures ∙ e
      | else-s-lt56 w ↦
          let e = h 2 q p.ensures (omega arith) (omega (arith, n, w.size-is)) w.size-is (omega (arith, w.if-s-lt56.false)) in
          c.take_in.ensures ∙ e
    ]
