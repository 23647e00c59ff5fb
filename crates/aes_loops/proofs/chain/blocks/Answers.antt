-- `aes_loops::chain::blocks` meets its contract. Assumes nothing.
use Rattle.std.proofs.Common.{◌+◌, ◌*◌, ◌≤◌, length, ◌∙◌, arith}
use Rattle.std.proofs.lemmas.Option.{MatchOption-at_some}
use Rattle.aes.specs.Words.{bytes_of}
use Rattle.aes.proofs.Quads.{sixteen}
use Rattle.aes_loops.proofs.Stores.{chunk-here, part-stored}
use Rattle.aes_loops.proofs.Chains.{vector-none, long-none, held-none, long-held, stored-here, vector-next, long-next, held-next}
use Rattle.aes_loops.proofs.chain.blocks.Goals as goal

pub loop-i-init : goal.loop-i-init
loop-i-init g c =
    let d = g.D.TotalDirection in
    let f = d.block_makes c.args.k.now in
    let v = bytes_of c.args.v in
    let s = c.args.buf.now in record {
      vector = vector-none f d.enters d.leaves d.carries v s;
      long = long-none f d.enters d.leaves d.carries v s;
      held = held-none f d.enters d.leaves d.carries v s;
    }

pub loop-i-preserved : goal.loop-i-preserved
loop-i-preserved g c =
    let d = g.D.TotalDirection in
    let f = d.block_makes c.args.k.now in
    let v = bytes_of c.args.v in
    let s = c.args.buf.now in
    let l = c.loop-i in
    let i = l.invariant in
    let h = MatchOption-at_some _ _ _ c.unwrap.ensures c.first_chunk.ensures.cases in
    let x = c.load-x.ensures ∙ h.same ∙ chunk-here l.buf (l.i * 16) in
    let n = sixteen c.leaving-z.result in
    let z = stored-here f d.enters d.leaves d.carries v s l.i l.buf i.long i.held i.vector x c.entering.ensures
    c.block-y.ensures c.leaving-z.ensures in
    let k : l.i * 16 + 16 ≤ length l.buf = omega (
      arith,
      long-held f d.enters d.leaves d.carries v s l.i l.buf i.long i.held (omega arith),
      c.loop-i-test.true,
    ) in
    let w = part-stored l.buf (bytes_of c.leaving-z.result) (l.i * 16) (c.copy_from_slice.ensures.after ∙ c.store.ensures) n
    k in record {
      vector = vector-next f d.enters d.leaves d.carries v s l.i l.buf i.long i.held x z c.carried-v.ensures;
      long = long-next f d.enters d.leaves d.carries v s l.i l.buf i.long i.held n z;
      held = held-next f d.enters d.leaves d.carries v s l.i l.buf i.long i.held n z k w;
    }
