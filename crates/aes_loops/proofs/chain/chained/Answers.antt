-- `aes_loops::chain::chained` meets its contract. Assumes nothing.
use Rattle.std.proofs.Common.{◌/◌, List, ℕ, length, ap, ◌∙◌}
use Rattle.aes_loops.specs.Chain.{vector_of}
use Rattle.aes_loops.proofs.chain.chained.Goals as goal

pub returns-clause-vector : goal.returns-clause-vector
returns-clause-vector g c =
    let d = g.D.TotalDirection in
    let s = c.args.buf.now in
    c.store.ensures ∙ c.blocks-q.ensures.vector
    ∙ ap (λ (v : List ℕ). vector_of (d.block_makes c.args.k.now) d.enters d.leaves d.carries v s (length s / 16))
    c.load.ensures
