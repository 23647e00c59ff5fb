-- `hash_blocks::whole::take_in` meets its contract. Assumes nothing.
use Rattle.std.proofs.Common.{◌≡◌, ◌/◌, length, get_or, [], refl, sym, ap, ap₂, ◌∙◌, arith, add-one}
use Rattle.hash_blocks.specs.Blocks.{chained}
use Rattle.hash_blocks.proofs.Ends.{chunk-part}
use Rattle.hash_blocks.proofs.whole.take_in.Goals as goal

pub loop-block-init : goal.loop-block-init
unfolding chained
loop-block-init g c = refl

pub loop-block-preserved : goal.loop-block-preserved
unfolding chained
loop-block-preserved g c =
    let l = c.loop-block in
    let s = c.args.s.now in
    let f = g.H.BlockHash.after in
    let b =
    ap (λ x. get_or x l.block-index []) c.as_chunks.ensures.front
    ∙ chunk-part 64 (length s / 64) s [] l.block-index (omega (arith, c.as_chunks.ensures.front_len)) in
    c.compress-now.ensures ∙ ap₂ f l.invariant b ∙ ap (chained f c.args.state s) (sym (add-one l.block-index))

pub returns : goal.returns
returns g c =
    let l = c.loop-block in
    let e : l.block-index ≡ length c.args.s.now / 64 = omega (arith, c.as_chunks.ensures.front_len) in
    l.invariant ∙ ap (chained g.H.BlockHash.after c.args.state c.args.s.now) e
