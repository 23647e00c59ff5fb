-- `aes_loops::block::round` meets its contract. Assumes nothing.
use Rattle.std.proofs.Common.{◌≡◌, ℕ, ◌+◌, sym, ap, ◌∙◌, subst, add-one}
use Rattle.aes.specs.declared.Quad.{Quad}
use Rattle.aes.specs.Aes.{add}
use Rattle.aes.specs.Words.{bytes4, slant}
use Rattle.aes_loops.specs.Rounds.{Done, column_at, spun}
use Rattle.aes_loops.proofs.Turns.{done_next}
use Rattle.aes_loops.proofs.block.round.Goals as goal

pub loop-j-preserved : goal.loop-j-preserved
loop-j-preserved g c =
    let l = c.loop-j in
    let a = c.args in
    let j = l.j in
    let i = l.invariant in
    let q₀ = c.facing-q.result in
    let n = g.D.TotalDirection.next_rows in
    let m = g.L.TotalLook.makes in
    let w = c.word_at in
    let e : bytes4 c.gathered-x.result ≡ column_at m n a.k.now a.at q₀ j =
    c.gathered-x.ensures ∙ ap (λ (q : Quad). add (m (slant q.a q.b q.c q.d)) (bytes4 w.result)) i.0
    ∙ ap (add (m (let q = spun n j q₀ in slant q.a q.b q.c q.d))) w.ensures in (
      c.onward-q.ensures ∙ ap n i.0 ∙ ap (λ (k : ℕ). spun n k q₀) (sym (add-one j)),
      subst (λ (o : Quad). Done (column_at m n a.k.now a.at q₀) (j + 1) o) (sym c.pushed-o.ensures)
          (done_next (column_at m n a.k.now a.at q₀) j l.o c.gathered-x.result c.loop-j-test.true i.1 e),
    )
