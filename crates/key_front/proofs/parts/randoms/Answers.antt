-- `key_front::parts::randoms` meets its contract. Assumes nothing.
use Rattle.std.proofs.Common.{replicate, refl, ◌∙◌, ap₂, ◌++◌, List, ℕ, arith}
use borrow.Rule.Slice.PartMut.{put_mid}
use Rattle.key_front.specs.Front.{randoms_of}
use Rattle.key_front.proofs.Laid.{halves-stored}
use Rattle.key_front.proofs.parts.randoms.Goals as goal

pub returns : goal.returns
unfolding randoms_of
returns c =
    let s = c.args.s.now in
    let a = c.copy_from_slice.ensures.after in
    let b = c.copy_from_slice-2.ensures.after in
    ap₂ (λ (x y : List ℕ). put_mid 16 16 (x ++ replicate 16 0) y) a b
    ∙ halves-stored 16 16 s.server.random s.client.random (replicate 16 0) (omega arith) (omega arith) refl
