-- `sha1_hash::steps::step` meets its contract. Assumes nothing.
use Rattle.std.proofs.Common.{lit<}
use Rattle.hash_blocks.proofs.Rotated.{rotated}
use Rattle.sha1_hash.specs.Sha1.{step}
use Rattle.sha1_hash.proofs.steps.step.Goals as goal

pub returns : goal.returns
unfolding step
returns c =
    simp (
      c.rotate_left.ensures,
      c.rotate_left-2.ensures,
      rotated c.args.q.a 5 (lit< tt) (lit< tt),
      rotated c.args.q.b 30 (lit< tt) (lit< tt),
      c.constant.ensures,
      c.mixing-f.ensures,
    )
