-- `md5_hash::tables::Md5::step` meets its contract. Assumes nothing.
use Rattle.std.proofs.Common.{◌∙◌}
use Rattle.md5_hash.specs.Md5.{step, turn_of}
use Rattle.md5_hash.proofs.Turns.{turned}
use Rattle.md5_hash.proofs.tables.Md5.step.Goals as goal

pub returns : goal.returns
unfolding step turn_of
returns c =
    simp (
      c.rotate_left.ensures ∙ turned _ c.args.i c.requires,
      c.u32_at.ensures,
      c.place.ensures.0,
      c.mixing-f.ensures,
      c.args.self.now.held,
    )
