-- `aes_loops::words::rotated` meets its contract. Assumes nothing.
use Rattle.std.proofs.Common.{ap, ◌∙◌, ◌%◌, arith}
use Rattle.aes.specs.Words.{bytes4}
use Rattle.aes_loops.proofs.Rotations.{rotated-law}
use Rattle.aes_loops.proofs.words.rotated.Goals as goal

pub returns : goal.returns
returns c =
    ap bytes4 c.rotate_left.ensures ∙ rotated-law c.args.x (c.args.r % 4) c.ranges.x.fits (omega arith)
