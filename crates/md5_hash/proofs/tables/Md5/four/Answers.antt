-- `md5_hash::tables::Md5::four` meets its contract. Assumes nothing.
use native.Mathlib.Numerals.{unary_clauses}
use Rattle.md5_hash.specs.Md5.{steps}
use Rattle.md5_hash.proofs.tables.Md5.four.Goals as goal

pub returns : goal.returns
unfolding steps
returns c = λ h e. simp (c.step.ensures, c.step-m-3.ensures, c.step-m-2.ensures, c.step-m.ensures, e, unary_clauses)
