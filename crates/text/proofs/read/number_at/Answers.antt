-- `text::number_at` meets its contract: three bytes are two, then the third. Assumes nothing.
use mathlib.Core.Path.{◌≡◌, sym, ap}
use Prim.Native.Nat.{ℕ}
use native.Mathlib.Omega.{arith}
use Rattle.wire.specs.Bytes.{le, part}
use Rattle.wire.proofs.ByteLaws.{le_join}
use Rattle.text.proofs.read.number_at.Goals as goal

pub returns-in-0-clause-number : goal.returns-in-0-clause-number
unfolding le
returns-in-0-clause-number c = let a = c.args in sym (ap (λ (k : ℕ). le (part a.s.now a.at k)) c.in-0.is)

pub returns-in_default-clause-number : goal.returns-in_default-clause-number
returns-in_default-clause-number c =
    let a = c.args in
    let e : a.n ≡ 3 = omega arith in
    rw e (omega (arith, le_join a.s.now a.at 2 1 (omega arith)))
