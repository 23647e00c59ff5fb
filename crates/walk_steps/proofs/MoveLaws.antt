-- Laws of bytes moved to the front of the slice that they stand in. Assumes nothing.
use mathlib.Core.Path.{◌≡◌, refl, sym, ap, ◌∙◌}
use Prim.Native.Nat.{ℕ, ◌+◌, ◌-◌, ◌≤◌}
use native.Mathlib.Omega.{arith}
use mathlib.Core.List.{List}
use lib.ListN.{length, take, drop, length-drop}
use lib.Seq.{paste, sets, sets-eq, length-take-le, take-add, drop_at}
use Rattle.wire.specs.Bytes.{part}

-- the copy of a part to the front is a run of stores
pub moved : (d : List ℕ) (from n : ℕ) → from + n ≤ length d → paste d 0 (drop from d) n ≡ sets d 0 (part d from n)
moved d from n h =
    let l : length (part d from n) ≡ n = length-take-le n (drop from d) (rw length-drop (omega arith)) in
    rw (sets-eq (part d from n) d 0 (omega (arith, l)), l) refl

-- the part from `from` to `end`, cut the other way round
pub part_cut : (d : List ℕ) (from end : ℕ) → from ≤ end → end ≤ length d → part d from (end - from) ≡ drop from (take end d)
part_cut d from end h g =
    let e : end ≡ from + (end - from) = omega arith in
    sym (ap (λ (m : ℕ). drop from (take m d)) e ∙ ap (drop from) (take-add from (end - from) d)
    ∙ drop_at (take from d) (part d from (end - from)) from (length-take-le from d (omega arith)))
