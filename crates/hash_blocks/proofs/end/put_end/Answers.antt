-- `hash_blocks::end::put_end` meets its contract. Assumes nothing.
use mathlib.Core.Path.{refl, sym, ap, ◌∙◌}
use Prim.Native.Nat.{◌-◌, ◌%◌, ◌+◌}
use native.Mathlib.Omega.{arith}
use lib.ListN.{length, replicate}
use lib.Seq.{sets, length-take-le}
use Rattle.hash_blocks.specs.Blocks.{zeros_for}
use Rattle.hash_blocks.proofs.Ends.{zeros-front, rest_part, end-stored}
use Rattle.hash_blocks.proofs.end.put_end.Goals as goal

pub slice_bounds-copy-end-2 : goal.slice_bounds-copy-end-2
slice_bounds-copy-end-2 c = sym (length-take-le ((119 - length c.args.s.now % 64) % 64) (replicate 64 0) (omega arith))

pub returns : goal.returns
unfolding zeros_for
returns c =
    let a = c.args in
    end-stored a.d.now a.s.now a.high refl
    (c.copy.ensures ∙ ap (sets a.d.now 0) (rest_part a.s.now))
    c.put_u8.ensures
    (c.copy-2.ensures
    ∙ ap (sets c.put_u8.new.d (length a.s.now % 64 + 1)) (zeros-front (zeros_for (length a.s.now)) 64 (omega arith)))
    (c.copy-3.ensures
    ∙ ap (sets c.copy-2.new.d (length a.s.now % 64 + 1 + zeros_for (length a.s.now))) c.length_bytes.ensures)
