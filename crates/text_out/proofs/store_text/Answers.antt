-- `text::store_text` meets its contract: head, bytes, zeros, one after another. Assumes nothing.
use mathlib.Core.Path.{refl, ◌∙◌}
use Prim.Native.Nat.{◌+◌}
use native.Mathlib.Omega.{arith}
use lib.ListN.{length, replicate}
use Rattle.text.specs.TextForm.{text_head, text_bytes, pad_of}
use Rattle.wire.proofs.StoreLaws.{runs-3}
use Rattle.text.proofs.TextLaws.{head-length}
use Rattle.text_out.proofs.store_text.Goals as goal

pub put_zeros-requires : goal.put_zeros-requires
put_zeros-requires c =
    let p = rw (← c.head_size-head.ensures.0) at c.requires.0 in
    omega (arith, c.copy.auto.d, c.put_head.auto.d)

pub returns : goal.returns
unfolding text_bytes
returns c =
    let a = c.args in
    let n = c.head_size-head.result + length a.text.now in
    runs-3 a.d.now a.at (a.at + c.head_size-head.result) (a.at + n) (text_head (length a.text.now)) a.text.now (replicate (pad_of n) 0)
    c.put_head.ensures c.copy.ensures c.put_zeros.ensures
    (rw (head-length, c.head_size-head.ensures.0) refl) (omega arith)
    ∙ rw c.head_size-head.ensures.0
