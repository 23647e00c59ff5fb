-- `md5_hash::whole::digest` meets its contract. Assumes nothing.
use Rattle.std.proofs.Common.{refl, ◌∙◌}
use Rattle.wire.specs.Bytes.{bytes}
use Rattle.hash_blocks.proofs.Orders.{low-first}
use Rattle.md5_hash.specs.Md5.{digest}
use Rattle.md5_hash.proofs.whole.digest.Goals as goal

pub returns : goal.returns
unfolding digest bytes
returns c =
    let m = c.args.m in
    let a = c.copy_from_slice.ensures.after ∙ c.to_le_bytes.ensures ∙ low-first 4 m.a in
    let b = c.copy_from_slice-2.ensures.after ∙ c.to_le_bytes-2.ensures ∙ low-first 4 m.b in
    let d = c.copy_from_slice-3.ensures.after ∙ c.to_le_bytes-3.ensures ∙ low-first 4 m.c in
    let e = c.copy_from_slice-4.ensures.after ∙ c.to_le_bytes-4.ensures ∙ low-first 4 m.d in
    rw (a, b, d, e) refl
