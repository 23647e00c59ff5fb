-- `sha1_hash::whole::digest` meets its contract. Assumes nothing.
use Rattle.std.proofs.Common.{refl, ◌∙◌}
use Rattle.wire.specs.Bytes.{bytes}
use Rattle.hash_blocks.proofs.Orders.{high-first}
use Rattle.sha1_hash.specs.Sha1.{digest}
use Rattle.sha1_hash.proofs.whole.digest.Goals as goal

pub returns : goal.returns
unfolding digest bytes
returns c =
    let q = c.args.q in
    let a = c.copy_from_slice.ensures.after ∙ c.to_be_bytes.ensures ∙ high-first 4 q.a in
    let b = c.copy_from_slice-2.ensures.after ∙ c.to_be_bytes-2.ensures ∙ high-first 4 q.b in
    let d = c.copy_from_slice-3.ensures.after ∙ c.to_be_bytes-3.ensures ∙ high-first 4 q.c in
    let e = c.copy_from_slice-4.ensures.after ∙ c.to_be_bytes-4.ensures ∙ high-first 4 q.d in
    let f = c.copy_from_slice-5.ensures.after ∙ c.to_be_bytes-5.ensures ∙ high-first 4 q.e in
    rw (a, b, d, e, f) refl
