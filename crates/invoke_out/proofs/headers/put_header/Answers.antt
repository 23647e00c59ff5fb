-- `invoke_out::put_header` meets its contract: the fields of each header, one after another. Assumes nothing.
use mathlib.Core.Path.{◌≡◌, refl}
use mir.Syntax.{w64}
use mir.Val.{to_z, of_z}
use borrow.Author.Rules.{rules}
use Rattle.wire.specs.Bytes.{bytes}
use Rattle.wire.proofs.ByteLaws.{length-bytes}
use Rattle.wire.proofs.StoreLaws.{runs-2, runs-3, runs-4}
use Rattle.invoke_out.specs.WriteInvoke.{field_bytes, header_bytes}
use Rattle.invoke_out.proofs.headers.put_header.Goals as goal

pub returns-in-None-None : goal.returns-in-None-None
unfolding field_bytes header_bytes
returns-in-None-None c = simp (← c.effective_timeout.ensures, c.in-None-None.is-0, c.in-None-None.is-1)

pub returns-in-None-Some : goal.returns-in-None-Some
unfolding field_bytes header_bytes
returns-in-None-Some c =
    simp (← c.effective_timeout.ensures, c.in-None-Some.is-0, c.in-None-Some.is-1)
    (runs-3 c.args.d.now 8 12 16 (bytes 4 0xe352035e) (bytes 4 8388608) (bytes 4 c.in-None-Some.ms)
    c.put_u32.ensures c.put_u32-in-None-Some.ensures c.put_u32-in-None-Some-2.ensures
    (rw length-bytes refl) (rw length-bytes refl))

pub returns-in-Some-None : goal.returns-in-Some-None
unfolding field_bytes header_bytes
returns-in-Some-None c =
    let same : to_z w64 (of_z w64 c.in-Some-None.id) ≡ c.in-Some-None.id = search rules in
    simp (← c.effective_timeout.ensures, c.in-Some-None.is-0, c.in-Some-None.is-1)
    (runs-2 c.args.d.now 8 12 (bytes 4 0x7568aabd) (bytes 8 (of_z w64 c.in-Some-None.id))
    c.put_u32-in-Some-None.ensures (rw same at c.put_i64.ensures)
    (rw length-bytes refl))

pub returns-in-Some-Some : goal.returns-in-Some-Some
unfolding field_bytes header_bytes
returns-in-Some-Some c =
    let same : to_z w64 (of_z w64 c.in-Some-Some.id) ≡ c.in-Some-Some.id = search rules in
    simp (← c.effective_timeout.ensures, c.in-Some-Some.is-0, c.in-Some-Some.is-1)
    (runs-4 c.args.d.now 8 12 20 24
    (bytes 4 0xf0a5acf7) (bytes 8 (of_z w64 c.in-Some-Some.id)) (bytes 4 8388608) (bytes 4 c.in-Some-Some.ms)
    c.put_u32-in-Some-Some.ensures (rw same at c.put_i64-in-Some-Some.ensures)
    c.put_u32-in-Some-Some-2.ensures c.put_u32-in-Some-Some-3.ensures
    (rw length-bytes refl) (rw length-bytes refl) (rw length-bytes refl))
