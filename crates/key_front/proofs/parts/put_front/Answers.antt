-- `key_front::parts::put_front` meets its contract. Assumes nothing.
use Rattle.std.proofs.Common.{◌≡◌, length, sym, ap, ◌∙◌, rules}
use Rattle.key_front.proofs.Laid.{parts-stored}
use Rattle.key_front.specs.Front.{randoms_of, ip_or_time, in_version0}
use Rattle.key_front.proofs.parts.put_front.Goals as goal

pub returns : goal.returns
unfolding ip_or_time in_version0
returns c =
    let a = c.args in
    let s = a.s.now in
    let r : length (randoms_of s) ≡ 32 = ap length (sym c.randoms.ensures) ∙ search rules in
    parts-stored s r a.buf.now a.version a.server c.randoms.ensures
    c.by_version.ensures
    c.by_version-2.ensures c.by_version-3.ensures c.by_version-4.ensures
    c.copy.ensures
    c.put_u32.ensures
    c.put_u32-2.ensures
    c.put_u16.ensures c.put_direction.ensures
    c.put_u32-3.ensures
    c.put_u16-2.ensures
