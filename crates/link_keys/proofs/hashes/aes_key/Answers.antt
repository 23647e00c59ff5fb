-- `link_keys::hashes::aes_key` meets its contract. Assumes nothing.
use Rattle.std.proofs.Common.{◌≡◌, ℕ, ◌++◌, List, length, take, drop, replicate, refl, ap, ap₂, ◌∙◌, arith, rules, length-take-le}
use borrow.Rule.Slice.PartMut.{put_mid}
use Rattle.md5_hash.specs.Md5.{md5}
use Rattle.link_keys.specs.Keys.{key_of}
use Rattle.key_front.proofs.Laid.{halves-stored}
use Rattle.link_keys.proofs.Laws.{length-md5}
use Rattle.link_keys.proofs.hashes.aes_key.Goals as goal

pub returns : goal.returns
unfolding key_of
returns c =
    let m = c.args.m.now in
    let a = c.copy_from_slice.ensures.after ∙ ap (take 12) (c.md5.ensures ∙ ap md5 c.without.ensures) in
    let b = c.copy_from_slice-2.ensures.after in
    let k = length-take-le 12 (md5 (drop 1 m)) (omega (arith, length-md5 (drop 1 m))) in
    let l : length c.sha1.result ≡ 20 = search rules in
    ap₂ (λ (x y : List ℕ). put_mid 12 20 (x ++ replicate 20 0) y) a b
    ∙ halves-stored 12 20 _ c.sha1.result (replicate 20 0) k l refl
    ∙ ap (λ (x : List ℕ). take 12 (md5 (drop 1 m)) ++ x) c.sha1.ensures
