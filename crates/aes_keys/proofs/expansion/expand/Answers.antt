-- `aes_keys::expansion::expand` meets its contract. Assumes nothing.
use Rattle.std.proofs.Common.{◌≡◌, ℕ, ◌-◌, ◌*◌, length, take, refl, sym, ap, ◌∙◌, arith}
use lib.Seq.{take_all}
use Rattle.aes.specs.Aes.{schedule, keys}
use Rattle.aes_keys.proofs.Schedule.{word_next}
use Rattle.aes_keys.proofs.expansion.expand.Goals as goal

pub loop-i-init : goal.loop-i-init
unfolding schedule
loop-i-init c = refl

pub loop-i-preserved : goal.loop-i-preserved
loop-i-preserved c =
    let l = c.loop-i in
    let long : length l.w ≡ 240 = omega (arith, c.requires) in
    word_next (take 32 c.args.w.now) l.w _ l.i c.key4-p.result c.temp-x.result c.key4-y.result (omega arith)
    (omega arith) long l.invariant c.key4-p.ensures c.temp-x.ensures c.key4-y.ensures c.put_u32.ensures

pub returns : goal.returns
unfolding keys
returns c =
    let l = c.loop-i in
    let e : l.i ≡ 60 = omega (arith, c.loop-i-test.false) in
    sym (take_all 240 l.w (omega (arith, c.requires))) ∙ ap (λ (n : ℕ). take (n * 4) l.w) (sym e) ∙ l.invariant
    ∙ ap (λ (n : ℕ). schedule (n - 8) (take 32 c.args.w.now)) e
