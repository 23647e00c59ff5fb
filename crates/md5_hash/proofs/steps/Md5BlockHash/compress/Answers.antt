-- `compress` of `md5_hash::steps::Md5BlockHash` meets its contract:
-- each four steps go on from those before. Assumes nothing.
use Rattle.std.proofs.Common.{refl, ap, ◌∙◌}
use Rattle.md5_hash.specs.Md5.{sum, compress, steps}
use Rattle.md5_hash.proofs.steps.Md5BlockHash.compress.Goals as goal

pub returns : goal.returns
unfolding compress steps
returns c =
    let m = c.args.state in
    let q1 = c.four-m.ensures m refl in
    let q2 = c.four-m-2.ensures m q1 in
    let q3 = c.four-m-3.ensures m q2 in
    let q4 = c.four-m-4.ensures m q3 in
    let q5 = c.four-m-5.ensures m q4 in
    let q6 = c.four-m-6.ensures m q5 in
    let q7 = c.four-m-7.ensures m q6 in
    let q8 = c.four-m-8.ensures m q7 in
    let q9 = c.four-m-9.ensures m q8 in
    let q10 = c.four-m-10.ensures m q9 in
    let q11 = c.four-m-11.ensures m q10 in
    let q12 = c.four-m-12.ensures m q11 in
    let q13 = c.four-m-13.ensures m q12 in
    let q14 = c.four-m-14.ensures m q13 in
    let q15 = c.four-m-15.ensures m q14 in
    let q16 = c.four-m-16.ensures m q15 in
    c.sum.ensures ∙ ap (sum m) q16
