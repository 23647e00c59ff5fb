-- `compress` of `sha1_hash::turns::Sha1BlockHash` meets its contract:
-- each four turns go on from those before. Assumes nothing.
use Rattle.std.proofs.Common.{refl, ap, ◌∙◌}
use Rattle.sha1_hash.specs.Sha1.{sum, compress, schedule, steps}
use Rattle.sha1_hash.proofs.turns.Sha1BlockHash.compress.Goals as goal

pub returns : goal.returns
unfolding compress schedule steps
returns c =
    let m = c.args.state in
    let q1 = c.four-q.ensures m (record { words = refl; state = refl }) in
    let q2 = c.four-q-2.ensures m q1 in
    let q3 = c.four-q-3.ensures m q2 in
    let q4 = c.four-q-4.ensures m q3 in
    let q5 = c.four-q-5.ensures m q4 in
    let q6 = c.four-q-6.ensures m q5 in
    let q7 = c.four-q-7.ensures m q6 in
    let q8 = c.four-q-8.ensures m q7 in
    let q9 = c.four-q-9.ensures m q8 in
    let q10 = c.four-q-10.ensures m q9 in
    let q11 = c.four-q-11.ensures m q10 in
    let q12 = c.four-q-12.ensures m q11 in
    let q13 = c.four-q-13.ensures m q12 in
    let q14 = c.four-q-14.ensures m q13 in
    let q15 = c.four-q-15.ensures m q14 in
    let q16 = c.four-q-16.ensures m q15 in
    let q17 = c.four-q-17.ensures m q16 in
    let q18 = c.four-q-18.ensures m q17 in
    let q19 = c.four-q-19.ensures m q18 in
    let q20 = c.four-q-20.ensures m q19 in
    c.sum.ensures ∙ ap (sum m) q20.state
