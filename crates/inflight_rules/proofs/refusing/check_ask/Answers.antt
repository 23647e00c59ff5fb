-- The rows of the rule, one by one.
-- Assumes nothing.
use borrow.Author.Tests.{eq-eqb, ne_eqb, le-leb, lt-leb}
use mathlib.Core.Path.{◌≡◌, sym, ◌∙◌}
use lib.IntN.{pos}
use Rattle.inflight.specs.Numbers.{same}
use Rattle.inflight.proofs.NumberLaws.{int-same}
use Rattle.inflight.specs.Tables.{check_ask_of}
use Rattle.inflight_rules.proofs.refusing.check_ask.Goals as goal

pub returns-then-link-ge32 : goal.returns-then-link-ge32
unfolding check_ask_of
returns-then-link-ge32 c = rw (le-leb _ _ c.if-link-ge32.true)

pub returns-then-publisher-ge8 : goal.returns-then-publisher-ge8
unfolding check_ask_of
returns-then-publisher-ge8 c = rw (lt-leb _ _ c.if-link-ge32.false, le-leb _ _ c.if-publisher-ge8.true)

pub returns-then-no_time : goal.returns-then-no_time
unfolding check_ask_of
returns-then-no_time c = rw (lt-leb _ _ c.if-link-ge32.false, lt-leb _ _ c.if-publisher-ge8.false, sym c.no_time.ensures ∙ c.if-no_time.true)

pub returns-then-eq : goal.returns-then-eq
unfolding check_ask_of
returns-then-eq c =
    let n = c.args.number.0 in
    let z : c.eq.result ≡ same n (pos 0) = c.eq.ensures ∙ int-same n (pos 0) in
    rw (lt-leb _ _ c.if-link-ge32.false, lt-leb _ _ c.if-publisher-ge8.false, sym c.no_time.ensures ∙ c.if-no_time.false, sym z ∙ c.if-eq.true)

pub returns-then-find_front-ne64 : goal.returns-then-find_front-ne64
unfolding check_ask_of
returns-then-find_front-ne64 c =
    let n = c.args.number.0 in
    let z : c.eq.result ≡ same n (pos 0) = c.eq.ensures ∙ int-same n (pos 0) in
    rw (lt-leb _ _ c.if-link-ge32.false, lt-leb _ _ c.if-publisher-ge8.false, sym c.no_time.ensures ∙ c.if-no_time.false, sym z ∙ c.if-eq.false, ne_eqb _ 64 (λ q. c.if-find_front-ne64.true (c.find_front.ensures ∙ q)))

pub returns : goal.returns
unfolding check_ask_of
returns c =
    let n = c.args.number.0 in
    let z : c.eq.result ≡ same n (pos 0) = c.eq.ensures ∙ int-same n (pos 0) in
    rw (lt-leb _ _ c.if-link-ge32.false, lt-leb _ _ c.if-publisher-ge8.false, sym c.no_time.ensures ∙ c.if-no_time.false, sym z ∙ c.if-eq.false, eq-eqb _ 64 (sym c.find_front.ensures ∙ c.if-find_front-ne64.false)) c.check_load.ensures
