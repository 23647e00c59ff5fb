-- `invoke_in::read_invoke` meets its contract: each header that is read leaves fewer to come. Assumes nothing.
use mathlib.Core.Path.{◌≡◌, refl, sym, ap, subst, ◌∙◌}
use Prim.Native.Nat.{◌<◌, ◌-◌}
use native.Mathlib.Omega.{arith}
use lib.ListN.{length}
use lib.IntN.{ℤ}
use mir.Syntax.{w64}
use mir.Val.{to_z}
use Rattle.std.specs.Prelude.{Result, Ok}
use Rattle.refusal.proofs.Passing.{passed}
use Rattle.refusal.specs.declared.Refusal.{Refusal}
use Rattle.wire.proofs.SignLaws.{back}
use Rattle.invoke_headers.specs.Headers.{headers_from, start, go_on}
use Rattle.invoke_headers.specs.declared.Next.{Next}
use Rattle.invoke_headers.specs.declared.Next.TheVariants.{Done}
use Rattle.invoke_in.specs.ReadInvoke.{meaning, read_invoke}
use Rattle.invoke_in.proofs.InvokeLaws.{weight, Falls, falls, turn, read_is}
use Rattle.invoke_in.proofs.read.read_invoke.Goals as goal
use Rattle.invoke_in.proofs.read.read_invoke.Goals.{After-next_header}

pub loop-n-init : goal.loop-n-init
loop-n-init c = (length c.args.s.now, omega arith, refl)

-- what the turn's call says of the headers from the start
said : (c : After-next_header) (n : Result Next Refusal) → c.next_header.result ≡ n
    → headers_from (length c.args.s.now) c.args.s.now start
    ≡ go_on n (headers_from (c.loop-n.invariant.0 - 1) c.args.s.now)
said c n e =
    let l = c.loop-n in
    let s = c.args.s.now in
    l.invariant.2
    ∙ turn l.invariant.0 s l.h l.invariant.1
    ∙ ap (λ (x : Result Next Refusal). go_on x (headers_from (l.invariant.0 - 1) s)) (sym c.next_header.ensures ∙ e)

-- the whole body, once the number is read
whole : (c : After-next_header) (n : Result Next Refusal)
    → c.next_header.result ≡ n
    → go_on n (headers_from (c.loop-n.invariant.0 - 1) c.args.s.now) ≡ n
    → meaning c.args.s.now c.signed64-number.result n
    ≡ read_invoke c.args.s.now
whole c n e stop =
    let s = c.args.s.now in
    ap (λ (z : ℤ). meaning s z n) (c.signed64-number.ensures ∙ ap (to_z w64) c.u64_at-raw.ensures)
    ∙ sym (read_is s n c.if-s-lt8.false (λ z. c.if-raw-eq0.false (c.u64_at-raw.ensures ∙ z)) (said c n e ∙ stop))

pub loop-n-smaller : goal.loop-n-smaller
loop-n-smaller c =
    subst (Falls c.loop-n.h) (sym c.next_header.ensures ∙ c.in_ok-n.was ∙ ap (λ (n : Next). Ok n) c.in-More.is) (falls _ _)

pub loop-n-preserved : goal.loop-n-preserved
loop-n-preserved c =
    let l = c.loop-n in
    let less : weight c.in-More.n < weight l.h = loop-n-smaller c in (
      l.invariant.0 - 1,
      omega (arith, l.invariant.1),
      said (goal.at.loop-n-preserved c).After-next_header _ (c.in_ok-n.was ∙ ap (λ (n : Next). Ok n) c.in-More.is),
    )

pub returns-in-Done : goal.returns-in-Done
returns-in-Done c =
    let s = c.args.s.now in
    let n : Result Next Refusal = Ok (Done c.in-Done.d) in
    ap (λ i. Ok i) c.invoke_of.ensures
    ∙ ap (λ (z : ℤ). meaning s z n) (back w64 c.signed64-number.result c.signed64-number.type_inv)
    ∙ whole (goal.at.returns-in-Done c).After-next_header n (c.in_ok-n.was ∙ ap (λ (n : Next). Ok n) c.in-Done.is) refl

pub returns-in_err-n : goal.returns-in_err-n
returns-in_err-n c =
    passed c.from_residual.result _ c.from_residual.ensures.1
    ∙ whole (goal.at.returns-in_err-n c).After-next_header _ c.in_err-n.was refl
