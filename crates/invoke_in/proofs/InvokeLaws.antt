-- Laws of the invoke reader: why its loop ends, and what a turn does. Assumes nothing.
use mathlib.Core.Path.{◌≡◌, refl}
use Prim.Native.Nat.{ℕ, zero, suc, ◌+◌, ◌-◌, ◌≤◌, ◌<◌}
use native.Mathlib.Omega.{arith}
use mathlib.Core.List.{List}
use mathlib.Core.Bool.{Bool, true, false}
use lib.ListN.{length}
use lib.Dec.{ltb}
use mir.Syntax.{w64}
use mir.Val.{to_z}
use borrow.Author.Tests.{le-ltb, ne_eqb}
use Rattle.wire.specs.Bytes.{le, part}
use Rattle.wire.specs.Choice.{pick}
use Rattle.header.specs.declared.Kind as K
use Rattle.header.specs.declared.Side.TheVariants.{Server}
use Rattle.header.specs.Headers.{kind_of}
use Rattle.invoke_headers.specs.declared.Extra.{Extra}
use Rattle.invoke_headers.specs.declared.Next.{Next}
use Rattle.invoke_headers.specs.declared.Next.TheVariants.{More, Done}
use Rattle.refusal.specs.declared.Refusal.{Refusal}
use Rattle.invoke_headers.specs.declared.Headers.{Headers}
use Rattle.invoke.specs.Fields.{is_given}
use Rattle.invoke_headers.specs.Headers.{read_extra, with_extra, flags_of, actor_of, both_of, by_kind}
use Rattle.invoke_headers.specs.Headers.{next_of, go_on, headers_from, start}
use Rattle.invoke_in.specs.ReadInvoke.{meaning, read_invoke}
use Rattle.std.specs.Prelude.{ℤ, Result, Ok, Err, Option, Some}

abbrev miss : Bool → ℕ
miss true = 0
miss false = 1

-- how many of actor and extra are still to come: each header that is read makes it less
abbrev pub weight : Headers → ℕ
weight h = miss (is_given h.actor) + miss h.extra

abbrev pub Falls : Headers → Result Next Refusal → Type 0
Falls h (Ok (More g)) = weight g < weight h
Falls h (Ok (Done g)) = Unit
Falls h (Err k) = Unit

module _ (h : Headers) where
  by-test : (b : Bool) (x y : Result Next Refusal) → Falls h x → (b ≡ false → Falls h y) → Falls h (pick b x y)
  by-test true x y p q = p
  by-test false x y p q = q refl

  by-extra : (a : Option ℤ) (x : Result Extra Refusal) → miss (is_given a) < miss (is_given h.actor) + miss h.extra → Falls h (with_extra a x)
  by-extra a (Ok e) p = omega arith
  by-extra a (Err k) p = tt

  by-kind : (s : List ℕ) (k : K.Kind) → Falls h (by_kind s h k)
  unfolding flags_of actor_of both_of
  by-kind s K.TheVariants.Flags = by-test h.extra _ _ tt λ e. by-extra h.actor (read_extra s (h.at + 4)) (rw e (omega arith))
  by-kind s K.TheVariants.Actor = by-test (is_given h.actor) _ _ tt λ e. by-test (ltb (length s - h.at) 12) _ _ tt λ _. rw e (omega arith)
  by-kind s K.TheVariants.ActorFlags =
      by-test (is_given h.actor) _ _ tt λ e. by-test h.extra _ _ tt λ _. by-test (ltb (length s - h.at) 12) _ _ tt λ _.
      by-extra (Some (to_z w64 (le (part s (h.at + 4) 8)))) (read_extra s (h.at + 12)) (rw e (omega arith))
  by-kind s K.TheVariants.Diagonal = tt
  by-kind s K.TheVariants.Marker = tt
  by-kind s K.TheVariants.ResultHeader = tt
  by-kind s K.TheVariants.Error = tt
  by-kind s K.TheVariants.NumberedError = tt
  by-kind s K.TheVariants.Other = tt

  pub falls : (s : List ℕ) → Falls h (next_of s h)
  unfolding next_of
  falls s = by-test (ltb (length s - h.at) 4) _ _ tt λ _. by-kind s (kind_of Server (le (part s h.at 4)))

pub turn : (k : ℕ) (s : List ℕ) (h : Headers) → weight h < k → headers_from k s h ≡ go_on (next_of s h) (headers_from (k - 1) s)
unfolding headers_from
turn zero s h p = absurd (omega arith)
turn (suc k) s h p =
    let e : suc k - 1 ≡ k = omega arith in
    rw e

pub read_is : (s : List ℕ) (n : Result Next Refusal) → 8 ≤ length s → (le (part s 0 8) ≡ 0 → ⊥) → headers_from (length s) s start ≡ n
    → read_invoke s ≡ meaning s (to_z w64 (le (part s 0 8))) n
unfolding read_invoke
read_is s n h z e = simp (le-ltb (length s) 8 h, ne_eqb (le (part s 0 8)) 0 z, e)
