-- A timeout of 0 is none (document 02, A1: "one meaning, no timeout"), and nothing else has changed. Assumes nothing.
use mathlib.Core.Path.{◌≡◌, refl, sym, ap, ◌∙◌}
use native.Mathlib.Omega.{arith}
use Prim.Native.Nat.{ℕ}
use mathlib.Core.Bool.{Bool, true, false}
use mathlib.Core.List.{List, [], ◌∷◌}
use lib.ListN.{length}
use lib.IntN.{ℤ}
use lib.Dec.{ltb, eqb, lit<}
use mir.Syntax.{w64}
use mir.Val.{to_z, of_z, SFits}
use borrow.Author.Tests.{eqb-true, eqb-false}
use Rattle.wire.specs.Bytes.{le, part}
use Rattle.wire.specs.Choice.{pick, first}
use Rattle.header.specs.declared.Side.{Side}
use Rattle.header.specs.declared.Side.TheVariants.{Client, Server}
use Rattle.invoke.specs.Fields.{effective_timeout}
use Rattle.invoke.specs.declared.Invoke.{Invoke}
use Rattle.invoke.proofs.TimeoutLaws.{never-0-ms}
use Rattle.invoke_headers.specs.Headers.{headers_from, start}
use Rattle.invoke_in.specs.ReadInvoke.{meaning, read_invoke}
use Rattle.invoke_headers.specs.declared.Next.{Next}
use Rattle.invoke_headers.specs.declared.Next.TheVariants.{More, Done}
use Rattle.invoke_out.specs.WriteInvoke.{header_bytes, invoke_bytes, invoke_size, invoke_answer, payload_refused}
use Rattle.result.specs.ReadResult.{read_result, read_old_error}
use Rattle.message.specs.ReadMessage.{of_invoke, of_reply, read_cancel, to_server, to_client, read_message}
use Rattle.message.specs.PartOf.{part_of}
use Rattle.message.specs.declared.Message.{Message}
use Rattle.message.specs.declared.Message.TheVariants as M
use Rattle.message_laws.specs.Invokes.{NoExtra, body_with, timeout_in, rest_at}
use Rattle.message_laws.specs.Invokes.{Without, FieldOf0, MaskOf0, NoField, extra_of}
use Rattle.message_laws.specs.Invokes.{Meaning, Means, Refused, NoInvoke, invoke_meaning}
use Rattle.message_laws.specs.Invokes.{base_meaning, base_read, corrected}
use Rattle.message_laws.specs.RoundTrip.{ReadsAs, invoke_with, ActorFits, TimeoutFits}
use Rattle.message_laws.proofs.InvokeForms.{form-reads, form-part, form-of-0}
use Rattle.message_laws.proofs.InvokeBack.{body_is}
use Rattle.refusal.specs.declared.Refusal.TheVariants.{MessageCut, NumberZero}
use Rattle.std.specs.Prelude.{Err, Option, Some, None, Result, Ok}
use Rattle.refusal.specs.declared.Refusal.{Refusal}
use Rattle.result.specs.declared.Reply.{Reply}

-- ---- every body

-- NOTHING ELSE MOVED: of every body, what is read is what document 01 read before, with 0 as none. So every refusal is
-- the same: a field of 0 counts as an extra, and its mask and its cut are judged as they were
pub as_before : (s : List ℕ) → read_invoke s ≡ corrected (base_read s)
unfolding read_invoke base_read
as_before s = go (ltb (length s) 8) (eqb (le (part s 0 8)) 0) (headers_from (length s) s start)
  where
    n : ℤ
    n = to_z w64 (le (part s 0 8))

    go : (b c : Bool) (x : Result Next Refusal)
        → first ((b, Err MessageCut) ∷ (c, Err NumberZero) ∷ []) (meaning s n x)
        ≡ corrected (first ((b, Err MessageCut) ∷ (c, Err NumberZero) ∷ []) (base_meaning s n x))
    go true c x = refl
    go false true x = refl
    go false false (Ok (More h)) = refl
    go false false (Ok (Done h)) = refl
    go false false (Err k) = refl

-- a message that has no timeout of 0 ms
abbrev Not0 : Result Message Refusal → Type 0
Not0 (Ok (M.Invoke i)) = i.timeout ≡ Some 0 → ⊥
Not0 (Ok (M.Result r)) = Unit
Not0 (Ok (M.Cancel n)) = Unit
Not0 (Ok M.ClientFin) = Unit
Not0 (Ok M.ServerFin) = Unit
Not0 (Err k) = Unit

by-test : (b : Bool) (x y : Result Message Refusal) → Not0 x → Not0 y → Not0 (pick b x y)
by-test true x y f g = f
by-test false x y f g = g

of-invoke : (s : List ℕ) → Not0 (of_invoke (read_invoke s))
of-invoke s = rw (as_before s) (go (base_read s))
  where
    go : (r : Result Invoke Refusal) → Not0 (of_invoke (corrected r))
    go (Ok i) = never-0-ms i.timeout
    go (Err k) = tt

of-reply : (r : Result Reply Refusal) → Not0 (of_reply r)
of-reply (Ok r) = tt
of-reply (Err k) = tt

of-any : (side : Side) (v : ℕ) (s : List ℕ) → Not0 (read_message side v s)
unfolding read_message to_server to_client read_cancel
of-any Server v s =
    by-test (eqb v 0x2374df3d) _ _ (of-invoke s)
    (by-test (eqb v 0x193f1b22) _ _
    (by-test (ltb (length s) 8) _ _ tt
    (by-test (eqb (le (part s 0 8)) 0) _ _ tt (by-test (ltb 8 (length s)) _ _ tt tt)))
    (by-test (eqb v 0x0b73429e) _ _ (by-test (ltb 0 (length s)) _ _ tt tt) tt))
of-any Client v s =
    by-test (eqb v 0x63aeda4e) _ _ (of-reply (read_result s))
    (by-test (eqb v 0x7ae432f5) _ _ (of-reply (read_old_error s))
    (by-test (eqb v 0xa8ddbc46) _ _ (by-test (ltb 0 (length s)) _ _ tt tt) tt))

-- NEVER 0 MS: whatever body comes, at either side and of any type
pub never-read-as-0 : (side : Side) (v : ℕ) (s : List ℕ) {i : Invoke} → read_message side v s ≡ Ok (M.Invoke i)
    → i.timeout ≡ Some 0 → ⊥
never-read-as-0 side v s e = rw e at (of-any side v s)

-- ---- the three forms

without-fits : (z : Without) → TimeoutFits (timeout_in (extra_of z))
without-fits (FieldOf0 place) = lit< tt
without-fits (MaskOf0 place) = tt
without-fits NoField = tt

without-means : (z : Without) → effective_timeout (timeout_in (extra_of z)) ≡ None
without-means (FieldOf0 place) = refl
without-means (MaskOf0 place) = refl
without-means NoField = refl

-- the body that is written of what was read
abbrev writes : ℤ → Meaning → List ℕ
writes n (Means number a t m p) = invoke_bytes n a t m p
writes n (Refused k) = []
writes n NoInvoke = []

module _ (z : Without) (n : ℤ) (a : Option ℤ) (m : Bool) (p : List ℕ)
    (f : SFits w64 n) (fa : ActorFits a) (c : payload_refused m p ≡ false) where
  abbrev body : List ℕ
  body = body_with (extra_of z) n a m p

  -- a number that is not 0
  none_read : (of_z w64 n ≡ 0 → ⊥) → ReadsAs (read_message Server 0x2374df3d) body
      (Ok (M.Invoke (invoke_with n a None m (rest_at (extra_of z) a m) (length p)))) p
  unfolding read_message to_server part_of
  none_read some = (
    ap of_invoke
        (form-reads n m p c a (extra_of z) f some fa (without-fits z)
        ∙ ap (λ (t : Option ℕ). Ok (invoke_with n a t m (rest_at (extra_of z) a m) (length p)))
        (without-means z)),
    form-part n m p c a (extra_of z),
  )

  -- ZERO IS NONE: the field at 0, an extra of mask 0 and no extra have one meaning and one payload, whatever the number
  -- (0 is refused in each), the actor or none, the marker or not, and the payload: any behind the marker, and else any
  -- that does not begin with a header, as the writer demands of it (15)
  pub zero-is-none : invoke_meaning body (read_message Server 0x2374df3d body)
      ≡ pick (eqb (of_z w64 n) 0) (Refused NumberZero) (Means n a None m p)
  unfolding read_message to_server
  zero-is-none = go (eqb (of_z w64 n) 0) refl
    where
      go : (b : Bool) → eqb (of_z w64 n) 0 ≡ b
          → invoke_meaning body (read_message Server 0x2374df3d body)
          ≡ pick b (Refused NumberZero) (Means n a None m p)
      go true e =
          ap (λ (x : Result Invoke Refusal). invoke_meaning body (of_invoke x))
          (form-of-0 n m p a (extra_of z) f (eqb-true (of_z w64 n) 0 e))
      go false e =
          let r = none_read (eqb-false (of_z w64 n) 0 e) in
          ap (invoke_meaning body) r.0 ∙ ap (Means n a None m) r.1

  -- A RELAY THAT GETS 0 FORWARDS NO FIELD: what it writes of what it read, under another number, has no extra
  pub no-field-forwarded : {i : Invoke} (n' : ℤ) → read_message Server 0x2374df3d body ≡ Ok (M.Invoke i)
      → invoke_bytes n' i.actor i.timeout i.tl2 (part_of body (Ok (M.Invoke i))) ≡ body_with NoExtra n' a m p
  no-field-forwarded {i = i} n' e = go (eqb (of_z w64 n) 0) (ap (invoke_meaning body) (sym e) ∙ zero-is-none)
    where
      go : (b : Bool) → invoke_meaning body (Ok (M.Invoke i)) ≡ pick b (Refused NumberZero) (Means n a None m p)
          → invoke_bytes n' i.actor i.timeout i.tl2 (part_of body (Ok (M.Invoke i))) ≡ body_with NoExtra n' a m p
      go true x = let y : ◌≡◌ {A = ℕ} 0 1 = cc in absurd (omega arith)
      go false x = ap (writes n') x ∙ body_is n' a None m p

-- ---- the writer

-- NO FIELD IS WRITTEN: bytes, size and answer for a timeout of 0 are those for none
pub no-field-written : (n : ℤ) (a : Option ℤ) (m : Bool) (p : List ℕ) (room : ℕ)
    → (invoke_bytes n a (Some 0) m p ≡ body_with NoExtra n a m p)
    × (invoke_size a (Some 0) m p ≡ invoke_size a None m p)
    × (invoke_answer n a (Some 0) m p room ≡ invoke_answer n a None m p room)
unfolding invoke_size invoke_answer invoke_bytes header_bytes
no-field-written n a m p room = (body_is n a (Some 0) m p, refl, refl)
