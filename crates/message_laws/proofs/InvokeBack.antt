-- An invoke that was written reads back, with a timeout of 0 as none. Assumes nothing.
use mathlib.Core.Path.{◌≡◌, refl, sym, ap, ◌∙◌}
use Prim.Native.Nat.{ℕ, ◌+◌}
use mathlib.Core.List.{List, ◌++◌}
use mathlib.Core.Bool.{Bool, true, false}
use lib.ListN.{length}
use lib.IntN.{ℤ}
use lib.Dec.{eqb}
use mir.Syntax.{w64}
use mir.Val.{of_z, SFits}
use Rattle.wire.specs.Bytes.{bytes, within}
use Rattle.wire.specs.Choice.{pick}
use Rattle.invoke.specs.Fields.{effective_timeout}
use Rattle.invoke.proofs.TimeoutLaws.{meant-twice}
use Rattle.invoke_in.specs.ReadInvoke.{read_invoke}
use Rattle.invoke_out.specs.WriteInvoke.{field_bytes, header_bytes, marker_bytes, invoke_bytes, payload_refused}
use Rattle.message_laws.specs.Invokes.{extra_bytes, actor_header, flags_header, Together, Extra, NoExtra, Has}
use Rattle.message_laws.specs.Invokes.{headers_of, body_with, timeout_in, rest_at}
use Rattle.message_laws.specs.RoundTrip.{invoke_with, ActorFits, TimeoutFits, payload_at}
use Rattle.message_laws.proofs.InvokeForms.{form-reads, form-part}
use Rattle.std.specs.Prelude.{Option, Some, None, Result, Ok}
use Rattle.refusal.specs.declared.Refusal.{Refusal}
use Rattle.invoke.specs.declared.Invoke.{Invoke}

-- the form that we write, of a timeout that is meant
abbrev form_of : Option ℕ → Extra
form_of None = NoExtra
form_of (Some t) = Has Together (Some t)

form-says : (t : Option ℕ) → timeout_in (form_of t) ≡ t
form-says None = refl
form-says (Some t) = refl

fields-are : (a : Option ℤ) (t : Option ℕ) → field_bytes a t ≡ headers_of a (form_of t)
unfolding field_bytes headers_of actor_header flags_header extra_bytes
fields-are None None = refl
fields-are None (Some t) = refl
fields-are (Some a) None = refl
fields-are (Some a) (Some t) = refl

pub headers-are : (a : Option ℤ) (t : Option ℕ) → header_bytes a t ≡ headers_of a (form_of (effective_timeout t))
unfolding header_bytes
headers-are a t = fields-are a (effective_timeout t)

pub body_is : (n : ℤ) (a : Option ℤ) (t : Option ℕ) (m : Bool) (p : List ℕ)
    → invoke_bytes n a t m p ≡ body_with (form_of (effective_timeout t)) n a m p
unfolding invoke_bytes body_with
body_is n a t m p = ap (λ (h : List ℕ). bytes 8 (of_z w64 n) ++ (h ++ (marker_bytes m ++ p))) (headers-are a t)

place_is : (a : Option ℤ) (t : Option ℕ) (m : Bool) → rest_at (form_of (effective_timeout t)) a m ≡ payload_at a t m
place_is a t m = ap (λ (h : List ℕ). 8 + (length h + length (marker_bytes m))) (sym (headers-are a t))

meant-fits : (t : Option ℕ) → TimeoutFits t → TimeoutFits (effective_timeout t)
meant-fits None f = tt
meant-fits (Some t) f = go (eqb t 0)
  where
    go : (b : Bool) → TimeoutFits (pick b None (Some t))
    go true = tt
    go false = f

-- the meaning that was written
abbrev pub written : ℤ → Option ℤ → Option ℕ → Bool → List ℕ → Result Invoke Refusal
written n a t m p =
    Ok (invoke_with n a (effective_timeout t) m (payload_at a t m) (length p))

module _ (n : ℤ) (m : Bool) (payload : List ℕ) (c : payload_refused m payload ≡ false) where
  -- reading what was written gives the same meaning
  pub read_back : (a : Option ℤ) (t : Option ℕ) → SFits w64 n → (of_z w64 n ≡ 0 → ⊥) → ActorFits a → TimeoutFits t
      → read_invoke (invoke_bytes n a t m payload) ≡ written n a t m payload
  read_back a t f z fa ft =
      let u = effective_timeout t in
      let fits : TimeoutFits (timeout_in (form_of u)) = rw (form-says u) (meant-fits t ft) in
      ap read_invoke (body_is n a t m payload)
      ∙ form-reads n m payload c a (form_of u) f z fa fits
      ∙ ap (λ (x : Option ℕ). Ok (invoke_with n a x m (rest_at (form_of u) a m) (length payload)))
      (ap effective_timeout (form-says u) ∙ meant-twice t)
      ∙ ap (λ (k : ℕ). Ok (invoke_with n a u m k (length payload))) (place_is a t m)

  -- and the part that it names is the payload
  pub invoke-part : (a : Option ℤ) (t : Option ℕ) → within (invoke_bytes n a t m payload) (payload_at a t m) (length payload) ≡ payload
  invoke-part a t =
      let e = form_of (effective_timeout t) in
      ap (λ (s : List ℕ). within s (payload_at a t m) (length payload)) (body_is n a t m payload)
      ∙ ap (λ (k : ℕ). within (body_with e n a m payload) k (length payload)) (sym (place_is a t m))
      ∙ form-part n m payload c a e
