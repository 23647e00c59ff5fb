-- What each writer of a body answers and leaves, said of the message. Assumes nothing.
use native.Mathlib.Omega.{arith}
use borrow.Author.Tests.{le-ltb}
use mathlib.Core.Path.{◌≡◌}
use mathlib.Core.Logic.{◌⊎◌, inl, inr}
use mathlib.Core.Bool.{Bool}
use mathlib.Core.List.{List, []}
use Prim.Native.Nat.{ℕ}
use lib.ListN.{length}
use lib.IntN.{ℤ}
use Rattle.body.specs.Written.{size_or_refusal, bytes_after}
use Rattle.invoke_out.specs.WriteInvoke.{invoke_bytes, invoke_answer}
use Rattle.result_out.specs.WriteResult.{payload_bytes, payload_answer, error_bytes, error_answer}
use Rattle.cancel_out.specs.WriteShort.{cancel_bytes, cancel_answer}
use Rattle.message_out.specs.Outgoing.{body_of, number_zero, payload_misread}
use Rattle.message_out.specs.Parts.{body_answer}
use Rattle.message_out.specs.declared.Outgoing as O
use Rattle.message_out.specs.declared.Outgoing.TheVariants.{Invoke, Cancel, ClientFin, Payload, Error, ServerFin, Unknown}
use Rattle.std.specs.Prelude.{Result, Ok, Option}
use Rattle.refusal.specs.declared.Refusal.{Refusal}

-- an answer, and the lent bytes after it, of a message's body
abbrev Is : O.Outgoing → List ℕ → List ℕ → Result ℕ Refusal → List ℕ → Type 0
Is w p d r e = (r ≡ body_answer w p (length d)) × (e ≡ bytes_after r d (body_of w p))

module _ (w : O.Outgoing) (p d : List ℕ) {r : Result ℕ Refusal} {e : List ℕ} where
  -- a number is written as the local holds it
  pub invoke-is : {n x : ℤ} {a : Option ℤ} {t : Option ℕ} {m : Bool} → w ≡ Invoke n a t m → x ≡ n
      → (r ≡ invoke_answer x a t m p (length d)) × (e ≡ bytes_after r d (invoke_bytes x a t m p)) → Is w p d r e
  unfolding body_answer body_of number_zero payload_misread size_or_refusal invoke_answer
  invoke-is f g h = rw (f, ← g) h

  pub cancel-is : {n x : ℤ} → w ≡ Cancel n → x ≡ n
      → (r ≡ cancel_answer x (length d)) × (e ≡ bytes_after r d (cancel_bytes x)) → Is w p d r e
  unfolding body_answer body_of number_zero payload_misread size_or_refusal cancel_answer
  cancel-is f g h = rw (f, ← g) h

  pub payload-is : {n x : ℤ} → w ≡ Payload n → x ≡ n
      → (r ≡ payload_answer x p (length d)) × (e ≡ bytes_after r d (payload_bytes x p)) → Is w p d r e
  unfolding body_answer body_of number_zero payload_misread size_or_refusal payload_answer
  payload-is f g h = rw (f, ← g) h

  pub error-is : {n x c y : ℤ} → w ≡ Error n c → x ≡ n → y ≡ c
      → (r ≡ error_answer x y p (length d)) × (e ≡ bytes_after r d (error_bytes x y p)) → Is w p d r e
  unfolding body_answer body_of number_zero payload_misread size_or_refusal error_answer
  error-is f g g' h = rw (f, ← g, ← g') h

  -- nothing is written, and nothing refuses it
  pub empty-is : ((w ≡ ClientFin) ⊎ ((w ≡ ServerFin) ⊎ ((kind : ℕ) × (w ≡ Unknown kind)))) → (r ≡ Ok 0) × (e ≡ bytes_after r d []) → Is w p d r e
  unfolding body_answer body_of number_zero payload_misread
  empty-is (inl f) h = rw (f, le-ltb (length d) 0 (omega arith)) h
  empty-is (inr (inl f)) h = rw (f, le-ltb (length d) 0 (omega arith)) h
  empty-is (inr (inr (k, f))) h = rw (f, le-ltb (length d) 0 (omega arith)) h
