-- What C reads of a timeout (document 02, A1): the flag and the number say the same. Assumes nothing.
use mathlib.Core.Path.{◌≡◌, refl, ap}
use mathlib.Core.Bool.{not}
use lib.Dec.{eqb}
use borrow.Author.Tests.{ne_eqb}
use Rattle.invoke.specs.declared.Invoke.{Invoke}
use Rattle.result.specs.declared.Answer as A
use Rattle.message.specs.declared.Message.{Message}
use Rattle.message.specs.declared.Message.TheVariants as M
use Rattle.message_c.specs.MessageFields.{is_limited, timeout_of, answer_fields, fields_of}
use Rattle.std.specs.Prelude.{ℕ, Result, Ok, Err, Option, Some, None}
use Rattle.refusal.specs.declared.Refusal.{Refusal}

limited : (t : Option ℕ) → (t ≡ Some 0 → ⊥) → is_limited t ≡ not (eqb (timeout_of t) 0)
limited None f = refl
limited (Some ms) f = rw (ne_eqb ms 0 (λ e. f (ap Some e)))

module _ (x : Result Message Refusal) where
  abbrev pub Told : Type 0
  Told = (fields_of x).hastimeout ≡ not (eqb (fields_of x).timeout 0)

pub told : (x : Result Message Refusal) → ((i : Invoke) → x ≡ Ok (M.Invoke i) → i.timeout ≡ Some 0 → ⊥) → Told x
unfolding fields_of
told (Ok (M.Invoke i)) f = limited i.timeout (f i refl)
told (Ok (M.Result r)) f = by_answer r.answer
  where
    by_answer : (x : A.Answer)
        → (answer_fields r.number x).hastimeout ≡ not (eqb (answer_fields r.number x).timeout 0)
    by_answer (A.TheVariants.Payload at len) = refl
    by_answer (A.TheVariants.Error code at len) = refl
told (Ok (M.Cancel n)) f = refl
told (Ok M.ClientFin) f = refl
told (Ok M.ServerFin) f = refl
told (Err k) f = refl
