-- The words in which reading back is stated (document 01: what is written reads to the same meaning). Assumes nothing.
use Rattle.std.specs.Prelude.{◌≡◌, ℕ, ◌+◌, ◌<◌, List, Bool, length, ℤ, Option, Some, None, Result}
use Rattle.std.specs.Int.{w64}
use Rattle.std.proofs.Common.{SFits}
use Rattle.invoke.specs.declared.Invoke.{Invoke}
use Rattle.invoke_out.specs.WriteInvoke.{header_bytes, marker_bytes}
use Rattle.message.specs.PartOf.{part_of}
use Rattle.message.specs.declared.Message.{Message}
use Rattle.refusal.specs.declared.Refusal.{Refusal}

-- what `read` finds in s is the message m, and the part that m names there is p
abbrev pub ReadsAs : (List ℕ → Result Message Refusal) → List ℕ → Result Message Refusal → List ℕ → Type 0
ReadsAs read s m p = (read s ≡ m) × (part_of s m ≡ p)

-- an invoke, by its fields in their order
abbrev pub invoke_with : ℤ → Option ℤ → Option ℕ → Bool → ℕ → ℕ → Invoke
invoke_with n a t m at len = record { number = n; actor = a; timeout = t; tl2 = m; at = at; len = len }

-- an actor is signed, 64 bits; a timeout has 32 bits
abbrev pub ActorFits : Option ℤ → Type 0
ActorFits None = Unit
ActorFits (Some a) = SFits w64 a

abbrev pub TimeoutFits : Option ℕ → Type 0
TimeoutFits None = Unit
TimeoutFits (Some t) = t < 4294967296

-- where an invoke's payload begins: behind number, headers and marker
abbrev pub payload_at : Option ℤ → Option ℕ → Bool → ℕ
payload_at a t m = 8 + (length (header_bytes a t) + length (marker_bytes m))
