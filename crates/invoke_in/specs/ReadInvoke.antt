-- The meaning of an invoke's body (document 01: "Invoke: number, headers, rest"). Assumes nothing.
use Rattle.std.specs.Prelude.{ℕ, ◌-◌, List, [], ◌∷◌, length, ltb, eqb, ℤ, Result, Ok, Err}
use Rattle.std.specs.Int.{w64}
use Rattle.std.proofs.Common.{to_z}
use Rattle.wire.specs.Bytes.{le, part}
use Rattle.wire.specs.Choice.{first}
use Rattle.invoke.specs.Fields.{effective_timeout}
use Rattle.invoke_headers.specs.Headers.{headers_from, start}
use Rattle.invoke_headers.specs.declared.Next.{Next}
use Rattle.invoke_headers.specs.declared.Next.TheVariants.{More, Done}
use Rattle.invoke_headers.specs.declared.Headers.{Headers}
use Rattle.invoke.specs.declared.Invoke.{Invoke}
use Rattle.refusal.specs.declared.Refusal.{Refusal}
use Rattle.refusal.specs.declared.Refusal.TheVariants.{MessageCut, NumberZero, HeaderRepeated}

-- "the meaning is: number, actor or none, timeout or none, TL2 or not, rest", where a timeout field of 0 is none
-- (document 02, A1)
abbrev pub invoke_of : List ℕ → ℤ → Headers → Invoke
invoke_of s n h =
    record {
      number = n;
      actor = h.actor;
      timeout = effective_timeout h.timeout;
      tl2 = h.tl2;
      at = h.at;
      len = length s - h.at;
    }

-- what the headers led to: the meaning, or their refusal (`headers_from` never ends in More)
abbrev pub meaning : List ℕ → ℤ → Result Next Refusal → Result Invoke Refusal
meaning s n (Ok (More h)) = Err HeaderRepeated
meaning s n (Ok (Done h)) = Ok (invoke_of s n h)
meaning s n (Err k) = Err k

-- field by field: the query number, "never 0", then the headers. Each takes four bytes or more, so as many as there are
-- bytes are enough
unfoldable pub read_invoke : List ℕ → Result Invoke Refusal
read_invoke s =
    first (
    (ltb (length s) 8, Err MessageCut) ∷
    (eqb (le (part s 0 8)) 0, Err NumberZero) ∷
    []
    ) (meaning s (to_z w64 (le (part s 0 8))) (headers_from (length s) s start))
