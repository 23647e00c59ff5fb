-- The bodies of an invoke, in each form that says its actor and timeout (document 01, "Messages": the table of headers,
-- and the extra). We write one of them, and read all. Assumes nothing.
use Rattle.std.specs.Prelude.{Bool, ℕ, ◌+◌, ◌-◌, List, [], ◌∷◌, ◌++◌, length, ℤ, ltb, eqb, Err, Option, Some, None, Result, Ok}
use Rattle.std.specs.Int.{w64}
use Rattle.std.proofs.Common.{to_z, of_z}
use Rattle.wire.specs.Bytes.{le, part, bytes}
use Rattle.wire.specs.Choice.{first}
use Rattle.invoke.specs.Fields.{effective_timeout}
use Rattle.invoke_headers.specs.Headers.{headers_from, start}
use Rattle.invoke_headers.specs.declared.Next.{Next}
use Rattle.invoke_headers.specs.declared.Next.TheVariants.{More, Done}
use Rattle.invoke_out.specs.WriteInvoke.{marker_bytes}
use Rattle.message.specs.PartOf.{part_of}
use Rattle.message.specs.declared.Message.{Message}
use Rattle.message.specs.declared.Message.TheVariants as M
use Rattle.message_laws.specs.RoundTrip.{invoke_with}
use Rattle.refusal.specs.declared.Refusal.TheVariants.{MessageCut, NumberZero, HeaderRepeated}
use Rattle.refusal.specs.declared.Refusal.{Refusal}
use Rattle.invoke.specs.declared.Invoke.{Invoke}

-- "a 32-bit mask in which only bit 23 may be set; then a 32-bit timeout in ms follows"
unfoldable pub extra_bytes : Option ℕ → List ℕ
extra_bytes None = bytes 4 0
extra_bytes (Some t) = bytes 4 0x800000 ++ bytes 4 t

-- rpcDestActor and rpcDestFlags, with their fields
unfoldable pub actor_header : ℤ → List ℕ
actor_header a = bytes 4 0x7568aabd ++ bytes 8 (of_z w64 a)

unfoldable pub flags_header : Option ℕ → List ℕ
flags_header t = bytes 4 0xe352035e ++ extra_bytes t

-- where an extra stands beside an actor: in rpcDestActorFlags, or in a header of its own before or behind the actor's
pub data Place : Type 0 where
  Together : Place
  Before : Place
  Behind : Place

-- no extra; or one there, of mask 0 (None) or with a field
pub data Extra : Type 0 where
  NoExtra : Extra
  Has : Place → Option ℕ → Extra

unfoldable pub headers_of : Option ℤ → Extra → List ℕ
headers_of None NoExtra = []
headers_of None (Has place t) = flags_header t
headers_of (Some a) NoExtra = actor_header a
headers_of (Some a) (Has Together t) = bytes 4 0xf0a5acf7 ++ (bytes 8 (of_z w64 a) ++ extra_bytes t)
headers_of (Some a) (Has Before t) = flags_header t ++ actor_header a
headers_of (Some a) (Has Behind t) = actor_header a ++ flags_header t

-- number, headers, marker, payload
unfoldable pub body_with : Extra → ℤ → Option ℤ → Bool → List ℕ → List ℕ
body_with e n a m p = bytes 8 (of_z w64 n) ++ (headers_of a e ++ (marker_bytes m ++ p))

-- the timeout as it stands in the body
abbrev pub timeout_in : Extra → Option ℕ
timeout_in NoExtra = None
timeout_in (Has place t) = t

-- where the payload begins
abbrev pub rest_at : Extra → Option ℤ → Bool → ℕ
rest_at e a m = 8 + (length (headers_of a e) + length (marker_bytes m))

-- ---- no timeout

-- the forms without a timeout (document 02, A1: "a field of 0 and no field have one meaning"): the field at 0, an extra
-- of mask 0, and no extra
pub data Without : Type 0 where
  FieldOf0 : Place → Without
  MaskOf0 : Place → Without
  NoField : Without

abbrev pub extra_of : Without → Extra
extra_of (FieldOf0 place) = Has place (Some 0)
extra_of (MaskOf0 place) = Has place None
extra_of NoField = NoExtra

-- ---- the meaning

-- "number, actor or none, timeout or none, TL2 or not, rest"; or a refusal; or that a message is no invoke
pub data Meaning : Type 0 where
  Means : ℤ → Option ℤ → Option ℕ → Bool → List ℕ → Meaning
  Refused : Refusal → Meaning
  NoInvoke : Meaning

-- what a message says of an invoke, with its rest as the part of the body s that it names
abbrev pub invoke_meaning : List ℕ → Result Message Refusal → Meaning
invoke_meaning s (Ok (M.Invoke i)) = Means i.number i.actor i.timeout i.tl2 (part_of s (Ok (M.Invoke i)))
invoke_meaning s (Err k) = Refused k
invoke_meaning s (Ok (M.Result r)) = NoInvoke
invoke_meaning s (Ok (M.Cancel n)) = NoInvoke
invoke_meaning s (Ok M.ClientFin) = NoInvoke
invoke_meaning s (Ok M.ServerFin) = NoInvoke

-- ---- before the request

-- what a body said by document 01 alone: "A timeout field of 0 is reported as 0 ms"
abbrev pub base_meaning : List ℕ → ℤ → Result Next Refusal → Result Invoke Refusal
base_meaning s n (Ok (More h)) = Err HeaderRepeated
base_meaning s n (Ok (Done h)) = Ok (invoke_with n h.actor h.timeout h.tl2 h.at (length s - h.at))
base_meaning s n (Err k) = Err k

unfoldable pub base_read : List ℕ → Result Invoke Refusal
base_read s =
    first (
    (ltb (length s) 8, Err MessageCut) ∷
    (eqb (le (part s 0 8)) 0, Err NumberZero) ∷
    []
    ) (base_meaning s (to_z w64 (le (part s 0 8))) (headers_from (length s) s start))

-- and what the request makes of it: no refusal is another, and no field but the timeout
abbrev pub corrected : Result Invoke Refusal → Result Invoke Refusal
corrected (Ok i) =
    Ok (invoke_with i.number i.actor (effective_timeout i.timeout) i.tl2 i.at i.len)
corrected (Err k) = Err k
