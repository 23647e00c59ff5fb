-- An invoke's headers (document 01, "Messages": the table of headers, and the extra). Assumes nothing.
use Rattle.std.specs.Prelude.{ℕ, zero, suc, ◌+◌, ◌-◌, List, [], ◌∷◌, true, false, length, ltb, eqb, ℤ, Result, Ok, Err, Option, Some, None}
use Rattle.std.specs.Int.{w64}
use Rattle.std.proofs.Common.{to_z}
use Rattle.wire.specs.Bytes.{le, part}
use Rattle.wire.specs.Choice.{pick, first}
use Rattle.header.specs.Headers.{kind_of}
use Rattle.header.specs.declared.Side.TheVariants.{Server}
use Rattle.header.specs.declared.Kind as K
use Rattle.invoke.specs.Fields.{is_given}
use Rattle.invoke_headers.specs.declared.Extra.{Extra}
use Rattle.invoke_headers.specs.declared.Next.{Next}
use Rattle.invoke_headers.specs.declared.Next.TheVariants.{More, Done}
use Rattle.invoke_headers.specs.declared.Headers.{Headers}
use Rattle.refusal.specs.declared.Refusal.{Refusal}
use Rattle.refusal.specs.declared.Refusal.TheVariants.{MessageCut, HeaderRepeated, HeaderNotCarried}

-- "a 32-bit mask in which only bit 23 may be set; then a 32-bit timeout in ms follows"
unfoldable pub read_extra : List ℕ → ℕ → Result Extra Refusal
read_extra s at =
    first (
    (ltb (length s - at) 4, Err MessageCut) ∷
    (eqb (le (part s at 4)) 0, Ok (record { timeout = None; next = at + 4 })) ∷ (
      eqb (le (part s at 4)) 0x800000,
      pick (ltb (length s - at) 8) (Err MessageCut) (Ok (record { timeout = Some (le (part s (at + 4) 4)); next = at + 8 })),
    ) ∷
    []
    ) (Err HeaderNotCarried)

-- a header that ends with an extra: the headers go on behind it
abbrev pub with_extra : Option ℤ → Result Extra Refusal → Result Next Refusal
with_extra a (Ok e) = Ok (More (record { at = e.next; actor = a; extra = true; timeout = e.timeout; tl2 = false }))
with_extra a (Err k) = Err k

-- rpcDestFlags: an extra. "A second actor or second extra is 13, seen at the header value, before its fields"
unfoldable pub flags_of : List ℕ → Headers → Result Next Refusal
flags_of s h = pick h.extra (Err HeaderRepeated) (with_extra h.actor (read_extra s (h.at + 4)))

-- rpcDestActor: an actor, signed 64
unfoldable pub actor_of : List ℕ → Headers → Result Next Refusal
actor_of s h =
    first (
    (is_given h.actor, Err HeaderRepeated) ∷
    (ltb (length s - h.at) 12, Err MessageCut) ∷
    []
    )
    (Ok (More
    (record { at = h.at + 12; actor = Some (to_z w64 (le (part s (h.at + 4) 8))); extra = h.extra; timeout = h.timeout; tl2 = false })))

-- rpcDestActorFlags: an actor, then an extra
unfoldable pub both_of : List ℕ → Headers → Result Next Refusal
both_of s h =
    first (
    (is_given h.actor, Err HeaderRepeated) ∷
    (h.extra, Err HeaderRepeated) ∷
    (ltb (length s - h.at) 12, Err MessageCut) ∷
    []
    ) (with_extra (Some (to_z w64 (le (part s (h.at + 4) 8)))) (read_extra s (h.at + 12)))

-- what each kind of header leads to: the diagonal pair is 14, and after rpcTL2Marker "reading stops"
abbrev pub by_kind : List ℕ → Headers → K.Kind → Result Next Refusal
by_kind s h K.TheVariants.Flags = flags_of s h
by_kind s h K.TheVariants.Actor = actor_of s h
by_kind s h K.TheVariants.ActorFlags = both_of s h
by_kind s h K.TheVariants.Diagonal = Err HeaderNotCarried
by_kind s h K.TheVariants.Marker =
    Ok (Done (record { at = h.at + 4; actor = h.actor; extra = h.extra; timeout = h.timeout; tl2 = true }))
by_kind s h K.TheVariants.ResultHeader = Ok (Done h)
by_kind s h K.TheVariants.Error = Ok (Done h)
by_kind s h K.TheVariants.NumberedError = Ok (Done h)
by_kind s h K.TheVariants.Other = Ok (Done h)

-- "fewer than four bytes, or another value, begin the rest"
unfoldable pub next_of : List ℕ → Headers → Result Next Refusal
next_of s h = pick (ltb (length s - h.at) 4) (Ok (Done h)) (by_kind s h (kind_of Server (le (part s h.at 4))))

-- after one header: the next, or the end
abbrev pub go_on : Result Next Refusal → (Headers → Result Next Refusal) → Result Next Refusal
go_on (Ok (More h)) f = f h
go_on (Ok (Done h)) f = Ok (Done h)
go_on (Err k) f = Err k

-- "headers are read while the next four bytes are a known one": at most so many from h on
unfoldable pub headers_from : ℕ → List ℕ → Headers → Result Next Refusal
headers_from zero s h = Ok (Done h)
headers_from (suc k) s h = go_on (next_of s h) (headers_from k s)

-- nothing said yet, after the query number
abbrev pub start : Headers
start = record { at = 8; actor = None; extra = false; timeout = None; tl2 = false }
