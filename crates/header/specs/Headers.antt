-- The header values (document 01, "Messages"). Assumes nothing.
use Rattle.std.specs.Prelude.{ℕ, List, [], ◌∷◌, Bool, true, false, length, ltb, eqb}
use Rattle.wire.specs.Bytes.{le, part}
use Rattle.wire.specs.Choice.{pick, first}
use Rattle.header.specs.declared.Side.{Side}
use Rattle.header.specs.declared.Side.TheVariants.{Client, Server}
use Rattle.header.specs.declared.Kind.{Kind}
use Rattle.header.specs.declared.Kind.TheVariants as K

-- the table of an invoke's headers, row by row
unfoldable pub request_kind : ℕ → Kind
request_kind v =
    first (
    (eqb v 0xe352035e, K.Flags) ∷
    (eqb v 0x7568aabd, K.Actor) ∷
    (eqb v 0xf0a5acf7, K.ActorFlags) ∷
    (eqb v 0xbceb94c3, K.Diagonal) ∷
    (eqb v 0xee090e42, K.Diagonal) ∷
    (eqb v 0x29324c54, K.Marker) ∷
    []
    ) K.Other

-- reqResultHeader, reqError, wrapped, and the value before a query number that is ignored
unfoldable pub answer_kind : ℕ → Kind
answer_kind v =
    first (
    (eqb v 0x8cc84ce1, K.ResultHeader) ∷
    (eqb v 0xb527877d, K.Error) ∷
    (eqb v 0x7ae432f6, K.Error) ∷
    (eqb v 0x7ae432f5, K.NumberedError) ∷
    []
    ) K.Other

-- a server reads requests, a client reads answers
unfoldable pub kind_of : Side → ℕ → Kind
kind_of Server v = request_kind v
kind_of Client v = answer_kind v

-- every kind but the last is a header
abbrev pub is_header : Kind → Bool
is_header K.Other = false
is_header K.Flags = true
is_header K.Actor = true
is_header K.ActorFlags = true
is_header K.Diagonal = true
is_header K.Marker = true
is_header K.ResultHeader = true
is_header K.Error = true
is_header K.NumberedError = true

-- "a rest that begins with any of the six values", "a page that begins with any of the four values": refusal 15
unfoldable pub reads_as_header : Side → List ℕ → Bool
reads_as_header side p = pick (ltb (length p) 4) false (is_header (kind_of side (le (part p 0 4))))
