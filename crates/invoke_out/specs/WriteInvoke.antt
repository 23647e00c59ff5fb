-- The bytes of an invoke's body, and the writer's answer (document 01: "The writer uses no header for nothing, the
-- combined one for both, and the marker last"). Assumes nothing.
use Rattle.std.specs.Prelude.{ℕ, ◌+◌, List, [], ◌++◌, Bool, true, false, length, ℤ, Option, Some, None, Result}
use Rattle.std.specs.Int.{w64}
use Rattle.std.proofs.Common.{of_z}
use Rattle.wire.specs.Bytes.{bytes}
use Rattle.header.specs.Headers.{reads_as_header}
use Rattle.header.specs.declared.Side.TheVariants.{Server}
use Rattle.body.specs.Written.{size_or_refusal}
use Rattle.refusal.specs.declared.Refusal.{Refusal}
use Rattle.invoke.specs.Fields.{effective_timeout}

-- no header for nothing, rpcDestActor, rpcDestFlags, or rpcDestActorFlags; the mask has bit 23 for the timeout, whatever
-- it is
unfoldable pub field_bytes : Option ℤ → Option ℕ → List ℕ
field_bytes None None = []
field_bytes (Some a) None = bytes 4 0x7568aabd ++ bytes 8 (of_z w64 a)
field_bytes None (Some t) = bytes 4 0xe352035e ++ (bytes 4 0x800000 ++ bytes 4 t)
field_bytes (Some a) (Some t) =
    bytes 4 0xf0a5acf7 ++ (bytes 8 (of_z w64 a) ++ (bytes 4 0x800000 ++ bytes 4 t))

-- the header that is written: for a timeout of 0 "the writer sends no field" (document 02, A1)
unfoldable pub header_bytes : Option ℤ → Option ℕ → List ℕ
header_bytes a t = field_bytes a (effective_timeout t)

-- rpcTL2Marker, or nothing
unfoldable pub marker_bytes : Bool → List ℕ
marker_bytes true = bytes 4 0x29324c54
marker_bytes false = []

-- number, headers, marker, payload
unfoldable pub invoke_bytes : ℤ → Option ℤ → Option ℕ → Bool → List ℕ → List ℕ
invoke_bytes n a t m p = bytes 8 (of_z w64 n) ++ (header_bytes a t ++ (marker_bytes m ++ p))

-- how many they are
unfoldable pub invoke_size : Option ℤ → Option ℕ → Bool → List ℕ → ℕ
invoke_size a t m p = 8 + length (header_bytes a t) + length (marker_bytes m) + length p

-- "without the marker, a rest that begins with any of the six values is 15"
unfoldable pub payload_refused : Bool → List ℕ → Bool
payload_refused true p = false
payload_refused false p = reads_as_header Server p

-- the answer, in the order 12, 15, 2, 16
unfoldable pub invoke_answer : ℤ → Option ℤ → Option ℕ → Bool → List ℕ → ℕ → Result ℕ Refusal
invoke_answer n a t m p room = size_or_refusal n (payload_refused m p) (length (invoke_bytes n a t m p)) room
