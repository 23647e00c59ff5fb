-- The bodies of messages are bytes, where the payload or text is. Assumes nothing.
use native.Mathlib.Omega.{arith}
use borrow.Author.Tests.{ltb-true}
use mathlib.Core.Path.{◌≡◌, refl}
use mathlib.Core.Bool.{Bool, true, false}
use mathlib.Core.List.{List, [], ◌∷◌, ◌++◌}
use Prim.Native.Nat.{ℕ, zero, suc, ◌+◌, ◌<◌}
use lib.ListN.{length, replicate}
use lib.Dec.{ltb, lit<}
use mir.Syntax.{w32, w64}
use mir.Val.{of_z}
use Rattle.wire.specs.Bytes.{bytes}
use Rattle.wire.specs.Choice.{pick}
use Rattle.wire.proofs.ByteLaws.{Small}
use Rattle.text.specs.TextForm.{pad_of, text_head, head_size, text_bytes}
use Rattle.invoke.specs.Fields.{effective_timeout}
use Rattle.invoke_out.specs.WriteInvoke.{field_bytes, header_bytes, marker_bytes, invoke_bytes}
use Rattle.result_out.specs.WriteResult.{payload_bytes, error_bytes}
use Rattle.cancel_out.specs.WriteShort.{cancel_bytes}
use Rattle.message_out.specs.Outgoing.{body_of}
use Rattle.message_out.specs.declared.Outgoing.{Outgoing}
use Rattle.message_out.specs.declared.Outgoing.TheVariants.{Invoke, Cancel, ClientFin, Payload, Error, ServerFin, Unknown}
use Rattle.pair.proofs.SumLaws.{small-append, small_bytes}
use Rattle.pair.proofs.NoncePasses.{small-zeros}
use Rattle.std.specs.Prelude.{Option, Some, None, ℤ}

small-none : Small []
small-none i = lit< tt

small-fields : (a : Option ℤ) (t : Option ℕ) → Small (field_bytes a t)
unfolding field_bytes
small-fields None None = small-none
small-fields (Some a) None =
    small-append (bytes 4 0x7568aabd) (bytes 8 (of_z w64 a)) (small_bytes 4 0x7568aabd) (small_bytes 8 (of_z w64 a))
small-fields None (Some t) =
    small-append (bytes 4 0xe352035e) (bytes 4 0x800000 ++ bytes 4 t) (small_bytes 4 0xe352035e)
    (small-append (bytes 4 0x800000) (bytes 4 t) (small_bytes 4 0x800000) (small_bytes 4 t))
small-fields (Some a) (Some t) =
    small-append (bytes 4 0xf0a5acf7) (bytes 8 (of_z w64 a) ++ (bytes 4 0x800000 ++ bytes 4 t)) (small_bytes 4 0xf0a5acf7)
    (small-append (bytes 8 (of_z w64 a)) (bytes 4 0x800000 ++ bytes 4 t) (small_bytes 8 (of_z w64 a))
    (small-append (bytes 4 0x800000) (bytes 4 t) (small_bytes 4 0x800000) (small_bytes 4 t)))

small-header : (a : Option ℤ) (t : Option ℕ) → Small (header_bytes a t)
unfolding header_bytes
small-header a t = small-fields a (effective_timeout t)

small-marker : (m : Bool) → Small (marker_bytes m)
unfolding marker_bytes
small-marker true = small_bytes 4 0x29324c54
small-marker false = small-none

small-head : (n : ℕ) → Small (text_head n)
unfolding text_head
small-head n = go (ltb n 254) refl
  where
    one : (x : ℕ) (s : List ℕ) → x < 256 → Small s → Small (x ∷ s)
    one x s h g zero = h
    one x s h g (suc i) = g i

    go : (b : Bool) → ltb n 254 ≡ b → Small (pick b (n ∷ []) (254 ∷ bytes 3 n))
    go true e = one n [] (omega (arith, ltb-true n 254 e)) small-none
    go false e = one 254 (bytes 3 n) (lit< tt) (small_bytes 3 n)

small-text : (t : List ℕ) → Small t → Small (text_bytes t)
unfolding text_bytes
small-text t g =
    small-append (text_head (length t)) (t ++ replicate (pad_of (head_size (length t) + length t)) 0) (small-head (length t))
    (small-append t (replicate (pad_of (head_size (length t) + length t)) 0) g (small-zeros (pad_of (head_size (length t) + length t))))

pub small-body : (w : Outgoing) (p : List ℕ) → Small p → Small (body_of w p)
unfolding body_of invoke_bytes cancel_bytes payload_bytes error_bytes
small-body (Invoke n a t m) p g =
    small-append (bytes 8 (of_z w64 n)) (header_bytes a t ++ (marker_bytes m ++ p)) (small_bytes 8 (of_z w64 n))
    (small-append (header_bytes a t) (marker_bytes m ++ p) (small-header a t) (small-append (marker_bytes m) p (small-marker m) g))
small-body (Cancel n) p g = small_bytes 8 (of_z w64 n)
small-body ClientFin p g = small-none
small-body (Payload n) p g = small-append (bytes 8 (of_z w64 n)) p (small_bytes 8 (of_z w64 n)) g
small-body (Error n code) p g =
    small-append (bytes 8 (of_z w64 n)) (bytes 4 0xb527877d ++ (bytes 4 (of_z w32 code) ++ text_bytes p)) (small_bytes 8 (of_z w64 n))
    (small-append (bytes 4 0xb527877d) (bytes 4 (of_z w32 code) ++ text_bytes p) (small_bytes 4 0xb527877d)
    (small-append (bytes 4 (of_z w32 code)) (text_bytes p) (small_bytes 4 (of_z w32 code)) (small-text p g)))
small-body ServerFin p g = small-none
small-body (Unknown kind) p g = small-none
