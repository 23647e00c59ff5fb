-- A link sends a timeout of 0 as none (document 02, A1: "the writer sends no field for it"). Assumes nothing.
use mathlib.Core.Path.{◌≡◌, refl}
use mathlib.Core.Bool.{Bool}
use mathlib.Core.List.{List}
use Prim.Native.Nat.{ℕ}
use lib.ListN.{length}
use lib.IntN.{ℤ}
use Rattle.invoke_out.specs.WriteInvoke.{header_bytes, invoke_bytes}
use Rattle.link_state.specs.declared.Link.{Link}
use Rattle.message_out.specs.Outgoing.{kind_of, body_of, wrong_way, number_zero, payload_misread}
use Rattle.message_out.specs.MessageStep.{message_answer, message_step, message_buffer}
use Rattle.message_out.specs.declared.Outgoing.TheVariants.{Invoke}
use Rattle.std.specs.Prelude.{Option, Some, None}

-- the answer and the link after it, and the whole buffer, of any link and into any buffer
pub zero-sent : (l : Link) (n : ℤ) (a : Option ℤ) (m : Bool) (p b : List ℕ)
    → (message_step l (Invoke n a (Some 0) m) p (length b)
    ≡ message_step l (Invoke n a None m) p (length b))
    × (message_buffer l (Invoke n a (Some 0) m) p b
    ≡ message_buffer l (Invoke n a None m) p b)
unfolding message_step message_buffer message_answer kind_of body_of wrong_way number_zero payload_misread invoke_bytes header_bytes
zero-sent l n a m p b = (refl, refl)
