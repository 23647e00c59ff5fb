-- C sees a timeout of a message that was read exactly if it is not 0. Assumes nothing.
use Prim.Native.Nat.{ℕ}
use mathlib.Core.List.{List}
use Rattle.header.specs.declared.Side.{Side}
use Rattle.message.specs.ReadMessage.{read_message}
use Rattle.message_laws.proofs.ZeroIsNone.{never-read-as-0}
use Rattle.message_c.proofs.Timeouts.{Told, told}

-- THE FLAG IS THE NUMBER: whatever is read, hastimeout is true exactly if timeout is not 0
pub timeout-told : (side : Side) (v : ℕ) (s : List ℕ) → Told (read_message side v s)
timeout-told side v s = told (read_message side v s) (λ i. never-read-as-0 side v s)
