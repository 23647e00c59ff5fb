-- What is known of a message whose send call answers a size. Assumes nothing.
use native.Mathlib.Omega.{arith}
use borrow.Author.Tests.{ltb-false}
use mathlib.Core.Path.{◌≡◌, refl}
use mathlib.Core.Bool.{Bool, true, false}
use mathlib.Core.List.{List}
use Prim.Native.Nat.{ℕ, ◌≤◌}
use lib.ListN.{length}
use lib.Dec.{ltb}
use Rattle.wire.specs.Choice.{pick}
use Rattle.link_state.specs.declared.Link.{Link}
use Rattle.packet_out.specs.Size.{size_of, fits_of}
use Rattle.send_rules.specs.Control.{check_send}
use Rattle.message_out.specs.Outgoing.{kind_of, body_of, wrong_way, number_zero, payload_misread}
use Rattle.message_out.specs.MessageStep.{message_answer}
use Rattle.message_out.specs.declared.Outgoing.{Outgoing}
use Rattle.refusal.specs.declared.Refusal.TheVariants.{LengthOverLimit, NumberZero, PayloadReadsAsHeader, BufferTooSmall, TypeNotRpc}
use Rattle.std.specs.Prelude.{Err, Ok, Result, ⊤}
use Rattle.std.specs.Result.{result_and}
use Rattle.refusal.specs.declared.Refusal.{Refusal}

-- none of the send order's rows applies: 19, 12, 15, 2, 16; and the size is the packet's
pub record Accepted (l : Link) (w : Outgoing) (p : List ℕ) (room n : ℕ) : Type 0 where
  pub way : wrong_way l.set.server w ≡ false
  pub some : number_zero w ≡ false
  pub plain : payload_misread w p ≡ false
  pub short : length (body_of w p) ≤ 16777199
  pub fits : size_of l (length (body_of w p)) ≤ room
  pub size : n ≡ size_of l (length (body_of w p))

module _ (l : Link) (w : Outgoing) (p : List ℕ) (room n : ℕ) where
  abbrev len : ℕ
  len = length (body_of w p)

  abbrev size : ℕ
  size = size_of l len

  by_tests : (r : Result ⊤ Refusal) (x y z t u : Bool) → wrong_way l.set.server w ≡ x → number_zero w ≡ y → payload_misread w p ≡ z → ltb 16777199 len ≡ t → ltb room size ≡ u
      → result_and r (pick x (Err TypeNotRpc) (pick y (Err NumberZero) (pick z (Err PayloadReadsAsHeader) (pick t (Err LengthOverLimit) (pick u (Err BufferTooSmall) (Ok size)))))) ≡ Ok n
      → Accepted l w p room n
  by_tests (Err k) x y z t u ex ey ez et eu h = let q : ◌≡◌ {A = ℕ} 0 1 = cc in absurd (omega arith)
  by_tests (Ok v) true y z t u ex ey ez et eu h = let q : ◌≡◌ {A = ℕ} 0 1 = cc in absurd (omega arith)
  by_tests (Ok v) false true z t u ex ey ez et eu h = let q : ◌≡◌ {A = ℕ} 0 1 = cc in absurd (omega arith)
  by_tests (Ok v) false false true t u ex ey ez et eu h = let q : ◌≡◌ {A = ℕ} 0 1 = cc in absurd (omega arith)
  by_tests (Ok v) false false false true u ex ey ez et eu h = let q : ◌≡◌ {A = ℕ} 0 1 = cc in absurd (omega arith)
  by_tests (Ok v) false false false false true ex ey ez et eu h = let q : ◌≡◌ {A = ℕ} 0 1 = cc in absurd (omega arith)
  by_tests (Ok v) false false false false false ex ey ez et eu h =
      let q : size ≡ n = cc in
      record { way = ex; some = ey; plain = ez; short = ltb-false 16777199 len et; fits = ltb-false room size eu; size = omega arith }

pub accepted : (l : Link) (w : Outgoing) (p : List ℕ) (room n : ℕ) → message_answer l w p room ≡ Ok n → Accepted l w p room n
unfolding message_answer fits_of
accepted l w p room n h =
    by_tests l w p room n (check_send l (kind_of w) false) (wrong_way l.set.server w) (number_zero w) (payload_misread w p)
    (ltb 16777199 (length (body_of w p))) (ltb room (size_of l (length (body_of w p)))) refl refl refl refl refl h
