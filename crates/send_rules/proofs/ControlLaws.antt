-- The two ways of a send of the link itself: it is refused, or the body is stored and sealed. Assumes nothing.
use Rattle.std.proofs.Common.{◌≡◌, ℕ, ◌≤◌, Bool, true, false, ltb, List, length, sym, refl, ap, ◌∙◌, ltb-false}
use lib.Seq.{sets}
use Rattle.wire.specs.Choice.{pick}
use Rattle.link_state.specs.declared.Link.{Link}
use Rattle.packet_out.specs.Size.{size_of, fits_of}
use Rattle.packet_out.specs.Packet.{sealed_of}
use Rattle.packet_out.proofs.SealLaws.{sealed-over}
use Rattle.send_rules.specs.Sent.{sent_of}
use Rattle.send_rules.specs.Control.{check_send, control_answer, step_by, buffer_by, control_step, control_buffer}
use Rattle.refusal.specs.declared.Refusal.TheVariants.{LengthOverLimit, BufferTooSmall}
use Rattle.std.specs.Prelude.{Result, Ok, Err, ⊤}
use Rattle.std.specs.Result.{result_and}
use Rattle.refusal.specs.declared.Refusal.{Refusal}

-- a step's answer is the one that it goes by
pub step-answer : (l : Link) (kind id : ℕ) (x : Result ℕ Refusal) → (step_by l kind id x).answer ≡ x
step-answer l kind id (Ok n) = refl
step-answer l kind id (Err k) = refl

by_tests : (r : Result ⊤ Refusal) (t u : Bool) (len size room n : ℕ) → ltb 16777199 len ≡ t → ltb room size ≡ u
    → result_and r (pick t (Err LengthOverLimit) (pick u (Err BufferTooSmall) (Ok size))) ≡ Ok n → (len ≤ 16777199) × (size ≤ room)
by_tests (Err k) t u len size room n e f h = cc
by_tests (Ok x) true u len size room n e f h = cc
by_tests (Ok x) false true len size room n e f h = cc
by_tests (Ok x) false false len size room n e f h = (ltb-false 16777199 len e, ltb-false room size f)

module _ (l : Link) (kind : ℕ) (busy : Bool) (len : ℕ) (body : List ℕ) (id : ℕ) (b : List ℕ) (is : length body ≡ len) where
  -- where a size is answered the packet has room
  pub fits : (n : ℕ) → control_answer l kind busy len (length b) ≡ Ok n → (len ≤ 16777199) × (size_of l len ≤ length b)
  unfolding control_answer fits_of
  fits n h = by_tests (check_send l kind busy) (ltb 16777199 len) (ltb (length b) (size_of l len)) len (size_of l len) (length b) n refl refl h

  -- the answer by the body's length
  by_length : {a x : Result ℕ Refusal} → a ≡ control_answer l kind busy len (length b) → a ≡ x → control_answer l kind busy (length body) (length b) ≡ x
  by_length e f = ap (λ (n : ℕ). control_answer l kind busy n (length b)) is ∙ (sym e ∙ f)

  pub refused-step : {a : Result ℕ Refusal} {k : Refusal} → a ≡ control_answer l kind busy len (length b) → a ≡ Err k
      → (record { link = l; answer = Err k } ≡ control_step l kind busy body id (length b)) × (b ≡ control_buffer l kind busy body b)
  unfolding control_step control_buffer
  refused-step e f = (sym (ap (step_by l kind id) (by_length e f)), sym (ap (buffer_by l kind body b) (by_length e f)))

  pub written_step : {a : Result ℕ Refusal} {n : ℕ} {l2 : Link} {b1 b2 : List ℕ} → a ≡ control_answer l kind busy len (length b) → a ≡ Ok n
      → b1 ≡ sets b 12 body → b2 ≡ sealed_of l kind len b1 → l2 ≡ sent_of l kind id n
      → (record { link = l2; answer = Ok n } ≡ control_step l kind busy body id (length b)) × (b2 ≡ control_buffer l kind busy body b)
  unfolding control_step control_buffer
  written_step {a} {n} e f e1 e2 el =
      let r = fits n (sym e ∙ f) in (
        ap (λ (x : Link). record { link = x; answer = Ok n }) el ∙ sym (ap (step_by l kind id) (by_length e f)),
        sealed-over l kind len b body is r.0 r.1 e1 e2 ∙ sym (ap (buffer_by l kind body b) (by_length e f)),
      )
