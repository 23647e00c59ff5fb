-- What a link sends, its peer receives and reads as the same message. Assumes nothing.
use mathlib.Core.Path.{◌≡◌, ap, ◌∙◌}
use mathlib.Core.Bool.{Bool, not}
use mathlib.Core.List.{List}
use Prim.Native.Nat.{ℕ, ◌≤◌, ◌<◌, ◌^◌}
use lib.ListN.{length}
use Rattle.wire.proofs.ByteLaws.{Small}
use Rattle.link_state.specs.declared.Link.{Link}
use Rattle.link_state.specs.declared.Moment.{Moment}
use Rattle.link.specs.Receive.{receive_of}
use Rattle.link.specs.declared.Received.{Received}
use Rattle.message.specs.PartOf.{part_of}
use Rattle.message.specs.declared.Message.{Message}
use Rattle.message_out.specs.Outgoing.{kind_of, body_of}
use Rattle.message_out.specs.MessageStep.{message_answer, message_step, message_buffer}
use Rattle.message_out.specs.declared.Outgoing.{Outgoing}
use Rattle.pair.specs.Awaits.{Awaits}
use Rattle.pair.proofs.StepAlike.{awaits-again, awaits-still}
use Rattle.pair_messages.specs.Meaning.{meaning_of, carried, Fits}
use Rattle.pair_messages.specs.Hear.{heard, side_of, read_at, hear_by, hears}
use Rattle.pair_messages.proofs.Accepted.{accepted}
use Rattle.pair_messages.proofs.Received.{may-come, body-handed, message-received}
use Rattle.pair_messages.proofs.Read.{message-read}
use Rattle.std.specs.Prelude.{Ok, Result}
use Rattle.refusal.specs.declared.Refusal.{Refusal}

module _ (l k : Link) (w : Outgoing) (p b : List ℕ) (n : ℕ) (sent : message_answer l w p (length b) ≡ Ok n) (a : Awaits k l) (over : 4 ≤ k.stage)
    (number : l.sends < 2 ^ 32) (g : Small p) (m : Moment) where
  -- WHAT IS SENT IS HEARD: the size that the send call answered, the message, and its payload or text, whatever stood in
  -- the buffer
  pub delivered : k.set.server ≡ not l.set.server → Fits w → hears k (message_buffer l w p b) m ≡ heard n (meaning_of w p) (carried w p)
  unfolding hears
  delivered other f =
      let known = accepted l w p (length b) n sent in
      let r = message-read l.set.server w p known.way known.some known.plain known.short f in
      ap (λ (x : Received). hear_by (side_of k.set.server) (message_buffer l w p b) x.answer) (message-received l k w p b n sent a over number g m)
      ∙ (ap (λ (x : List ℕ). read_at (side_of k.set.server) (kind_of w) n x) (body-handed l k w p b n sent)
      ∙ (ap (λ (x : Bool). read_at (side_of x) (kind_of w) n (body_of w p)) other
      ∙ (ap (λ (x : Result Message Refusal). heard n x (part_of (body_of w p) x)) r.0
      ∙ ap (heard n (meaning_of w p)) r.1)))

  -- and both go on: the peer waits for the next packet
  pub goes_on : 4 ≤ l.stage → Awaits (receive_of k (message_buffer l w p b) m).link (message_step l w p (length b)).link
  unfolding message_step
  goes_on over-l =
      rw (message-received l k w p b n sent a over number g m, sent)
      (awaits-again k l over over-l (kind_of w) 0 n (body_of w p) m (may-come l k w p b n sent over) a)

  -- and the other direction is as it was
  pub goes_back : 4 ≤ l.stage → Awaits l k → Awaits (message_step l w p (length b)).link (receive_of k (message_buffer l w p b) m).link
  unfolding message_step
  goes_back over-l back =
      rw (message-received l k w p b n sent a over number g m, sent)
      (awaits-still k l over over-l (kind_of w) 0 n (body_of w p) m (may-come l k w p b n sent over) back)
