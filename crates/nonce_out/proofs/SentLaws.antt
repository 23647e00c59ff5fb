-- What a send call that is not refused leaves of our Nonce. Assumes nothing.
use native.Mathlib.Omega.{arith}
use borrow.Author.Tests.{ltb-true}
use mathlib.Core.Path.{◌≡◌, refl, sym, ap, ◌∙◌}
use mathlib.Core.Bool.{Bool, true, false}
use mathlib.Core.List.{List, ◌++◌}
use Prim.Native.Nat.{ℕ, ◌<◌}
use lib.ListN.{length, drop}
use lib.Dec.{ltb}
use Rattle.wire.proofs.StoreLaws.{front-stored}
use Rattle.wire.specs.Choice.{pick}
use Rattle.link_state.specs.declared.Link.{Link}
use Rattle.link_state.specs.declared.Moment.{Moment}
use Rattle.packet_out.specs.Packet.{packet_of}
use Rattle.std.specs.Prelude.{Ok}
use Rattle.packet_out.proofs.PacketLaws.{length-packet}
use Rattle.send_rules.specs.Control.{control_answer, control_step, buffer_by, control_buffer}
use Rattle.send_rules.proofs.ControlLaws.{step-answer, fits}
use Rattle.nonce_out.specs.declared.Drawn.{Drawn}
use Rattle.nonce_out.specs.Nonce.{version_of, our_nonce, nonce_step, nonce_buffer}

-- the version that we write is a byte
pub small-version : (l : Link) → version_of l < 256
unfolding version_of
small-version l = go l.set.server (ltb l.version 2) refl
  where
    go : (v x : Bool) → ltb l.version 2 ≡ x → pick v (pick x l.version 2) 2 < 256
    go true true q = let small = ltb-true l.version 2 q in omega arith
    go true false q = omega arith
    go false x q = omega arith

module _ (l : Link) (drawn : Drawn) (b : List ℕ) (m : Moment) (n : ℕ) (e : (nonce_step l drawn m (length b)).answer
    ≡ Ok n) where
  abbrev ours : List ℕ
  ours = our_nonce l drawn m

  pub nonce-answered : control_answer l 0x7acb87aa false (length ours) (length b) ≡ Ok n
  unfolding nonce_step control_step
  nonce-answered = sym (step-answer l 0x7acb87aa 0 (control_answer l 0x7acb87aa false (length ours) (length b))) ∙ e

  -- the packet at the buffer's front, and what stood behind it
  pub nonce-left : nonce_buffer l drawn m b ≡ packet_of l 0x7acb87aa ours ++ drop (length (packet_of l 0x7acb87aa ours)) b
  unfolding nonce_buffer control_buffer
  nonce-left =
      let room = (fits l 0x7acb87aa false (length ours) ours 0 b refl n nonce-answered).1 in
      ap (buffer_by l 0x7acb87aa ours b) nonce-answered ∙ front-stored b (packet_of l 0x7acb87aa ours)
      (omega (arith, length-packet l 0x7acb87aa ours))
