-- The peer reads in a Handshake that it received the NetPIDs that were sent. Assumes nothing.
use native.Mathlib.Omega.{arith}
use mathlib.Core.Path.{◌≡◌, refl, sym, ap, ◌∙◌}
use mathlib.Core.Bool.{Bool, true, false, ◌&&◌}
use mathlib.Core.List.{List, ◌++◌}
use Prim.Native.Nat.{ℕ, ◌+◌, ◌<◌, ◌^◌}
use lib.ListN.{length, drop}
use lib.Dec.{ltb, lit<}
use Rattle.wire.proofs.StoreLaws.{front-stored}
use Rattle.wire.specs.Bytes.{bytes}
use Rattle.wire.specs.Choice.{pick}
use Rattle.wire.proofs.ByteLaws.{Small}
use Rattle.link_state.specs.declared.Link.{Link}
use Rattle.link_state.specs.declared.Moment.{Moment}
use Rattle.packet.specs.Allowed.{allowed_of}
use Rattle.packet.specs.Body.{body_of}
use Rattle.packet_head.specs.Head.{check_length}
use Rattle.packet_out.specs.Size.{size_of}
use Rattle.packet_out.specs.Packet.{packet_of}
use Rattle.packet_out.proofs.PacketLaws.{length-packet}
use Rattle.handshake_in.specs.declared.NetPid.{NetPid}
use Rattle.handshake_in.specs.declared.NetPids.{NetPids}
use Rattle.handshake_in.specs.Pids.{PidFits, pids_of}
use Rattle.link.specs.Receive.{check_body, receive_of}
use Rattle.link.specs.declared.Received.{Received}
use Rattle.send_rules.specs.Control.{control_answer, control_step, buffer_by, control_buffer}
use Rattle.send_rules.proofs.ControlLaws.{step-answer, fits}
use Rattle.handshake_out.specs.Handshake.{flags_of, pid_bytes, handshake_body, handshake_step, handshake_buffer}
use Rattle.handshake_out.proofs.BodyLaws.{length-handshake}
use Rattle.handshake_out.proofs.PidsAlone.{pids-back}
use Rattle.pair.specs.Awaits.{Awaits}
use Rattle.pair.proofs.SumLaws.{small-append, small_bytes}
use Rattle.pair.proofs.RoundTrip.{reads-body, received}
use Rattle.std.specs.Prelude.{Ok, Err, ⊤, Result}
use Rattle.refusal.specs.declared.Refusal.TheVariants.{LengthInOpening}
use Rattle.refusal.specs.declared.Refusal.{Refusal}

small-pid : (p : NetPid) → Small (pid_bytes p)
unfolding pid_bytes
small-pid p =
    small-append (bytes 4 p.ip) _ (small_bytes 4 p.ip)
    (small-append (bytes 2 p.port) _ (small_bytes 2 p.port)
    (small-append (bytes 2 p.pid) _ (small_bytes 2 p.pid) (small_bytes 4 p.start)))

pub small-handshake : (flags : ℕ) (s p : NetPid) → Small (handshake_body flags s p)
unfolding handshake_body
small-handshake flags s p =
    small-append (bytes 4 flags) _ (small_bytes 4 flags) (small-append (pid_bytes s) _ (small-pid s) (small-pid p))

-- a Handshake of 28 bytes passes every rule of length
length-44 : (k : Link) (n : ℕ) → n ≡ 28 → check_length k (n + 16) ≡ Ok tt
unfolding check_length
length-44 k n e = rw e (go (ltb k.stage 4))
  where
    go : (b : Bool) → ◌≡◌ {A = Result ⊤ Refusal} (pick (b && false) (Err LengthInOpening) (Ok tt)) (Ok tt)
    go true = refl
    go false = refl

-- what k reads in the body that a receive call on s answers
abbrev pub pids_heard : Link → List ℕ → Moment → NetPids
pids_heard k s m = pids_of (body_of s (receive_of k s m).answer)

module _ (l k : Link) (a : Awaits k l) (may : allowed_of k 0x7682eef5 ≡ true) (number : l.sends < 2 ^ 32)
    (sender peer : NetPid) (fs : PidFits sender) (fp : PidFits peer) (m : Moment) where
  -- of a Handshake that l wrote and k does not refuse, whatever bytes follow
  pub pids-received : (flags : ℕ) (rest : List ℕ) → check_body k 0x7682eef5 (handshake_body flags sender peer) m ≡ Ok tt
      → pids_heard k (packet_of l 0x7682eef5 (handshake_body flags sender peer) ++ rest) m
      ≡ record { sender = sender; peer = peer }
  unfolding body_of
  pids-received flags rest ok =
      let body : List ℕ = handshake_body flags sender peer in
      let s : List ℕ = packet_of l 0x7682eef5 body ++ rest in
      let n : length body ≡ 28 = length-handshake flags sender peer in
      let heard =
      received l 0x7682eef5 body rest k a (length-44 k (length body) n) may number (omega arith) (lit< tt)
      (small-handshake flags sender peer) m ok in
      ap (λ (r : Received). pids_of (body_of s r.answer)) heard
      ∙ (ap pids_of (reads-body l 0x7682eef5 body rest) ∙ pids-back flags sender peer fs fp)

  -- the same of the whole buffer after the send call, whatever it held
  pub pids-sent-received : (b : List ℕ) (n : ℕ) → (handshake_step l sender peer (length b)).answer ≡ Ok n
      → check_body k 0x7682eef5 (handshake_body (flags_of l) sender peer) m ≡ Ok tt
      → pids_heard k (handshake_buffer l sender peer b) m ≡ record { sender = sender; peer = peer }
  unfolding handshake_step handshake_buffer control_step control_buffer
  pids-sent-received b n e ok =
      let body : List ℕ = handshake_body (flags_of l) sender peer in
      let P : List ℕ = packet_of l 0x7682eef5 body in
      let w = sym (step-answer l 0x7682eef5 0 (control_answer l 0x7682eef5 false (length body) (length b))) ∙ e in
      let room = (fits l 0x7682eef5 false (length body) body 0 b refl n w).1 in
      let p : length P ≡ size_of l (length body) = length-packet l 0x7682eef5 body in
      ap (λ (s : List ℕ). pids_heard k s m) (ap (buffer_by l 0x7682eef5 body b) w ∙ front-stored b P (omega arith))
      ∙ pids-received (flags_of l) (drop (length P) b) ok
