-- Two links of ours never give each other 21: whatever Pings and Pongs they send, each that a send call accepts is
-- received. Assumes nothing.
use mathlib.Core.Path.{◌≡◌, refl, ap, sym, ◌∙◌}
use mathlib.Core.Bool.{Bool, true, false, not}
use mathlib.Core.List.{List, [], ◌∷◌, ◌++◌}
use Prim.Native.Nat.{ℕ, ◌<◌, ◌^◌}
use lib.ListN.{length}
use lib.Dec.{ltb}
use Rattle.wire.specs.Bytes.{bytes}
use Rattle.wire.specs.Choice.{pick}
use Rattle.wire.proofs.ByteLaws.{length-bytes}
use Rattle.link_state.specs.declared.Link.{Link}
use Rattle.link_state.specs.declared.Moment.{Moment}
use Rattle.packet.specs.declared.Arrival.{Arrival}
use Rattle.packet_out.specs.Size.{fits_of}
use Rattle.link.specs.declared.Received.{Received}
use Rattle.send_rules.specs.Control.{check_send, control_answer, step_by, control_step}
use Rattle.send_rules.proofs.ControlLaws.{step-answer}
use Rattle.keep_alive_out.specs.KeepAlive.{ping_step, pong_step}
use Rattle.pair.specs.KeepAlive.{Alive, Call, AllFit, step_of, peer_by, heard_by, meant_by, along}
use Rattle.pair.proofs.KeptAlive.{size-24}
use Rattle.pair.proofs.InTurn.{ping-arrives, alive-after-ping, pong-arrives, alive-after-pong, flipped}
use Rattle.refusal.specs.declared.Refusal.TheVariants.{BufferTooSmall}
use Rattle.std.specs.Prelude.{Err, Result, Ok, ⊤}
use Rattle.refusal.specs.declared.Refusal.{Refusal}
use Rattle.std.specs.Result.{result_and}

-- ---- one call of l

-- the size that is answered
size_is : (l : Link) (kind : ℕ) (busy : Bool) (room n : ℕ) → control_answer l kind busy 8 room ≡ Ok n → n ≡ 24
unfolding control_answer fits_of
size_is l kind busy room n e = go (check_send l kind busy) (ltb room 24) (rw (size-24 l) at e)
  where
    go : (r : Result ⊤ Refusal) (u : Bool) → result_and r (pick u (Err BufferTooSmall) (Ok 24)) ≡ Ok n → n ≡ 24
    go (Err k) u h = cc
    go (Ok x) true h = cc
    go (Ok x) false h = cc

alive-at : {l l2 k k2 : Link} → l2 ≡ l → k2 ≡ k → Alive l k → Alive l2 k2
alive-at e f a = rw (e, f) a

module _ (l k : Link) (a : Alive l k) (o : Bool) (id : ℕ) (fits : id < 2 ^ 64) (b : List ℕ) (m : Moment) where
  abbrev call : Bool → Call
  call p = record { ours = o; ping = p; id = id; buffer = b; moment = m }

  -- it is heard as it was meant, and the two are alive after it
  abbrev InTurn : Bool → Result ℕ Refusal → Type 0
  InTurn p x = (heard_by l (call p) k x ≡ meant_by l (call p) k x) × Alive (step_of l (call p)).link (peer_by l (call p) k x)

  abbrev ping : Result ℕ Refusal
  ping = control_answer l 0x5730a2df l.awaits (length (bytes 8 id)) (length b)

  abbrev pong : Result ℕ Refusal
  pong = control_answer l 0x8430eaa7 (not l.owes) (length (bytes 8 l.owed)) (length b)

  ping-in-turn : (x : Result ℕ Refusal) → ping ≡ x → InTurn true x
  unfolding heard_by meant_by ping_step control_step
  ping-in-turn (Ok n) e =
      let eight : length (bytes 8 id) ≡ 8 = length-bytes 8 id in
      let z : n ≡ 24 =
      size_is l 0x5730a2df l.awaits (length b) n
      (ap (λ (i : ℕ). control_answer l 0x5730a2df l.awaits i (length b)) (sym eight) ∙ e) in
      let got = ping-arrives l k a m id fits b n e in (
        ap (λ (r : Received). r.answer ∷ []) got ∙ rw (eight, size-24 l, z),
        alive-at (ap (λ (x : Result ℕ Refusal). (step_by l 0x5730a2df id x).link) e) (ap (λ (r : Received). r.link) got) (alive-after-ping l k a m id fits b n e),
      )
  ping-in-turn (Err r) e = (refl, alive-at (ap (λ (x : Result ℕ Refusal). (step_by l 0x5730a2df id x).link) e) refl a)

  pong-in-turn : (x : Result ℕ Refusal) → pong ≡ x → InTurn false x
  unfolding heard_by meant_by pong_step control_step
  pong-in-turn (Ok n) e =
      let eight : length (bytes 8 l.owed) ≡ 8 = length-bytes 8 l.owed in
      let z : n ≡ 24 =
      size_is l 0x8430eaa7 (not l.owes) (length b) n
      (ap (λ (i : ℕ). control_answer l 0x8430eaa7 (not l.owes) i (length b)) (sym eight) ∙ e) in
      let got = pong-arrives l k a m b n e in (
        ap (λ (r : Received). r.answer ∷ []) got ∙ rw (eight, size-24 l, z),
        alive-at (ap (λ (x : Result ℕ Refusal). (step_by l 0x8430eaa7 0 x).link) e) (ap (λ (r : Received). r.link) got) (alive-after-pong l k a m b n e),
      )
  pong-in-turn (Err r) e = (refl, alive-at (ap (λ (x : Result ℕ Refusal). (step_by l 0x8430eaa7 0 x).link) e) refl a)

  pub call-in-turn : (p : Bool) (x : Result ℕ Refusal) → (step_of l (call p)).answer ≡ x → InTurn p x
  unfolding ping_step pong_step control_step
  call-in-turn true x e = ping-in-turn x (sym (step-answer l 0x5730a2df id ping) ∙ e)
  call-in-turn false x e = pong-in-turn x (sym (step-answer l 0x8430eaa7 0 pong) ∙ e)

-- ---- all of them

-- IN TURN: what each link hears is the Ping or Pong that the other sent, for every list of calls
pub in-turn : (l k : Link) (cs : List Call) → Alive l k → AllFit cs → along heard_by l k cs ≡ along meant_by l k cs
unfolding along
in-turn l k [] a ok = refl
in-turn l k (c ∷ cs) a ok = go c.ours (λ l2 k2 a2. in-turn l2 k2 cs a2 ok.1)
  where
    ours : (heard_by l c k (step_of l c).answer ≡ meant_by l c k (step_of l c).answer) × Alive (step_of l c).link (peer_by l c k (step_of l c).answer)
    ours = call-in-turn l k a c.ours c.id ok.0 c.buffer c.moment c.ping (step_of l c).answer refl

    theirs : (heard_by k c l (step_of k c).answer ≡ meant_by k c l (step_of k c).answer) × Alive (step_of k c).link (peer_by k c l (step_of k c).answer)
    theirs = call-in-turn k l (flipped l k a) c.ours c.id ok.0 c.buffer c.moment c.ping (step_of k c).answer refl

    go : (b : Bool) → ((l2 k2 : Link) → Alive l2 k2 → along heard_by l2 k2 cs ≡ along meant_by l2 k2 cs)
        → pick b
        (heard_by l c k (step_of l c).answer ++ along heard_by (step_of l c).link (peer_by l c k (step_of l c).answer) cs)
        (heard_by k c l (step_of k c).answer ++ along heard_by (peer_by k c l (step_of k c).answer) (step_of k c).link cs)
        ≡ pick b
        (meant_by l c k (step_of l c).answer ++ along meant_by (step_of l c).link (peer_by l c k (step_of l c).answer) cs)
        (meant_by k c l (step_of k c).answer ++ along meant_by (peer_by k c l (step_of k c).answer) (step_of k c).link cs)
    go true rest =
        ap (λ (x : List (Result Arrival Refusal)). x ++ along heard_by (step_of l c).link (peer_by l c k (step_of l c).answer) cs) ours.0
        ∙ ap (λ (x : List (Result Arrival Refusal)). meant_by l c k (step_of l c).answer ++ x) (rest (step_of l c).link (peer_by l c k (step_of l c).answer) ours.1)
    go false rest =
        ap (λ (x : List (Result Arrival Refusal)). x ++ along heard_by (peer_by k c l (step_of k c).answer) (step_of k c).link cs) theirs.0
        ∙ ap (λ (x : List (Result Arrival Refusal)). meant_by k c l (step_of k c).answer ++ x)
        (rest (peer_by k c l (step_of k c).answer) (step_of k c).link (flipped (step_of k c).link (peer_by k c l (step_of k c).answer) theirs.1))
