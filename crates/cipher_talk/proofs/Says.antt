-- Messages that one end says, as the packets that the other takes. Assumes nothing.
use native.Mathlib.Omega.{arith}
use borrow.Author.Tests.{le-leb}
use mathlib.Core.Path.{◌≡◌, refl, ap, sym, ◌∙◌}
use mathlib.Core.Bool.{Bool, true, false, not, ◌||◌}
use mathlib.Core.List.{List, [], ◌∷◌, ◌++◌, append_assoc}
use Prim.Native.Nat.{ℕ, ◌+◌, ◌/◌, ◌%◌, ◌≤◌, ◌<◌, ◌^◌}
use lib.ListN.{length, take, drop, length-append}
use lib.Seq.{take_at}
use lib.Dec.{lit<}
use Rattle.wire.proofs.ByteLaws.{Small}
use Rattle.header.specs.declared.Side.{Side}
use Rattle.link_state.specs.declared.Link.{Link}
use Rattle.link_state.specs.declared.Moment.{Moment}
use Rattle.packet_padding.specs.Padding.{padded_of, pads_of, words_allowed, fours_of, phase_after}
use Rattle.packet_padding.proofs.PaddingLaws.{tail-whole}
use Rattle.packet_out.specs.Size.{size_of}
use Rattle.packet_out.specs.Packet.{packet_of}
use Rattle.packet_out.proofs.PacketLaws.{length-packet}
use Rattle.link_next.specs.Next.{ciphered_after, after_of}
use Rattle.send_rules.specs.Sent.{sent_of}
use Rattle.send_rules.specs.Control.{step_by}
use Rattle.message.specs.PartOf.{part_of}
use Rattle.message.specs.ReadMessage.{read_message}
use Rattle.message.specs.declared.Message.{Message}
use Rattle.message_out.specs.Outgoing.{kind_of, body_of}
use Rattle.message_out.specs.MessageStep.{message_step, message_buffer}
use Rattle.pair.specs.Awaits.{Awaits}
use Rattle.pair.proofs.SumLaws.{small-append}
use Rattle.pair.proofs.StepAlike.{stays, awaits-again, awaits-still}
use Rattle.pair_messages.specs.Meaning.{meaning_of}
use Rattle.pair_messages.specs.Hear.{side_of}
use Rattle.pair_messages.proofs.Accepted.{Accepted, accepted}
use Rattle.pair_messages.proofs.SmallBodies.{small-body}
use Rattle.pair_messages.proofs.Received.{Plain, length-passes, no-refusal, sent-plain, may-come, whole}
use Rattle.pair_messages.proofs.Read.{message-read}
use Rattle.cipher_talk.specs.Drain.{Got, message, got_of}
use Rattle.cipher_talk.specs.Comes.{Fine, Comes, words, takes}
use Rattle.cipher_talk.specs.Ends.{Said, front, answer_to, sender, says, meant_by, meant, Fit, AllFit}
use Rattle.cipher_talk.proofs.Low.{small-packet, fours-add}
use Rattle.std.specs.Prelude.{Err, Result, Ok}
use Rattle.refusal.specs.declared.Refusal.{Refusal}

-- two open, ciphered links, of which k waits for l's next packet
pub record Speaks (l k : Link) : Type 0 where
  pub waits : Awaits k l
  pub open_l : 4 ≤ l.stage
  pub open_k : 4 ≤ k.stage
  pub ciphered-l : l.ciphered ≡ true
  pub ciphered-k : k.ciphered ≡ true
  pub not_closed : l.closed ≡ false
  pub number : l.sends < 2 ^ 32
  pub sides : k.set.server ≡ not l.set.server

-- what l and k have become, by packets from l to k
pub record Along (l k l2 k2 : Link) : Type 0 where
  pub speaks : Speaks l2 k2
  pub back : Awaits l k → Awaits l2 k2
  pub phase : k2.phase ≡ k.phase
  pub sends : k2.sends ≡ k.sends
  pub closed : k2.closed ≡ k.closed

along-none : {l k : Link} → Speaks l k → Along l k l k
along-none s = record { speaks = s; back = λ a. a; phase = refl; sends = refl; closed = refl }

along-more : {l k l2 k2 l3 k3 : Link} → Along l k l2 k2 → Along l2 k2 l3 k3 → Along l k l3 k3
along-more a b =
    record {
      speaks = b.speaks;
      back = λ x. b.back (a.back x);
      phase = b.phase ∙ a.phase;
      sends = b.sends ∙ a.sends;
      closed = b.closed ∙ a.closed;
    }

-- ---- an open, ciphered link is padded

either : (b : Bool) → (b || true) ≡ true
either true = refl
either false = refl

module _ (l : Link) (over : 4 ≤ l.stage) (ciphered : l.ciphered ≡ true) where
  pub padded : padded_of l ≡ true
  unfolding padded_of
  padded = rw ciphered (either l.set.padded)

  pub pads : pads_of l ≡ true
  unfolding pads_of
  pads = rw (le-leb 2 l.stage (omega arith), padded)

  pub three-words : words_allowed l ≡ 3
  unfolding words_allowed
  three-words = rw (le-leb 4 l.stage over, padded)

  -- a packet is whole words
  whole-size : (len : ℕ) → size_of l len % 4 ≡ 0
  unfolding size_of
  whole-size len = tail-whole l (len + 16) pads

  -- and is counted
  counted : (n : ℕ) → phase_after l n ≡ (l.phase + n / 4) % 4
  unfolding phase_after
  counted n = rw pads

-- ---- one message

module _ (l k : Link) (s : Said) (n : ℕ) (e : answer_to l s ≡ Ok n) where
  abbrev kind : ℕ
  kind = kind_of s.message

  abbrev body : List ℕ
  body = body_of s.message s.payload

  abbrev known : Accepted l s.message s.payload (length s.buffer) n
  known = accepted l s.message s.payload (length s.buffer) n e

  abbrev plain : Plain kind
  plain = sent-plain l k s.message s.payload s.buffer n e

  sender-is : sender l s ≡ sent_of l kind 0 n
  unfolding message_step
  sender-is = ap (λ (x : Result ℕ Refusal). (step_by l kind 0 x).link) e

  front-is : front (answer_to l s) (message_buffer l s.message s.payload s.buffer) ≡ packet_of l kind body
  front-is =
      let p = packet_of l kind body in
      let b = message_buffer l s.message s.payload s.buffer in
      ap (λ (x : Result ℕ Refusal). front x b) e
      ∙ (ap (take n) (whole l k s.message s.payload s.buffer n e)
      ∙ take_at p (drop (length p) s.buffer) n (omega (arith, length-packet l kind body, known.size)))

  -- the other side reads it as it was meant
  meant_is : k.set.server ≡ not l.set.server → Fit s
      → meant_by s (answer_to l s) ≡ got_of (side_of k.set.server) kind body ∷ []
  unfolding got_of
  meant_is other f =
      let r = message-read l.set.server s.message s.payload known.way known.some known.plain
      known.short f.fields in
      let side : Side = side_of k.set.server in
      let m : Result Message Refusal = meaning_of s.message s.payload in
      let a : read_message side kind body ≡ m = ap (λ (x : Bool). read_message (side_of x) kind body) other ∙ r.0 in
      ap (meant_by s) e
      ∙ (ap (λ (t : List ℕ). message m t ∷ []) (sym r.1)
      ∙ (ap (λ (x : Result Message Refusal). message x (part_of body x) ∷ []) (sym a)
      ∙ sym (simp (plain.nonce, plain.handshake, plain.ping, plain.pong))))

  fine : Speaks l k → Fit s → Fine k l kind body
  fine j f =
      record {
        awaited = j.waits;
        long = length-passes k j.open_k (length body) known.short;
        allowed = may-come l k s.message s.payload s.buffer n e j.open_k;
        number = j.number;
        short = omega (arith, known.short);
        kind_fits = plain.fits;
        bytes = small-body s.message s.payload f.bytes;
        taken = λ m. no-refusal k kind body m plain;
      }

  steps : Speaks l k → (m : Moment) → Along l k (sent_of l kind 0 n) (after_of k kind body m)
  unfolding sent_of after_of ciphered_after
  steps j m =
      let may = may-come l k s.message s.payload s.buffer n e j.open_k in
      record {
        speaks = record {
          waits = awaits-again k l j.open_k j.open_l kind 0 n body m may j.waits;
          open_l = rw (stays l.stage j.open_l) j.open_l;
          open_k = rw (stays k.stage j.open_k) j.open_k;
          ciphered-l = j.ciphered-l;
          ciphered-k = rw plain.nonce j.ciphered-k;
          not_closed = j.not_closed;
          number = omega arith;
          sides = j.sides;
        };
        back = λ a. awaits-still k l j.open_k j.open_l kind 0 n body m may a;
        phase = refl;
        sends = refl;
        closed = refl;
      }

-- ---- one message and the others

-- what says and means the first comes to, by the answer
module _ (l k : Link) (s : Said) (ss : List Said) where
  module _ (n : ℕ) (e : answer_to l s ≡ Ok n) where
    abbrev next : Link
    next = sent_of l (kind_of s.message) 0 n

    abbrev packet : List ℕ
    packet = packet_of l (kind_of s.message) (body_of s.message s.payload)

    bytes_on : (says l (s ∷ ss)).bytes ≡ packet ++ (says next ss).bytes
    unfolding says
    bytes_on =
        ap (λ (x : List ℕ). x ++ (says (sender l s) ss).bytes) (front-is l k s n e)
        ∙ ap (λ (x : Link). packet ++ (says x ss).bytes) (sender-is l k s n e)

    link_on : (says l (s ∷ ss)).link ≡ (says next ss).link
    unfolding says
    link_on = ap (λ (x : Link). (says x ss).link) (sender-is l k s n e)

    meant-on : k.set.server ≡ not l.set.server → Fit s
        → meant l (s ∷ ss)
        ≡ got_of (side_of k.set.server) (kind_of s.message) (body_of s.message s.payload) ∷ meant next ss
    unfolding meant
    meant-on other f =
        let g = got_of (side_of k.set.server) (kind_of s.message) (body_of s.message s.payload) in
        ap (λ (x : List Got). x ++ meant (sender l s) ss) (meant_is l k s n e other f)
        ∙ ap (λ (x : Link). g ∷ meant x ss) (sender-is l k s n e)

  -- refused: as if it had not been said
  module _ (r : Refusal) (e : answer_to l s ≡ Err r) where
    sender-same : sender l s ≡ l
    unfolding message_step
    sender-same = ap (λ (x : Result ℕ Refusal). (step_by l (kind_of s.message) 0 x).link) e

    bytes_same : (says l (s ∷ ss)).bytes ≡ (says l ss).bytes
    unfolding says
    bytes_same =
        let b = message_buffer l s.message s.payload s.buffer in
        ap (λ (x : Result ℕ Refusal). front x b ++ (says (sender l s) ss).bytes) e
        ∙ ap (λ (x : Link). (says x ss).bytes) sender-same

    link-same : (says l (s ∷ ss)).link ≡ (says l ss).link
    unfolding says
    link-same = ap (λ (x : Link). (says x ss).link) sender-same

    meant-same : meant l (s ∷ ss) ≡ meant l ss
    unfolding meant
    meant-same = ap (λ (x : Result ℕ Refusal). meant_by s x ++ meant (sender l s) ss) e ∙ ap (λ (x : Link). meant x ss) sender-same

-- ---- all of them: their sizes

pub record Size (l : Link) (ss : List Said) : Type 0 where
  pub words : length (says l ss).bytes % 4 ≡ 0
  pub phase : (says l ss).link.phase ≡ (l.phase + length (says l ss).bytes / 4) % 4
  pub small : Small (says l ss).bytes

sent-open : (l : Link) (kind n : ℕ) → 4 ≤ l.stage → 4 ≤ (sent_of l kind 0 n).stage
unfolding sent_of
sent-open l kind n h = rw (stays l.stage h) h

sent-ciphered : (l : Link) (kind n : ℕ) → (sent_of l kind 0 n).ciphered ≡ l.ciphered
unfolding sent_of
sent-ciphered l _ n = refl

sent-phase : (l : Link) (kind n : ℕ) → (sent_of l kind 0 n).phase ≡ phase_after l n
unfolding sent_of
sent-phase l _ n = refl

none : (l : Link) → l.phase < 4 → Size l []
unfolding says
none l h = record { words = refl; phase = omega arith; small = λ i. lit< tt }

pub sizes : (ss : List Said) (l : Link) → 4 ≤ l.stage → l.ciphered ≡ true → l.phase < 4 → AllFit ss → Size l ss
sizes [] l o c h f = none l h
sizes (s ∷ ss) l o c h f =
    go (answer_to l s) refl (λ (l2 : Link). λ o2 c2 h2. sizes ss l2 o2 c2 h2 f.1)
  where
    go : (x : Result ℕ Refusal) → answer_to l s ≡ x
        → ((l2 : Link) → 4 ≤ l2.stage → l2.ciphered ≡ true → l2.phase < 4 → Size l2 ss) → Size l (s ∷ ss)
    go (Ok n) e ih =
        let kind = kind_of s.message in
        let body = body_of s.message s.payload in
        let l2 = sent_of l kind 0 n in
        let p : l2.phase ≡ (l.phase + n / 4) % 4 = sent-phase l kind n ∙ counted l o c n in
        let i = ih l2 (sent-open l kind n o) (sent-ciphered l kind n ∙ c) (omega arith) in
        let b = bytes_on l l s ss n e in
        let z : length (says l (s ∷ ss)).bytes ≡ n + length (says l2 ss).bytes =
        ap length b ∙ (length-append (packet_of l kind body) (says l2 ss).bytes
        ∙ omega (arith, length-packet l kind body, (known l l s n e).size)) in
        let q : n % 4 ≡ 0 = omega (arith, (known l l s n e).size, whole-size l o c (length body)) in
        record {
          words = omega (arith, i.words);
          phase = ap (λ (x : Link). x.phase) (link_on l l s ss n e) ∙ (i.phase ∙ omega (arith, i.words));
          small = rw b (small-append (packet_of l kind body) (says l2 ss).bytes
              (small-packet l kind body (small-body s.message s.payload f.0.bytes)) i.small);
        }
    go (Err r) e ih =
        let i = ih l o c h in
        let b = bytes_same l l s ss r e in
        record {
          words = rw b i.words;
          phase = rw (b, link-same l l s ss r e) i.phase;
          small = rw b i.small;
        }

-- ---- all of them, with w words before them, and e words behind

pub record Run (l k : Link) (ss : List Said) (w e : ℕ) : Type 0 where
  pub link : Link
  pub left : ℕ
  pub few : left ≤ 3
  pub comes : Comes k (fours_of w ++ ((says l ss).bytes ++ fours_of e)) (meant l ss) link (fours_of left)
  pub along : Along l k (says l ss).link link

run_none : (l k : Link) → Speaks l k → (w e : ℕ) → w + e ≤ 3 → Run l k [] w e
unfolding says meant
run_none l k j w e few =
    let three = three-words k j.open_k j.ciphered-k in
    record {
      link = k;
      left = w + e;
      few = few;
      comes = rw (fours-add w e) (words {k = k} (w + e) (omega (arith, three)) j.waits.turn);
      along = along-none j;
    }

nothing_said : (l : Link) → (says l []).bytes ≡ []
unfolding says
nothing_said l = refl

run-takes : (l k : Link) (s : Said) (ss : List Said) (n : ℕ) → answer_to l s ≡ Ok n → Speaks l k → Fit s
    → (m : Moment) (w e : ℕ) → w ≤ 3
    → Run (sent_of l (kind_of s.message) 0 n)
    (after_of k (kind_of s.message) (body_of s.message s.payload) m) ss 0 e
    → Run l k (s ∷ ss) w e
unfolding fours_of
run-takes l k s ss n q j f m w e hw r =
    let kind = kind_of s.message in
    let body = body_of s.message s.payload in
    let l2 = sent_of l kind 0 n in
    let p = packet_of l kind body in
    let bs = (says l2 ss).bytes in
    let h : w ≤ words_allowed k = omega (arith, three-words k j.open_k j.ciphered-k) in
    let b : (says l (s ∷ ss)).bytes ++ fours_of e ≡ p ++ (bs ++ fours_of e) =
    ap (λ (x : List ℕ). x ++ fours_of e) (bytes_on l k s ss n q) ∙ append_assoc p bs (fours_of e) in
    record {
      link = r.link;
      left = r.left;
      few = r.few;
      comes = rw (b, meant-on l k s ss n q j.sides f) (takes {l = l} w m h (fine l k s n q j f) r.comes);
      along = rw (link_on l k s ss n q) (along-more (steps l k s n q j m) r.along);
    }

run-skips : (l k : Link) (s : Said) (ss : List Said) (r : Refusal) → answer_to l s ≡ Err r → (w e : ℕ) → Run l k ss w e
    → Run l k (s ∷ ss) w e
run-skips l k s ss r q w e i =
    record {
      link = i.link;
      left = i.left;
      few = i.few;
      comes = rw (bytes_same l k s ss r q, meant-same l k s ss r q) i.comes;
      along = rw (link-same l k s ss r q) i.along;
    }

pub run : (ss : List Said) (l k : Link) → Speaks l k → AllFit ss → (m : Moment) (w e : ℕ) → w ≤ 3 → e ≤ 3
    → ((says l ss).bytes ≡ [] → w + e ≤ 3) → Run l k ss w e
run [] l k j f m w e hw he few = run_none l k j w e (few (nothing_said l))
run (s ∷ ss) l k j f m w e hw he few =
    go (answer_to l s) refl (λ l2 k2 j2 w2 h2 few2. run ss l2 k2 j2 f.1 m w2 e h2 he few2)
  where
    go : (x : Result ℕ Refusal) → answer_to l s ≡ x
        → ((l2 k2 : Link) → Speaks l2 k2 → (w2 : ℕ) → w2 ≤ 3 → ((says l2 ss).bytes ≡ [] → w2 + e ≤ 3)
        → Run l2 k2 ss w2 e)
        → Run l k (s ∷ ss) w e
    go (Ok n) q ih =
        let kind = kind_of s.message in
        let body = body_of s.message s.payload in
        let l2 = sent_of l kind 0 n in
        let k2 = after_of k kind body m in
        let a = steps l k s n q j m in
        run-takes l k s ss n q j f.0 m w e hw (ih l2 k2 a.speaks 0 (omega arith) (λ z. omega arith))
    go (Err r) q ih =
        run-skips l k s ss r q w e (ih l k j w hw (λ z. few (bytes_same l k s ss r q ∙ z)))
