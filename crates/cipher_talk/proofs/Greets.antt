-- A Handshake with a flush behind it, enciphered: the other end takes it. Assumes nothing.
use native.Mathlib.Omega.{arith}
use borrow.Author.Tests.{le-ltb, lt-ltb}
use mathlib.Core.Path.{◌≡◌, refl, ap, sym, ◌∙◌}
use mathlib.Core.Bool.{Bool, true, false, not, ◌&&◌}
use mathlib.Core.List.{List, [], ◌∷◌, ◌++◌}
use Prim.Native.Nat.{ℕ, ◌+◌, ◌*◌, ◌≤◌, ◌<◌, ◌^◌}
use lib.ListN.{length, length-append}
use lib.Dec.{ltb, lit<}
use Rattle.std.specs.Result.{IsOk}
use Rattle.wire.specs.Choice.{pick}
use Rattle.aes.specs.Aes.{keys}
use Rattle.aes.specs.Back.{back_keys}
use Rattle.aes.specs.Cbc.{encipher_answer, encipher_vector, encipher_buffer}
use Rattle.cipher_laws.specs.Sizes.{Bytes, Sized, Whole}
use Rattle.cipher_laws.proofs.Schedule.{keys_of}
use Rattle.cipher_laws.proofs.Calls.{done-forth, bytes-forth}
use Rattle.link_state.specs.declared.Link.{Link}
use Rattle.link_state.specs.declared.Moment.{Moment}
use Rattle.packet.specs.Allowed.{allowed_of}
use Rattle.packet_padding.specs.Padding.{fours_of}
use Rattle.packet_head.specs.Head.{check_length}
use Rattle.packet_out.specs.Size.{size_of}
use Rattle.packet_out.specs.Packet.{packet_of}
use Rattle.packet_out.proofs.PacketLaws.{length-packet, take-front}
use Rattle.link_next.specs.Next.{after_of}
use Rattle.link.specs.Receive.{check_body}
use Rattle.handshake_in.specs.declared.NetPid.{NetPid}
use Rattle.send_rules.specs.declared.Step.{Step}
use Rattle.send_rules.specs.Control.{control_answer, step_by, buffer_by, control_step, control_buffer}
use Rattle.handshake_out.specs.Handshake.{flags_of, handshake_body, handshake_step, handshake_buffer}
use Rattle.handshake_out.proofs.BodyLaws.{length-handshake}
use Rattle.flush.specs.Flush.{words_due, flushed_of, flush_step}
use Rattle.pair.specs.Awaits.{Awaits}
use Rattle.pair.proofs.Pids.{small-handshake}
use Rattle.pair.proofs.SumLaws.{small-append}
use Rattle.pair.proofs.Opening.{hand-passes}
use Rattle.pair.proofs.Words.{length-fours}
use Rattle.cipher_talk.specs.Drain.{control, got_of}
use Rattle.cipher_talk.specs.Comes.{Fine, Comes, takes}
use Rattle.cipher_talk.specs.Ends.{End, front, Wrote, flushed, cut_by, all_in, AllDone}
use Rattle.cipher_talk.specs.Exchange.{Way, greets, greet_out, greet_in}
use Rattle.cipher_talk.proofs.Low.{low-bytes, small-packet, small-fours}
use Rattle.cipher_talk.proofs.Flushes.{step, flushed-is}
use Rattle.cipher_talk.proofs.Carried.{arrived, none-refused, carries}
use Rattle.cipher_talk.proofs.Turns.{same_bytes}
use Rattle.std.specs.Prelude.{Err, Result, Ok, ⊤}
use Rattle.refusal.specs.declared.Refusal.{Refusal}
use Rattle.refusal.specs.declared.Refusal.TheVariants.{LengthInOpening}

-- ---- a Handshake is one that the other side takes

module _ (k l : Link) (p q : NetPid) where
  abbrev hand : List ℕ
  hand = handshake_body (flags_of l) p q

  long-hand : check_length k (length hand + 16) ≡ Ok tt
  unfolding check_length
  long-hand = rw (length-handshake (flags_of l) p q) (go (ltb k.stage 4))
    where
      go : (b : Bool) → ◌≡◌ {A = Result ⊤ Refusal} (pick (b && false) (Err LengthInOpening) (Ok tt)) (Ok tt)
      go true = refl
      go false = refl

  hand-allowed : 2 ≤ k.stage → k.stage < 4 → allowed_of k 0x7682eef5 ≡ true
  unfolding allowed_of
  hand-allowed g h = rw (le-ltb k.stage 2 g, lt-ltb k.stage 4 h)

  -- a client that did not offer CRC-32C gets no flag
  pub hand-fine : Awaits k l → 2 ≤ k.stage → k.stage < 4 → l.sends < 2 ^ 32
      → (not k.set.server && (not k.set.allows && pick l.set.server l.crc32c l.set.allows)) ≡ false
      → Fine k l 0x7682eef5 hand
  unfolding check_body flags_of
  hand-fine a g h n e =
      record {
        awaited = a;
        long = long-hand;
        allowed = hand-allowed g h;
        number = n;
        short = omega (arith, length-handshake (flags_of l) p q);
        kind_fits = lit< tt;
        bytes = small-handshake (flags_of l) p q;
        taken = λ m. hand-passes (pick l.set.server l.crc32c l.set.allows) p q k.set e;
      }

-- l sends its Handshake, l2, and a word behind it, l3; k takes it and is k2, with the word left
pub record Greeting (l k : Link) (p q : NetPid) (b : List ℕ) (l2 l3 k2 : Link) : Type 0 where
  pub sent : handshake_step l p q (length b) ≡ record { link = l2; answer = Ok 44 }
  pub space : 44 ≤ length b
  pub size : size_of l 28 ≡ 44
  pub due : words_due l2 ≡ 1
  pub not_closed : l2.closed ≡ false
  pub word : flushed_of l2 4 ≡ l3
  pub fine : Fine k l 0x7682eef5 (handshake_body (flags_of l) p q)
  pub rest : (m : Moment)
      → Comes (after_of k 0x7682eef5 (handshake_body (flags_of l) p q) m) (fours_of 1) [] k2 (fours_of 1)

module _ (a b : End) (p q : NetPid) (w : Way) {key v : List ℕ} {l2 l3 k2 : Link} (hk : Sized 32 key) (hv : Sized 16 v)
    (out_keys : a.outward.keys ≡ keys key) (out-vector : a.outward.vector ≡ v)
    (in_keys : b.inward.keys ≡ back_keys (keys key)) (in-vector : b.inward.vector ≡ v) (none : b.held ≡ [])
    (g : Greeting a.link b.link p q w.buffer l2 l3 k2) (r : 12 ≤ length w.room) where
  abbrev body : List ℕ
  body = handshake_body (flags_of a.link) p q

  abbrev packet : List ℕ
  packet = packet_of a.link 0x7682eef5 body

  -- the packet, and the word of the flush
  abbrev clear : List ℕ
  clear = packet ++ fours_of 1

  long-packet : length packet ≡ 44
  long-packet =
      length-packet a.link 0x7682eef5 body
      ∙ (ap (size_of a.link) (length-handshake (flags_of a.link) p q) ∙ g.size)

  answered : (x : Result ℕ Refusal) → (step_by a.link 0x7682eef5 0 x).answer ≡ x
  answered (Ok n) = refl
  answered (Err n) = refl

  bytes-are : front (handshake_step a.link p q (length w.buffer)).answer
      (handshake_buffer a.link p q w.buffer) ≡ packet
  unfolding handshake_step handshake_buffer control_step control_buffer
  bytes-are =
      let x : Result ℕ Refusal = control_answer a.link 0x7682eef5 false (length body) (length w.buffer) in
      let e : x ≡ Ok 44 = sym (answered x) ∙ ap (λ (t : Step). t.answer) g.sent in
      ap (λ (y : Result ℕ Refusal). front y (buffer_by a.link 0x7682eef5 body w.buffer x)) (answered x)
      ∙ (ap (λ (y : Result ℕ Refusal). front y (buffer_by a.link 0x7682eef5 body w.buffer y)) e
      ∙ take-front w.buffer packet 44 long-packet g.space)

  wrote-is : greets a.link p q w.buffer ≡ record { link = l2; bytes = packet }
  wrote-is =
      ap (λ (x : List ℕ). record { link = (handshake_step a.link p q (length w.buffer)).link; bytes = x })
      bytes-are
      ∙ ap (λ (t : Step). record { link = t.link; bytes = packet }) g.sent

  clear-is : flushed (record { link = l2; bytes = packet }) w.room ≡ clear
  clear-is =
      flushed-is (record { link = l2; bytes = packet }) w.room g.not_closed r
      ∙ ap (λ (n : ℕ). packet ++ fours_of n) g.due

  whole : Whole clear
  whole =
      let e : length clear ≡ 48 = length-append packet (fours_of 1) ∙ omega (arith, long-packet, length-fours 1) in
      omega arith

  low : Bytes clear
  low = low-bytes clear (small-append packet (fours_of 1)
      (small-packet a.link 0x7682eef5 body (small-handshake (flags_of a.link) p q)) (small-fours 1))

  abbrev vector : List ℕ
  vector = (encipher_vector (keys key) v clear)

  pub vector-sized : Sized 16 (encipher_vector (keys key) v clear)
  vector-sized = (bytes-forth clear (keys_of hk) hv low).1

  flush-is : (flush_step l2 (length w.room)).link ≡ l3
  flush-is =
      ap (λ (t : Step). t.link) (step l2 w.room g.not_closed r)
      ∙ (ap (λ (n : ℕ). flushed_of l2 (n * 4)) g.due ∙ g.word)

  flushed-all : flushed (greets a.link p q w.buffer) w.room ≡ clear
  flushed-all = ap (λ (x : Wrote). flushed x w.room) wrote-is ∙ clear-is

  vector_is : (encipher_vector a.outward.keys a.outward.vector
      (flushed (greets a.link p q w.buffer) w.room)) ≡ vector
  vector_is = rw (out_keys, out-vector) (ap (λ (x : List ℕ). (encipher_vector (keys key) v x)) flushed-all)

  -- the sender after it
  pub sent_is : (greet_out a p q w).end
      ≡ record {
        link = l3;
        outward = record { keys = a.outward.keys; vector = (encipher_vector (keys key) v clear) };
        inward = a.inward;
        held = a.held;
      }
  sent_is =
      let x : List ℕ = (encipher_vector a.outward.keys a.outward.vector
      (flushed (greets a.link p q w.buffer) w.room)) in
      ap (λ (y : Link). record {
        link = y;
        outward = record { keys = a.outward.keys; vector = x };
        inward = a.inward;
        held = a.held;
      }) (ap (λ (t : Step). (flush_step t.link (length w.room)).link) g.sent ∙ flush-is)
      ∙ ap (λ (y : List ℕ). record {
        link = l3;
        outward = record { keys = a.outward.keys; vector = y };
        inward = a.inward;
        held = a.held;
      }) vector_is

  ciphered-is : (greet_out a p q w).bytes ≡ encipher_buffer (keys key) v clear
  ciphered-is = rw (out_keys, out-vector) (ap (encipher_buffer (keys key) v) flushed-all)

  -- neither enciphering it nor deciphering any piece of it is refused with 37
  pub hand-never-37 :
      (IsOk (encipher_answer a.outward.keys a.outward.vector
      (flushed (greets a.link p q w.buffer) w.room)))
      × AllDone b.inward.vector (cut_by w.cuts w.last (greet_out a p q w).bytes)
  hand-never-37 = (
    rw flushed-all (done-forth a.outward.keys a.outward.vector clear whole),
    rw ciphered-is (none-refused b clear hk hv in_keys in-vector low whole w.cuts w.last),
  )

  comes : Comes b.link (b.held ++ clear) (control 0x7682eef5 body ∷ []) k2 (fours_of 1)
  unfolding fours_of got_of
  comes =
      same_bytes (ap (λ (x : List ℕ). x ++ clear) none)
      (takes {k = b.link} {l = a.link} 0 w.last (omega arith) g.fine (g.rest w.last))

  -- and the other end
  pub got-is : greet_in b (greet_out a p q w) w
      ≡ arrived b (record { link = k2; got = control 0x7682eef5 body ∷ []; left = fours_of 1 })
      (encipher_vector (keys key) v clear)
  got-is =
      ap (λ (x : List ℕ). all_in b (cut_by w.cuts w.last x)) ciphered-is
      ∙ carries b clear hk hv in_keys in-vector low whole w.cuts w.last comes
