-- Two links open against each other. Assumes nothing.
use borrow.Author.Tests.{le-ltb}
use native.Mathlib.Omega.{arith}
use mathlib.Core.Path.{◌≡◌, refl, ap, sym, ◌∙◌}
use mathlib.Core.Bool.{Bool, true, false, not, ◌&&◌, ◌||◌}
use mathlib.Core.List.{List, [], ◌∷◌, ◌++◌}
use Prim.Native.Nat.{ℕ, ◌+◌, ◌/◌, ◌%◌, ◌≤◌, ◌<◌, ◌^◌}
use lib.ListN.{length, replicate}
use lib.Dec.{eqb, lit<}
use Rattle.wire.specs.Bytes.{le, part}
use Rattle.wire.specs.Choice.{pick}
use Rattle.wire.proofs.ByteLaws.{Small}
use Rattle.link_state.specs.declared.Link.{Link}
use Rattle.link_state.specs.declared.Settings.{Settings}
use Rattle.link_state.specs.declared.Moment.{Moment}
use Rattle.link_state.specs.SetUp.{fresh_of}
use Rattle.link_cipher.specs.Offered.{offer_of, encryption_of, offers_or_takes, sent_key_id, sent_point}
use Rattle.link_state.specs.Turn.{may_send, stage_after}
use Rattle.packet.specs.Sum.{castagnoli_of}
use Rattle.packet.specs.Allowed.{allowed_of}
use Rattle.packet_padding.specs.Padding.{padded_of, pads_of, tail_of, phase_after}
use Rattle.packet_head.specs.Head.{check_length}
use Rattle.packet.specs.declared.Arrival.TheVariants.{Packet}
use Rattle.packet_out.specs.Size.{size_of, fits_of}
use Rattle.opening.specs.Nonce.{check_nonce}
use Rattle.handshake_in.specs.Handshake.{flag_of, check_handshake}
use Rattle.link.specs.Look.{check_turn}
use Rattle.link_next.specs.KeepAlive.{awaits_after, owes_after, owed_after}
use Rattle.link_next.specs.Next.{agreed_after, version_after, ciphered_after, after_of}
use Rattle.link.specs.Receive.{check_body, gives, receive_of}
use Rattle.send_rules.specs.Control.{check_send, control_answer, step_by, control_step, control_buffer}
use Rattle.nonce_out.specs.Nonce.{version_of, nonce_body, our_nonce, nonce_step, nonce_buffer}
use Rattle.handshake_out.specs.Handshake.{flags_of, pid_bytes, handshake_body, handshake_step, handshake_buffer}
use Rattle.send_rules.specs.Sent.{awaits_sent, awaited_sent, owes_sent, sent_of}
use Rattle.handshake_in.specs.declared.NetPid.{NetPid}
use Rattle.nonce_out.proofs.BodyLaws.{length-nonce, nonce-version, nonce-cipher}
use Rattle.handshake_out.proofs.BodyLaws.{length-handshake}
use Rattle.pair.specs.Awaits.{Awaits}
use Rattle.pair.specs.Opens.{Choices, settings_of, made_of, both_of, Meet, during, open_of, Caller, Able, Opened, opens}
use Rattle.pair.proofs.Pids.{small-handshake}
use Rattle.pair.proofs.NoncePasses.{near, point-length, point-small, pick_small, small-nonce, nine, nonce-passes}
use Rattle.pair.proofs.NoncePasses.{offer-small, answer-small, offer-chosen, answer-chosen, offer-taken, answer-taken}
use Rattle.pair.proofs.NoncePasses.{offer-key, answer-key}
use Rattle.pair.proofs.RoundTrip.{field}
use Rattle.pair.proofs.SentReceived.{sent-received}
use Rattle.std.specs.Prelude.{Ok}

module _ (flag : Bool) (s p : NetPid) where
  -- the Handshake with the flag, or without
  abbrev pub hand : List ℕ
  hand = handshake_body (pick flag 0x800 0) s p

  pub small-hand : Small hand
  small-hand = small-handshake (pick flag 0x800 0) s p

  hand-flags : le (part hand 0 4) ≡ pick flag 0x800 0
  unfolding handshake_body
  hand-flags = field [] (pid_bytes s ++ pid_bytes p) (pick flag 0x800 0) 0 refl (fits flag)
    where
      fits : (b : Bool) → pick b 0x800 0 < 2 ^ 32
      fits true = lit< tt
      fits false = lit< tt

  pub hand-flag : flag_of hand ≡ flag
  unfolding flag_of
  hand-flag = rw hand-flags (go flag)
    where
      go : (b : Bool) → eqb (pick b 0x800 0 / 0x800 % 2) 1 ≡ b
      go true = refl
      go false = refl

  -- a Handshake passes, if a client that did not offer gets no flag
  pub hand-passes : (set : Settings) → (not set.server && (not set.allows && flag)) ≡ false → check_handshake set hand ≡ Ok tt
  unfolding check_handshake
  hand-passes set h = simp (length-handshake (pick flag 0x800 0) s p, hand-flag, h)

-- ---- the four packets

-- a packet of the opening, with a body of n bytes and room for it
module _ (l k : Link) (kind : ℕ) (body b : List ℕ) (n : ℕ) (is : length body ≡ n) (short : n < 1000) (room : n + 16 ≤ length b) (may-send : check_send l kind false ≡ Ok tt) (size : size_of l n ≡ n + 16) where
  -- the send call is accepted
  written : control_answer l kind false (length body) (length b) ≡ Ok (n + 16)
  unfolding control_answer fits_of
  written = simp (is, may-send, size, le-ltb 16777199 n (omega arith), le-ltb (length b) (n + 16) room)

  sends : control_step l kind false body 0 (length b) ≡ record { link = sent_of l kind 0 (n + 16); answer = Ok (n + 16) }
  unfolding control_step
  sends = ap (step_by l kind 0) written

  -- and the peer that waits for it receives it
  receives : (m : Moment) → Awaits k l → check_length k (n + 16) ≡ Ok tt → allowed_of k kind ≡ true → l.sends < 2 ^ 32 → kind < 2 ^ 32 → Small body → check_body k kind body m ≡ Ok tt
      → receive_of k (control_buffer l kind false body b) m ≡ gives (after_of k kind body m) (Ok (Packet kind (n + 16) 12 n))
  receives m a len may number kind_fits g ok =
      sent-received l kind false body b k (n + 16) written a (ap (λ (x : ℕ). check_length k (x + 16)) is ∙ len) may number (omega arith) kind_fits g m ok
      ∙ (ap (λ (x : ℕ). gives (after_of k kind body m) (Ok (Packet kind (size_of l x) 12 x))) is
      ∙ ap (λ (x : ℕ). gives (after_of k kind body m) (Ok (Packet kind x 12 n))) size)

-- a Handshake of 44 bytes is whole words
hand-size : (p : Bool) → 44 + pick p 0 0 ≡ 44
hand-size true = refl
hand-size false = refl

module _ (x y : Choices) (meet : Meet x y) (c s : Caller) (b1 b2 b3 b4 : List ℕ) (m3 m4 : Moment) (g : Able c s b1 b2 b3 b4) where
  abbrev C : Settings
  C = settings_of false x

  abbrev S : Settings
  S = settings_of true y

  -- both have the cipher
  abbrev z : Bool
  z = both_of x y

  abbrev c0 : Link
  c0 = during C x.keyid false false 0 0 0 4294967294 4294967294

  abbrev s0 : Link
  s0 = during S y.keyid false false 0 0 0 4294967294 4294967294

  abbrev c1 : Link
  c1 = during C x.keyid false false 0 1 0 4294967295 4294967294

  abbrev s1 : Link
  s1 = during S y.keyid z false 2 1 0 4294967294 4294967295

  abbrev s2 : Link
  s2 = during S y.keyid z false 2 2 0 4294967295 4294967295

  abbrev c2 : Link
  c2 = during C x.keyid z false 2 2 0 4294967295 4294967295

  abbrev c3 : Link
  c3 = during C x.keyid z false 2 3 (pick (x.padded || z) 3 0) 0 4294967295

  abbrev s3 : Link
  s3 = during S y.keyid z (y.allows && x.allows) 2 3 0 4294967295 0

  abbrev point_c : List ℕ
  point_c = pick x.cipher c.drawn.point (replicate 32 0)

  abbrev point_s : List ℕ
  point_s = pick z s.drawn.point (replicate 32 0)

  abbrev nonce_c : List ℕ
  nonce_c = nonce_body (pick x.cipher x.keyid 0) (offer_of C) 2 c.told.time c.drawn.random point_c

  abbrev nonce_s : List ℕ
  nonce_s = nonce_body (pick z y.keyid 0) (pick z 1 0) 2 s.told.time s.drawn.random point_s

  len-c : length nonce_c ≡ 60
  len-c = length-nonce _ _ 2 _ c.drawn.random point_c g.client_random (point-length x.cipher _ g.client_point)

  len-s : length nonce_s ≡ 60
  len-s = length-nonce _ _ 2 _ s.drawn.random point_s g.server_random (point-length z _ g.server_point)

  passes-c : check_nonce s0 nonce_c s.heard ≡ Ok tt
  passes-c =
      nonce-passes _ _ 2 c.told.time c.drawn.random point_c s0 s.heard g.client_random
      (point-length x.cipher _ g.client_point) (omega arith) meet.server_lowest g.client_clock
      (near c.told.time s.heard.time g.client_not_ahead g.client_not_behind)
      (nine _ _ 2 c.told.time c.drawn.random point_c s0 (pick_small x.cipher x.keyid meet.client_key)
      (offer-small C) (offer-taken x y meet)
      (ap (λ (b : Bool). b && not (eqb (pick x.cipher x.keyid 0) y.keyid)) (offer-chosen x y) ∙ offer-key x y meet))

  passes-s : check_nonce c1 nonce_s c.heard ≡ Ok tt
  passes-s =
      nonce-passes _ _ 2 s.told.time s.drawn.random point_s c1 c.heard g.server_random
      (point-length z _ g.server_point) (omega arith) meet.client_lowest g.server_clock
      (near s.told.time c.heard.time g.server_not_ahead g.server_not_behind)
      (nine _ _ 2 s.told.time s.drawn.random point_s c1 (pick_small z y.keyid meet.server_key)
      (answer-small z) (answer-taken x y meet)
      (ap (λ (b : Bool). b && not (eqb (pick z y.keyid 0) x.keyid)) (answer-chosen x y) ∙ answer-key x y meet))

  -- the client's Nonce
  pub sent1 : nonce_step c0 c.drawn c.told (length b1) ≡ record { link = c1; answer = Ok 76 }
  unfolding nonce_step our_nonce version_of encryption_of sent_key_id sent_point offers_or_takes check_send may_send allowed_of sent_of
      stage_after awaits_sent awaited_sent owes_sent size_of tail_of pads_of padded_of phase_after
  sent1 = sends c0 s0 0x7acb87aa nonce_c b1 60 len-c (lit< tt) g.room1 refl refl

  pub got1 : receive_of s0 (nonce_buffer c0 c.drawn c.told b1) s.heard ≡ gives s1 (Ok (Packet 0x7acb87aa 76 12 60))
  unfolding nonce_buffer our_nonce castagnoli_of check_turn check_send may_send check_length allowed_of check_body after_of
      agreed_after version_after ciphered_after stage_after awaits_after owes_after owed_after version_of encryption_of
      sent_key_id sent_point offers_or_takes size_of tail_of pads_of padded_of
  got1 =
      receives c0 s0 0x7acb87aa nonce_c b1 60 len-c (lit< tt) g.room1 refl refl s.heard
      (record { number = refl; checksum = refl; stage = refl; profile = refl; turn = refl }) refl refl (lit< tt) (lit< tt)
      (small-nonce _ _ 2 c.told.time c.drawn.random point_c g.client_bytes
      (point-small x.cipher _ g.client_point_bytes)) passes-c
      ∙ rw (
        nonce-version _ _ 2 c.told.time c.drawn.random point_c (lit< tt),
        nonce-cipher _ _ 2 c.told.time c.drawn.random point_c (offer-small C),
        offer-chosen x y,
      )

  -- the server's Nonce
  pub sent2 : nonce_step s1 s.drawn s.told (length b2) ≡ record { link = s2; answer = Ok 76 }
  unfolding nonce_step our_nonce version_of encryption_of sent_key_id sent_point offers_or_takes check_send may_send allowed_of sent_of
      stage_after awaits_sent awaited_sent owes_sent size_of tail_of pads_of padded_of phase_after
  sent2 = sends s1 c1 0x7acb87aa nonce_s b2 60 len-s (lit< tt) g.room2 refl refl

  pub got2 : receive_of c1 (nonce_buffer s1 s.drawn s.told b2) c.heard ≡ gives c2 (Ok (Packet 0x7acb87aa 76 12 60))
  unfolding nonce_buffer our_nonce castagnoli_of check_turn check_send may_send check_length allowed_of check_body after_of
      agreed_after version_after ciphered_after stage_after awaits_after owes_after owed_after version_of encryption_of
      sent_key_id sent_point offers_or_takes size_of tail_of pads_of padded_of
  got2 =
      receives s1 c1 0x7acb87aa nonce_s b2 60 len-s (lit< tt) g.room2 refl refl c.heard
      (record { number = refl; checksum = refl; stage = refl; profile = refl; turn = refl }) refl refl (lit< tt) (lit< tt)
      (small-nonce _ _ 2 s.told.time s.drawn.random point_s g.server_bytes
      (point-small z _ g.server_point_bytes)) passes-s
      ∙ rw (
        nonce-version _ _ 2 s.told.time s.drawn.random point_s (lit< tt),
        nonce-cipher _ _ 2 s.told.time s.drawn.random point_s (answer-small z),
        answer-chosen x y,
      )

  -- the client's Handshake
  pub sent3 : handshake_step c2 c.pid s.pid (length b3) ≡ record { link = c3; answer = Ok 44 }
  unfolding handshake_step flags_of check_send may_send allowed_of sent_of stage_after awaits_sent awaited_sent owes_sent size_of
      tail_of pads_of padded_of phase_after
  sent3 =
      sends c2 s2 0x7682eef5 (hand x.allows c.pid s.pid) b3 28 (length-handshake _ c.pid s.pid) (lit< tt)
      g.room3 refl (hand-size (x.padded || z))

  got3 : receive_of s2 (handshake_buffer c2 c.pid s.pid b3) m3 ≡ gives s3 (Ok (Packet 0x7682eef5 44 12 28))
  unfolding handshake_buffer castagnoli_of check_turn check_send may_send check_length allowed_of check_body after_of
      agreed_after version_after ciphered_after stage_after awaits_after owes_after owed_after flags_of size_of tail_of pads_of
      padded_of
  got3 =
      receives c2 s2 0x7682eef5 (hand x.allows c.pid s.pid) b3 28 (length-handshake _ c.pid s.pid) (lit< tt)
      g.room3 refl (hand-size (x.padded || z)) m3
      (record { number = refl; checksum = refl; stage = refl; profile = sym meet.same_profile; turn = refl }) refl refl
      (lit< tt) (lit< tt) (small-hand x.allows c.pid s.pid) (hand-passes x.allows c.pid s.pid S refl)
      ∙ rw (hand-flag x.allows c.pid s.pid)

  -- the server's Handshake, still under CRC-32
  pub sent4 : handshake_step s3 s.pid c.pid (length b4) ≡ record { link = open_of true y z (y.allows && x.allows); answer = Ok 44 }
  unfolding handshake_step flags_of check_send may_send allowed_of sent_of stage_after awaits_sent awaited_sent owes_sent size_of
      tail_of pads_of padded_of phase_after
  sent4 =
      sends s3 c3 0x7682eef5 (hand (y.allows && x.allows) s.pid c.pid) b4 28 (length-handshake _ s.pid c.pid)
      (lit< tt) g.room4 refl (hand-size (y.padded || z))

  got4 : receive_of c3 (handshake_buffer s3 s.pid c.pid b4) m4
      ≡ gives (open_of false x z (x.allows && (y.allows && x.allows))) (Ok (Packet 0x7682eef5 44 12 28))
  unfolding handshake_buffer castagnoli_of check_turn check_send may_send check_length allowed_of check_body after_of
      agreed_after version_after ciphered_after stage_after awaits_after owes_after owed_after flags_of size_of tail_of pads_of
      padded_of
  got4 =
      receives s3 c3 0x7682eef5 (hand (y.allows && x.allows) s.pid c.pid) b4 28
      (length-handshake _ s.pid c.pid) (lit< tt) g.room4 refl (hand-size (y.padded || z)) m4
      (record {
        number = refl;
        checksum = off (y.allows && x.allows);
        stage = refl;
        profile = meet.same_profile;
        turn = refl;
      }) refl refl (lit< tt) (lit< tt) (small-hand (y.allows && x.allows) s.pid c.pid)
      (hand-passes (y.allows && x.allows) s.pid c.pid C (only x.allows y.allows))
      ∙ rw (hand-flag (y.allows && x.allows) s.pid c.pid)
    where
      off : (b : Bool) → false ≡ (b && false)
      off true = refl
      off false = refl

      only : (a b : Bool) → (not a && (b && a)) ≡ false
      only true b = refl
      only false true = refl
      only false false = refl

  both : (a b : Bool) → (a && (b && a)) ≡ (a && b)
  both true true = refl
  both true false = refl
  both false b = refl

  swap : (a b : Bool) → (b && a) ≡ (a && b)
  swap true true = refl
  swap true false = refl
  swap false true = refl
  swap false false = refl

  -- the exchange of two fresh links
  abbrev exchange : Opened
  exchange = opens (made_of false x) (made_of true y) c s b1 b2 b3 b4 m3 m4

  whole : exchange
      ≡ record {
        client = open_of false x z (x.allows && y.allows);
        server = open_of true y z (x.allows && y.allows);
        sent = Ok 76 ∷ Ok 76 ∷ Ok 44 ∷ Ok 44 ∷ [];
        received = Ok (Packet 0x7acb87aa 76 12 60) ∷ Ok (Packet 0x7acb87aa 76 12 60) ∷ Ok (Packet 0x7682eef5 44 12 28) ∷ Ok (Packet 0x7682eef5 44 12 28) ∷ [];
      }
  unfolding opens fresh_of
  whole = rw (sent1, got1, sent2, got2, sent3, got3, sent4, got4, both x.allows y.allows, swap x.allows y.allows)

  -- THE OPENING: both are open, CRC-32C is agreed exactly if both allow it, and the cipher is chosen exactly if both have it
  pub opened : (exchange.client ≡ open_of false x z (x.allows && y.allows)) × (exchange.server ≡ open_of true y z (x.allows && y.allows))
  opened = (ap (λ (o : Opened). o.client) whole, ap (λ (o : Opened). o.server) whole)

  -- AGREED: both are ciphered, or neither is
  pub agree : exchange.client.ciphered ≡ exchange.server.ciphered
  agree = ap (λ (o : Opened). o.client.ciphered) whole ∙ sym (ap (λ (o : Opened). o.server.ciphered) whole)

  -- each waits for the other's next packet
  pub each-awaits : Awaits exchange.client exchange.server × Awaits exchange.server exchange.client
  unfolding castagnoli_of check_turn may_send pads_of padded_of
  each-awaits =
      rw whole (
        record { number = refl; checksum = refl; stage = refl; profile = meet.same_profile; turn = refl },
        record { number = refl; checksum = refl; stage = refl; profile = sym meet.same_profile; turn = refl },
      )

  -- every send call is accepted
  pub all-written : exchange.sent ≡ Ok 76 ∷ Ok 76 ∷ Ok 44 ∷ Ok 44 ∷ []
  all-written = ap (λ (o : Opened). o.sent) whole

  -- and every packet is received
  pub all-received : exchange.received
      ≡ Ok (Packet 0x7acb87aa 76 12 60) ∷ Ok (Packet 0x7acb87aa 76 12 60) ∷ Ok (Packet 0x7682eef5 44 12 28) ∷ Ok (Packet 0x7682eef5 44 12 28) ∷ []
  all-received = ap (λ (o : Opened). o.received) whole
