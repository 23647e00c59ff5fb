-- A WHOLE EXCHANGE: two fresh links of ours open, with the cipher from their Handshakes on, and then all that either
-- says is heard as it was meant. Assumes nothing.
use mathlib.Core.Path.{◌≡◌, refl, ap₂, sym, ◌∙◌}
use mathlib.Core.Bool.{Bool, true, false, not, ◌&&◌, ◌||◌}
use mathlib.Core.List.{List, [], ◌∷◌, ◌++◌}
use Prim.Native.Nat.{ℕ, ◌≤◌}
use lib.ListN.{length}
use lib.Dec.{lit<, lit≤}
use Rattle.wire.specs.Choice.{pick}
use Rattle.aes.specs.Aes.{keys}
use Rattle.aes.specs.Cbc.{encipher_vector}
use Rattle.link_state.specs.declared.Link.{Link}
use Rattle.link_state.specs.declared.Settings.{Settings}
use Rattle.link_state.specs.declared.Moment.{Moment}
use Rattle.link_state.specs.SetUp.{fresh_of}
use Rattle.link_state.specs.Turn.{may_send, stage_after}
use Rattle.packet.specs.Sum.{castagnoli_of}
use Rattle.packet_padding.specs.Padding.{padded_of, pads_of, tail_of, words_allowed, fours_of, phase_after}
use Rattle.packet_out.specs.Size.{size_of}
use Rattle.packet_out.specs.Packet.{packet_of}
use Rattle.link.specs.Look.{check_turn}
use Rattle.link_next.specs.KeepAlive.{awaits_after, owes_after, owed_after}
use Rattle.link_next.specs.Next.{agreed_after, version_after, ciphered_after, after_of}
use Rattle.handshake_out.specs.Handshake.{flags_of, handshake_body}
use Rattle.flush.specs.Flush.{begun_of, words_due, flushed_of}
use Rattle.pair.specs.Awaits.{Awaits}
use Rattle.pair.specs.Opens.{Choices, settings_of, made_of, both_of, Meet, during, Caller, Able}
use Rattle.pair.proofs.Opening.{hand-flag, sent1, got1, sent2, got2, sent3, sent4}
use Rattle.cipher_talk.specs.Drain.{control, theirs}
use Rattle.cipher_talk.specs.Comes.{words, ours}
use Rattle.cipher_talk.specs.Ends.{End, In, Turn, AllSound, Meets, heard_in, meant_in}
use Rattle.cipher_talk.specs.Exchange.{Secret, Suited, client_end, server_end, Way, greet_out}
use Rattle.cipher_talk.specs.Exchange.{greet_in, Exchanged, greeted, exchange_of, Heard}
use Rattle.cipher_talk.proofs.Carried.{arrived}
use Rattle.cipher_talk.proofs.Turns.{all-turns-heard}
use Rattle.cipher_talk.proofs.Greets.{hand-fine, Greeting, vector-sized, sent_is, got-is}
use Rattle.std.specs.Prelude.{Ok}

module _ (x y : Choices) (meet : Meet x y) (both : both_of x y ≡ true) (c s : Caller) (b1 b2 : List ℕ) (k : Secret)
    (w3 w4 : Way) (g : Able c s b1 b2 w3.buffer w4.buffer) (suited : Suited k)
    (r3 : 12 ≤ length w3.room) (r4 : 12 ≤ length w4.room) where
  abbrev C : Settings
  C = settings_of false x

  abbrev S : Settings
  S = settings_of true y

  abbrev z : Bool
  z = both_of x y

  -- CRC-32C, as the server and as the client has it agreed
  abbrev agreed : Bool
  agreed = y.allows && x.allows

  -- both are padded
  padded : (b : Bool) → (b || z) ≡ true
  padded b = rw both (go b)
    where
      go : (b : Bool) → (b || true) ≡ true
      go true = refl
      go false = refl

  -- ---- the links, in order: after the Nonces; after the client's Handshake and flush; after the server's

  abbrev c2 : Link
  c2 = during C x.keyid z false 2 2 0 4294967295 4294967295

  abbrev s2 : Link
  s2 = during S y.keyid z false 2 2 0 4294967295 4294967295

  abbrev c3 : Link
  c3 = during C x.keyid z false 2 3 (pick (x.padded || z) 3 0) 0 4294967295

  abbrev c4 : Link
  c4 = during C x.keyid z false 2 3 0 0 4294967295

  abbrev s3 : Link
  s3 = during S y.keyid z agreed 2 3 0 4294967295 0

  abbrev s4 : Link
  s4 = during S y.keyid z agreed 2 4 (pick (y.padded || z) 3 0) 0 0

  abbrev s5 : Link
  s5 = during S y.keyid z agreed 2 4 0 0 0

  abbrev c5 : Link
  c5 = during C x.keyid z (x.allows && agreed) 2 4 0 0 0

  -- ---- the client's Handshake

  due-c : words_due c3 ≡ 1
  unfolding words_due padded_of begun_of
  due-c = rw (padded x.padded)

  word-c : flushed_of c3 4 ≡ c4
  unfolding flushed_of phase_after pads_of padded_of
  word-c = rw (padded x.padded)

  size-c : size_of c2 28 ≡ 44
  unfolding size_of tail_of pads_of padded_of
  size-c = rw (padded x.padded)

  abbrev hand_c : List ℕ
  hand_c = handshake_body (flags_of c2) c.pid s.pid

  -- the server after it: its turn
  server-takes : (m : Moment) → after_of s2 0x7682eef5 hand_c m ≡ s3
  unfolding after_of agreed_after version_after ciphered_after stage_after awaits_after owes_after owed_after flags_of
  server-takes m = rw (hand-flag x.allows c.pid s.pid)

  server-turn : theirs s3 ≡ false
  unfolding may_send
  server-turn = refl

  awaits-c : Awaits s2 c2
  unfolding castagnoli_of check_turn may_send pads_of padded_of
  awaits-c = record { number = refl; checksum = refl; stage = refl; profile = sym meet.same_profile; turn = refl }

  greeting-c : Greeting c2 s2 c.pid s.pid w3.buffer c3 c4 s3
  greeting-c =
      record {
        sent = sent3 x y meet c s b1 b2 w3.buffer w4.buffer w3.last w4.last g;
        space = g.room3;
        size = size-c;
        due = due-c;
        not_closed = refl;
        word = word-c;
        fine = hand-fine s2 c2 c.pid s.pid awaits-c (lit≤ tt) (lit< tt) (lit< tt) refl;
        rest = λ m. rw (server-takes m) (ours {k = s3} (fours_of 1) server-turn);
      }

  -- ---- the server's

  due-s : words_due s4 ≡ 1
  unfolding words_due padded_of begun_of
  due-s = rw (padded y.padded)

  word-s : flushed_of s4 4 ≡ s5
  unfolding flushed_of phase_after pads_of padded_of
  word-s = rw (padded y.padded)

  size-s : size_of s3 28 ≡ 44
  unfolding size_of tail_of pads_of padded_of
  size-s = rw (padded y.padded)

  abbrev hand_s : List ℕ
  hand_s = handshake_body (flags_of s3) s.pid c.pid

  client-takes : (m : Moment) → after_of c4 0x7682eef5 hand_s m ≡ c5
  unfolding after_of agreed_after version_after ciphered_after stage_after awaits_after owes_after owed_after flags_of
  client-takes m = rw (hand-flag agreed s.pid c.pid)

  client-waits : (1 ≤ words_allowed c5) × (check_turn c5 ≡ Ok tt)
  unfolding words_allowed padded_of check_turn may_send
  client-waits = (rw (padded x.padded) (lit≤ tt), refl)

  awaits-s : Awaits c4 s3
  unfolding castagnoli_of check_turn may_send pads_of padded_of
  awaits-s =
      record { number = refl; checksum = off agreed; stage = refl; profile = meet.same_profile; turn = refl }
    where
      off : (b : Bool) → false ≡ (b && false)
      off true = refl
      off false = refl

  greeting-s : Greeting s3 c4 s.pid c.pid w4.buffer s4 s5 c5
  greeting-s =
      record {
        sent = sent4 x y meet c s b1 b2 w3.buffer w4.buffer w3.last w4.last g;
        space = g.room4;
        size = size-s;
        due = due-s;
        not_closed = refl;
        word = word-s;
        fine = hand-fine c4 s3 s.pid c.pid awaits-s (lit≤ tt) (lit< tt) (lit< tt) (only x.allows y.allows);
        rest = λ m. rw (client-takes m) (words {k = c5} 1 client-waits.0 client-waits.1);
      }
    where
      only : (a b : Bool) → (not a && (b && a)) ≡ false
      only true b = refl
      only false true = refl
      only false false = refl

  -- ---- the ends

  abbrev v3 : List ℕ
  v3 = (encipher_vector (keys k.key1) k.vector1 (packet_of c2 0x7682eef5 hand_c ++ fours_of 1))

  abbrev v4 : List ℕ
  v4 = (encipher_vector (keys k.key2) k.vector2 (packet_of s3 0x7682eef5 hand_s ++ fours_of 1))

  abbrev a2 : End
  a2 = client_end c2 k

  abbrev e2 : End
  e2 = server_end s2 k

  abbrev a3 : End
  a3 = record {
    link = c4;
    outward = record { keys = a2.outward.keys; vector = v3 };
    inward = a2.inward;
    held = [];
  }

  abbrev i3 : In
  i3 = arrived e2 (record { link = s3; got = control 0x7682eef5 hand_c ∷ []; left = fours_of 1 }) v3

  abbrev e4 : End
  e4 = record {
    link = s5;
    outward = record { keys = e2.outward.keys; vector = v4 };
    inward = i3.end.inward;
    held = fours_of 1;
  }

  abbrev i4 : In
  i4 = arrived a3 (record { link = c5; got = control 0x7682eef5 hand_s ∷ []; left = fours_of 1 }) v4

  out3-is : (greet_out a2 c.pid s.pid w3).end ≡ a3
  out3-is = sent_is a2 e2 c.pid s.pid w3 suited.first_key suited.first_vector refl refl refl refl refl
      greeting-c r3

  in3-is : greet_in e2 (greet_out a2 c.pid s.pid w3) w3 ≡ i3
  in3-is = got-is a2 e2 c.pid s.pid w3 suited.first_key suited.first_vector refl refl refl refl refl
      greeting-c r3

  out4-is : (greet_out i3.end s.pid c.pid w4).end ≡ e4
  out4-is = sent_is i3.end a3 s.pid c.pid w4 suited.second_key suited.second_vector refl refl refl refl
      refl greeting-s r4

  in4-is : greet_in a3 (greet_out i3.end s.pid c.pid w4) w4 ≡ i4
  in4-is = got-is i3.end a3 s.pid c.pid w4 suited.second_key suited.second_vector refl refl refl refl
      refl greeting-s r4

  -- ---- they meet, both ways

  same-agreed : (a b : Bool) → ((b && a) && true) ≡ ((a && (b && a)) && true)
  same-agreed true true = refl
  same-agreed true false = refl
  same-agreed false true = refl
  same-agreed false false = refl

  there : Awaits s5 c5
  unfolding castagnoli_of check_turn may_send pads_of padded_of
  there =
      record {
        number = refl;
        checksum = same-agreed x.allows y.allows;
        stage = refl;
        profile = sym meet.same_profile;
        turn = refl;
      }

  back : Awaits c5 s5
  unfolding castagnoli_of check_turn may_send pads_of padded_of
  back =
      record {
        number = refl;
        checksum = sym (same-agreed x.allows y.allows);
        stage = refl;
        profile = meet.same_profile;
        turn = refl;
      }

  meets-there : Meets i4.end e4
  meets-there =
      record {
        key = k.key1;
        key_is = suited.first_key;
        out_keys = refl;
        in_keys = refl;
        vector_is = vector-sized a2 e2 c.pid s.pid w3 suited.first_key suited.first_vector refl refl refl
            refl refl greeting-c r3;
        vectors = refl;
        words = 1;
        few = lit≤ tt;
        held = refl;
        level = refl;
        waits = there;
        open_a = lit≤ tt;
        open_b = lit≤ tt;
        ciphered_a = both;
        ciphered_b = both;
        not_closed = refl;
        number = lit< tt;
        sides = refl;
      }

  meets-back : Meets e4 i4.end
  meets-back =
      record {
        key = k.key2;
        key_is = suited.second_key;
        out_keys = refl;
        in_keys = refl;
        vector_is = vector-sized i3.end a3 s.pid c.pid w4 suited.second_key suited.second_vector refl
            refl refl refl refl greeting-s r4;
        vectors = refl;
        words = 1;
        few = lit≤ tt;
        held = refl;
        level = refl;
        waits = back;
        open_a = lit≤ tt;
        open_b = lit≤ tt;
        ciphered_a = both;
        ciphered_b = both;
        not_closed = refl;
        number = lit< tt;
        sides = refl;
      }

  -- ---- all of it

  module _ (ts : List Turn) where
    -- by the Handshakes that came in, and the server's end
    abbrev ended : In → In → End → Exchanged
    ended i j e =
        record {
          server = i.got;
          client = j.got;
          heard = heard_in j.end e ts;
          meant = meant_in j.end e ts;
        }

    -- by the first of them, and the client's end
    abbrev going : In → End → Exchanged
    going i a =
        let o = greet_out i.end s.pid c.pid w4 in ended i (greet_in a o w4) o.end

    greeted-is : greeted a2 e2 c s w3 w4 ts ≡ ended i3 i4 e4
    unfolding greeted
    greeted-is = ap₂ going in3-is out3-is ∙ ap₂ (ended i3) in4-is out4-is

    exchange-is : exchange_of (made_of false x) (made_of true y) c s b1 b2 k k w3 w4 ts ≡ greeted a2 e2 c s w3 w4 ts
    unfolding exchange_of fresh_of
    exchange-is = rw (
      sent1 x y meet c s b1 b2 w3.buffer w4.buffer w3.last w4.last g,
      got1 x y meet c s b1 b2 w3.buffer w4.buffer w3.last w4.last g,
      sent2 x y meet c s b1 b2 w3.buffer w4.buffer w3.last w4.last g,
      got2 x y meet c s b1 b2 w3.buffer w4.buffer w3.last w4.last g,
    )

    ended-well : AllSound ts → Heard x y c s (ended i3 i4 e4)
    unfolding flags_of
    ended-well ok =
        record { server = refl; client = refl; heard = all-turns-heard i4.end e4 ts meets-there meets-back ok }

    -- WITH THE SAME SECRET at both ends; that they derive the same is in proofs/Derived.antt
    pub whole-exchange : AllSound ts → Heard x y c s (exchange_of (made_of false x) (made_of true y) c s b1 b2 k k w3 w4 ts)
    whole-exchange ok = rw (exchange-is ∙ greeted-is) (ended-well ok)
