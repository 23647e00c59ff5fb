-- What a send call wrote as our Nonce, as whoever receives it reads it. Assumes nothing.
use mathlib.Core.Path.{◌≡◌, sym, ap, ◌∙◌}
use mathlib.Core.Bool.{true, false}
use mathlib.Core.List.{List, ◌++◌}
use native.Mathlib.Omega.{arith}
use Prim.Native.Nat.{ℕ, ◌+◌, ◌<◌, ◌^◌}
use lib.Dec.{lit<}
use lib.ListN.{length, drop, replicate}
use Rattle.wire.specs.Bytes.{within}
use Rattle.wire.specs.Choice.{pick}
use Rattle.wire.proofs.ByteLaws.{Small}
use Rattle.link_state.specs.declared.Link.{Link}
use Rattle.link_state.specs.declared.Moment.{Moment}
use Rattle.link_state.specs.SetUp.{fresh_of}
use Rattle.link_cipher.specs.Offered.{encryption_of, offers_or_takes, sent_key_id, sent_point}
use Rattle.packet.specs.Allowed.{allowed_of}
use Rattle.packet.specs.Body.{body_of}
use Rattle.packet_head.specs.Head.{check_length}
use Rattle.link.specs.Receive.{check_body, receive_of}
use Rattle.link.specs.declared.Received.{Received}
use Rattle.packet_out.specs.Packet.{packet_of}
use Rattle.nonce_out.specs.Nonce.{version_of, our_nonce, nonce_step, nonce_buffer}
use Rattle.nonce_out.specs.declared.Drawn.{Drawn}
use Rattle.nonce_out.proofs.BodyLaws.{length-point, length-ours}
use Rattle.nonce_out.proofs.SentLaws.{small-version, nonce-answered, nonce-left}
use Rattle.nonce_in.specs.Fields.{point_place, nonce_of}
use Rattle.nonce_in.proofs.FieldLaws.{nonce-back, random-back, point-back}
use Rattle.send_rules.specs.declared.Step.{Step}
use Rattle.pair.specs.Awaits.{Awaits}
use Rattle.pair.specs.Opens.{Choices, made_of, both_of, Meet, Caller, Able}
use Rattle.pair.proofs.RoundTrip.{reads-body}
use Rattle.pair.proofs.SentReceived.{sent-received}
use Rattle.pair.proofs.NoncePasses.{point-small, small-nonce}
use Rattle.pair.proofs.Opening.{sent1, got1, sent2, got2}
use Rattle.std.specs.Prelude.{Ok}

module _ (l : Link) (drawn : Drawn) (b : List ℕ) (m : Moment) (n : ℕ) (e : (nonce_step l drawn m (length b)).answer
    ≡ Ok n)
    (t : m.time < 2 ^ 32) (r : length drawn.random ≡ 16) (p : length drawn.point ≡ 32) where
  abbrev ours : List ℕ
  ours = our_nonce l drawn m

  abbrev buffer : List ℕ
  buffer = nonce_buffer l drawn m b

  -- the packet's body
  abbrev body : List ℕ
  body = within buffer 12 60

  held : body ≡ ours
  held =
      ap (λ (s : List ℕ). within s 12 60) (nonce-left l drawn b m n e)
      ∙ (ap (λ (k : ℕ). within (packet_of l 0x7acb87aa ours ++ drop (length (packet_of l 0x7acb87aa ours)) b) 12 k)
      (sym (length-ours l drawn m r p))
      ∙ reads-body l 0x7acb87aa ours (drop (length (packet_of l 0x7acb87aa ours)) b))

  -- OUR NONCE READ BACK: the link's version, the time and the random bytes as they were given, and the point, which
  -- is the card's where the cipher is offered or taken, and else zeros
  pub sent-nonce-back : (nonce_of body
      ≡ Ok (record {
        version = version_of l;
        time = m.time;
        random = record { at = 12; len = 16 };
        point = point_place (version_of l);
      }))
      × ((within body 12 16 ≡ drawn.random) × (within body 28 32 ≡ sent_point l drawn.point))
  unfolding our_nonce
  sent-nonce-back =
      let q = length-point l drawn.point p in
      rw held (
        nonce-back (sent_key_id l) (encryption_of l) (version_of l) m.time drawn.random (sent_point l drawn.point)
            (small-version l) t r q,
        (
          random-back (sent_key_id l) (encryption_of l) (version_of l) m.time drawn.random (sent_point l
              drawn.point)
              (small-version l) t r q,
          point-back (sent_key_id l) (encryption_of l) (version_of l) m.time drawn.random (sent_point l
              drawn.point)
              (small-version l) t r q,
        ),
      )

  -- READ BY A PEER: of every link that awaits it, takes Nonces now and does not refuse this one, from the place that
  -- its receive call names
  module _ (k : Link) (m2 : Moment) (a : Awaits k l) (len : check_length k 76 ≡ Ok tt) (may : allowed_of k 0x7acb87aa
      ≡ true)
      (number : l.sends < 2 ^ 32) (g : Small drawn.random) (h : Small drawn.point)
      (ok : check_body k 0x7acb87aa ours m2 ≡ Ok tt) where
    abbrev named : List ℕ
    named = body_of buffer (receive_of k buffer m2).answer

    small-ours : Small ours
    unfolding our_nonce sent_point
    small-ours = small-nonce _ _ (version_of l) m.time drawn.random _ g (point-small (offers_or_takes l) _ h)

    named-is : named ≡ body
    unfolding body_of nonce_buffer
    named-is =
        let is : length ours ≡ 60 = length-ours l drawn m r p in
        ap (λ (x : Received). body_of buffer x.answer)
        (sent-received l 0x7acb87aa false ours b k n (nonce-answered l drawn b m n e) a
        (ap (λ (x : ℕ). check_length k (x + 16)) is ∙ len) may number (omega (arith, is)) (lit< tt) small-ours m2 ok)
        ∙ ap (λ (x : ℕ). within buffer 12 x) is

    pub received-nonce-back : (nonce_of named
        ≡ Ok (record {
          version = version_of l;
          time = m.time;
          random = record { at = 12; len = 16 };
          point = point_place (version_of l);
        }))
        × ((within named 12 16 ≡ drawn.random) × (within named 28 32 ≡ sent_point l drawn.point))
    received-nonce-back = rw named-is sent-nonce-back

-- what a body tells of a Nonce of version 2 with this time, these random bytes and this point
abbrev pub Tells : List ℕ → ℕ → List ℕ → List ℕ → Type 0
Tells body time random point =
    (nonce_of body
    ≡ Ok (record { version = 2; time = time; random = record { at = 12; len = 16 }; point = point_place 2 }))
    × ((within body 12 16 ≡ random) × (within body 28 32 ≡ point))

-- two fresh links that open against each other
module _ (x y : Choices) (meet : Meet x y) (c s : Caller) (b1 b2 b3 b4 : List ℕ) (m3 m4 : Moment)
    (g : Able c s b1 b2 b3 b4) where
  abbrev client : Link
  client = made_of false x

  abbrev server : Link
  server = made_of true y

  -- the client's Nonce, and the server's, which answers it
  abbrev first-sent : List ℕ
  first-sent = nonce_buffer client c.drawn c.told b1

  abbrev second-sent : List ℕ
  second-sent = nonce_buffer (receive_of server first-sent s.heard).link s.drawn s.told b2

  -- EACH READS THE OTHER'S NONCE: with the client's point where it offers the cipher, and the server's where both
  -- have it
  pub server-reads : Tells (body_of first-sent (receive_of server first-sent s.heard).answer)
      c.told.time c.drawn.random (pick x.cipher c.drawn.point (replicate 32 0))
  unfolding fresh_of body_of version_of sent_point offers_or_takes
  server-reads =
      rw (got1 x y meet c s b1 b2 b3 b4 m3 m4 g)
      (sent-nonce-back client c.drawn b1 c.told 76
      (ap (λ (t : Step). t.answer) (sent1 x y meet c s b1 b2 b3 b4 m3 m4 g))
      g.client_clock g.client_random g.client_point)

  pub client-reads : Tells
      (body_of second-sent
      (receive_of (nonce_step client c.drawn c.told (length b1)).link second-sent c.heard).answer)
      s.told.time s.drawn.random (pick (both_of x y) s.drawn.point (replicate 32 0))
  unfolding fresh_of body_of version_of sent_point offers_or_takes
  client-reads =
      rw (
        got1 x y meet c s b1 b2 b3 b4 m3 m4 g,
        sent1 x y meet c s b1 b2 b3 b4 m3 m4 g,
        got2 x y meet c s b1 b2 b3 b4 m3 m4 g,
      )
      (sent-nonce-back _ s.drawn b2 s.told 76
      (ap (λ (t : Step). t.answer) (sent2 x y meet c s b1 b2 b3 b4 m3 m4 g))
      g.server_clock g.server_random g.server_point)
