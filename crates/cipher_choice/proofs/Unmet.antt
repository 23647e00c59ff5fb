-- Two links of ours whose settings or KeyIDs do not meet: the server refuses the client's Nonce with 9. Assumes
-- nothing.
use borrow.Author.Tests.{le-ltb}
use mathlib.Core.Path.{◌≡◌, refl, ap, ◌∙◌}
use mathlib.Core.Bool.{Bool, true, false, not, ◌&&◌}
use mathlib.Core.List.{List}
use Prim.Native.Nat.{ℕ, ◌≤◌, ◌<◌, ◌^◌}
use lib.ListN.{length, drop, replicate}
use lib.Dec.{eqb, lit<}
use Rattle.wire.specs.Choice.{pick}
use Rattle.link_state.specs.declared.Link.{Link}
use Rattle.link_state.specs.SetUp.{fresh_of}
use Rattle.link_state.specs.Turn.{may_send}
use Rattle.link_cipher.specs.Offered.{offer_of, encryption_of, offers_or_takes, sent_key_id, sent_point}
use Rattle.link_cipher.specs.Chosen.{server_refuses, encryption_refused, chosen_of, cipher_refused}
use Rattle.packet.specs.Sum.{castagnoli_of}
use Rattle.packet.specs.Allowed.{allowed_of}
use Rattle.packet_padding.specs.Padding.{pads_of, tail_of}
use Rattle.packet_head.specs.Head.{check_length}
use Rattle.packet_out.specs.Size.{size_of, fits_of}
use Rattle.packet_out.specs.Packet.{packet_of}
use Rattle.opening.specs.Clock.{nonce_clock, near_of}
use Rattle.opening.specs.Nonce.{least_of, check_nonce}
use Rattle.link.specs.Look.{check_turn}
use Rattle.link_next.specs.Next.{closes_of, closed_of, refused_of}
use Rattle.link.specs.Receive.{check_body, gives, refuse, receive_of}
use Rattle.send_rules.specs.Control.{check_send, control_answer, control_step}
use Rattle.nonce_out.specs.Nonce.{version_of, nonce_body, our_nonce, nonce_step, nonce_buffer}
use Rattle.nonce_out.proofs.BodyLaws.{length-nonce, nonce-key-id, nonce-cipher, nonce-version, nonce-time}
use Rattle.nonce_out.proofs.SentLaws.{nonce-left}
use Rattle.pair.specs.Opens.{Choices, settings_of, made_of, Caller, Able}
use Rattle.pair.proofs.RoundTrip.{body_refused}
use Rattle.pair.proofs.NoncePasses.{near, small-nonce, offer-small, pick_small, point-length, point-small}
use Rattle.cipher_choice.specs.Nine.{nine_of}
use Rattle.refusal.specs.declared.Refusal.TheVariants.{Encryption}
use Rattle.std.specs.Prelude.{Err, Ok}
use Rattle.refusal.specs.Numbers.{number}

module _ (x y : Choices) where
  -- the row of 9, on the client's offer and KeyID, is the table
  by-tables : pick (encryption_refused (settings_of true y) (offer_of (settings_of false x))) true
      (chosen_of (settings_of true y) (offer_of (settings_of false x)) && not (eqb (pick x.cipher x.keyid 0)
      y.keyid))
      ≡ nine_of x y
  unfolding encryption_refused server_refuses offer_of chosen_of nine_of
  by-tables = go x.cipher x.only y.cipher y.only
    where
      offer : Bool → Bool → ℕ
      offer a o = pick (not a) 0 (pick o 1 2)

      go : (a o b q : Bool)
          → pick (pick (not b) (eqb (offer a o) 1) (pick q (eqb (offer a o) 0) false)) true
          (pick (not b) false (not (eqb (offer a o) 0)) && not (eqb (pick a x.keyid 0) y.keyid))
          ≡ pick (a && (o && not b)) true (pick (b && (q && not a)) true ((a && b) && not (eqb x.keyid y.keyid)))
      go true true true true = refl
      go true true true false = refl
      go true true false q = refl
      go true false true true = refl
      go true false true false = refl
      go true false false q = refl
      go false o true true = refl
      go false o true false = refl
      go false o false q = refl

module _ (x y : Choices) (low : y.lowest ≤ 2) (key : x.keyid < 2 ^ 32) (c s : Caller)
    (b1 b2 b3 b4 : List ℕ) (g : Able c s b1 b2 b3 b4) where
  abbrev client : Link
  client = made_of false x

  abbrev server : Link
  server = made_of true y

  abbrev point : List ℕ
  point = pick x.cipher c.drawn.point (replicate 32 0)

  abbrev keyid : ℕ
  keyid = pick x.cipher x.keyid 0

  abbrev offered : ℕ
  offered = offer_of (settings_of false x)

  abbrev nonce : List ℕ
  nonce = nonce_body keyid offered 2 c.told.time c.drawn.random point

  len : length nonce ≡ 60
  len =
      length-nonce keyid offered 2 c.told.time c.drawn.random point g.client_random
      (point-length x.cipher _ g.client_point)

  refuses-by : cipher_refused server nonce ≡ nine_of x y
  unfolding cipher_refused fresh_of
  refuses-by =
      rw (
        nonce-cipher keyid offered 2 c.told.time c.drawn.random point (offer-small (settings_of false x)),
        nonce-key-id keyid offered 2 c.told.time c.drawn.random point (pick_small x.cipher x.keyid key),
      )
      (by-tables x y)

  nine : nine_of x y ≡ true → check_nonce server nonce s.heard ≡ Err Encryption
  unfolding check_nonce least_of near_of nonce_clock fresh_of
  nine h =
      simp (
        len,
        nonce-version keyid offered 2 c.told.time c.drawn.random point (lit< tt),
        nonce-time keyid offered 2 c.told.time c.drawn.random point g.client_clock,
        near c.told.time s.heard.time g.client_not_ahead g.client_not_behind,
        le-ltb 2 y.lowest low,
        refuses-by ∙ h,
      )

  -- the client's Nonce goes out
  pub sent : (nonce_step client c.drawn c.told (length b1)).answer ≡ Ok 76
  unfolding nonce_step control_step our_nonce version_of encryption_of sent_key_id sent_point offers_or_takes control_answer fits_of
      fresh_of check_send may_send allowed_of size_of tail_of pads_of
  sent = simp (len, le-ltb (length b1) 76 g.room1)

  refused : nine_of x y ≡ true
      → receive_of server (nonce_buffer client c.drawn c.told b1) s.heard ≡ refuse server Encryption
  unfolding our_nonce version_of encryption_of sent_key_id sent_point offers_or_takes castagnoli_of check_turn may_send check_length
      allowed_of check_body pads_of fresh_of
  refused h =
      let P : List ℕ = packet_of client 0x7acb87aa nonce in
      ap (λ (t : List ℕ). receive_of server t s.heard) (nonce-left client c.drawn b1 c.told 76 sent)
      ∙ body_refused client 0x7acb87aa nonce (drop (length P) b1) server
      (record { number = refl; checksum = refl; stage = refl; profile = refl; turn = refl }) (rw len refl) refl
      (lit< tt)
      (rw len (lit< tt)) (lit< tt)
      (small-nonce keyid offered 2 c.told.time c.drawn.random point g.client_bytes
      (point-small x.cipher _ g.client_point_bytes))
      s.heard Encryption (nine h)

  -- NO OPENING: where the tables say 9, the server answers 9 to the client's Nonce and closes
  pub unmet : nine_of x y ≡ true
      → receive_of server (nonce_buffer client c.drawn c.told b1) s.heard ≡ gives (closed_of server) (Err Encryption)
  unfolding refused_of closes_of number
  unmet h = refused h
