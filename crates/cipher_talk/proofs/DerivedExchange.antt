-- A WHOLE EXCHANGE AS IT IS SET UP AND DERIVED: two links of ours that set-up made with the same key, both with the
-- cipher; either driver derives its keys from what it gave and read; and all that either says is heard as it was
-- meant. Assumes nothing.
use mathlib.Core.Path.{◌≡◌, sym, subst}
use mathlib.Core.Bool.{true, false}
use mathlib.Core.List.{List}
use Prim.Native.Nat.{ℕ, ◌+◌, ◌≤◌}
use lib.ListN.{length}
use Rattle.wire.proofs.ByteLaws.{Small}
use Rattle.link_state.specs.declared.Link.{Link}
use Rattle.link_state.specs.SetUp.{key_id_of, set_up_of}
use Rattle.pair.specs.Opens.{Choices, settings_of, Caller, Able}
use Rattle.cipher_choice.specs.Derives.{Known, Addresses, Nonces, nonces_of, client_knows, server_knows}
use Rattle.cipher_choice.proofs.Sized.{derived-sized}
use Rattle.cipher_talk.specs.Ends.{Turn, AllSound}
use Rattle.cipher_talk.specs.Exchange.{Secret, Suited, secret_of, Way, exchange_of, Heard}
use Rattle.cipher_talk.proofs.Exchange.{whole-exchange}
use Rattle.cipher_talk.proofs.Alike.{both, meet, client-is, server-is}
use Rattle.cipher_talk.proofs.Derived.{one-secret}
use Rattle.std.specs.Prelude.{Ok, Some}

-- what is derived is fit for the cipher
suited : (k : Known) (key b : List ℕ) → Suited (secret_of k key b)
suited k key b =
    let there = derived-sized k false key b in
    let back = derived-sized k true key b in
    record { first_key = there.0; first_vector = there.1; second_key = back.0; second_vector = back.1 }

-- two links that were set up with the same key, both with the cipher; the callers, the ways of the Handshakes, the
-- cards, and the buffers for the derivations
module _ (x y : Choices) (key : List ℕ) (bytes : Small key) (client server : Link)
    (made-c : set_up_of (settings_of false x) (Some key) ≡ Ok client)
    (made-s : set_up_of (settings_of true y) (Some key) ≡ Ok server)
    (has-c : x.cipher ≡ true) (has-s : y.cipher ≡ true)
    (id-c : x.keyid ≡ key_id_of (Some key)) (id-s : y.keyid ≡ key_id_of (Some key))
    (c s : Caller) (b1 b2 : List ℕ) (w3 w4 : Way) (g : Able c s b1 b2 w3.buffer w4.buffer)
    (r3 : 12 ≤ length w3.room) (r4 : 12 ≤ length w4.room)
    (a : Addresses) (client-card server-card : List ℕ → List ℕ)
    (agreed : client-card s.drawn.point ≡ server-card c.drawn.point)
    (dc ds : List ℕ) (room-c : 118 + length key ≤ length dc) (room-s : 118 + length key ≤ length ds) where
  -- what either driver knows after the Nonces
  abbrev nonces : Nonces
  nonces = nonces_of client server c s b1 b2

  abbrev client-known : Known
  client-known = client_knows c nonces a client-card

  abbrev server-known : Known
  server-known = server_knows s nonces a server-card

  with-one : (k : Secret) → Suited k → (ts : List Turn) → AllSound ts
      → Heard x y c s (exchange_of client server c s b1 b2 k k w3 w4 ts)
  with-one k fit ts ok = rw (
    client-is x y key bytes client server made-c made-s has-c has-s id-c id-s,
    server-is x y key bytes client server made-c made-s has-c has-s id-c id-s,
  )
      (whole-exchange x y (meet x y key bytes client server made-c made-s has-c has-s id-c id-s)
      (both x y key bytes client server made-c made-s has-c has-s id-c id-s) c s b1 b2 k w3 w4 g fit r3 r4 ts
      ok)

  -- HEARD AS IT WAS MEANT: the whole exchange, each end with the keys that it derived
  pub derived-exchange : (ts : List Turn) → AllSound ts
      → Heard x y c s
      (exchange_of client server c s b1 b2 (secret_of client-known key dc) (secret_of server-known key ds) w3 w4 ts)
  derived-exchange ts ok =
      subst
      (λ (k : Secret). Heard x y c s (exchange_of client server c s b1 b2 k (secret_of server-known key ds) w3 w4 ts))
      (sym
      (one-secret x y key bytes client server made-c made-s has-c has-s id-c id-s c s b1 b2 w3 w4 g r3 r4 a
      client-card server-card agreed dc ds room-c room-s))
      (with-one (secret_of server-known key ds) (suited server-known key ds) ts ok)
