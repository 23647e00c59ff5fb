-- What two drivers know of whose links set-up made with the same key, both with the cipher: such links meet, and after
-- the Nonces either knows the same. Assumes nothing.
use borrow.Author.Tests.{ltb-false}
use mathlib.Core.Path.{◌≡◌, refl, sym, ◌∙◌}
use mathlib.Core.Bool.{Bool, true, false, ◌&&◌, ◌||◌}
use mathlib.Core.List.{List}
use Prim.Native.Nat.{ℕ, ◌≤◌, ◌<◌, ◌^◌}
use lib.ListN.{length}
use lib.Dec.{ltb}
use Rattle.wire.specs.Choice.{pick}
use Rattle.wire.proofs.ByteLaws.{Small, le-lt}
use Rattle.link_state.specs.declared.Link.{Link}
use Rattle.link_state.specs.SetUp.{key_id_of, key_unsuitable, key_refused, set_up_of}
use Rattle.link_state.proofs.SetUpLaws.{set-up-took}
use Rattle.pair.specs.Opens.{Choices, settings_of, made_of, both_of, Meet, Caller, Able}
use Rattle.cipher_choice.specs.Derives.{Known, Addresses, Nonces, nonces_of, client_knows, server_knows}
use Rattle.cipher_choice.proofs.SameKeys.{both-version, same_known}
use Rattle.cipher_talk.specs.Exchange.{Way}
use Rattle.std.specs.Prelude.{Ok, Some}

-- a key that a link takes has at most 4,096 bytes
not-long : (key : List ℕ) → key_unsuitable key ≡ false → length key ≤ 4096
unfolding key_unsuitable
not-long key fine = ltb-false 4096 (length key) (go (ltb 4096 (length key)) _ fine)
  where
    go : (t r : Bool) → pick t true r ≡ false → t ≡ false
    go false r e = refl
    go true r e = e

-- two links that were set up with the same key, both with the cipher
module _ (x y : Choices) (key : List ℕ) (bytes : Small key) (client server : Link)
    (made-c : set_up_of (settings_of false x) (Some key) ≡ Ok client)
    (made-s : set_up_of (settings_of true y) (Some key) ≡ Ok server)
    (has-c : x.cipher ≡ true) (has-s : y.cipher ≡ true)
    (id-c : x.keyid ≡ key_id_of (Some key)) (id-s : y.keyid ≡ key_id_of (Some key)) where
  pub both : both_of x y ≡ true
  both = rw (has-c, has-s) refl

  taken : key_refused (settings_of false x) (Some key) ≡ false
  taken = (set-up-took (settings_of false x) (Some key) client made-c).1.1

  pub short : length key ≤ 4096
  unfolding key_refused
  short = not-long key taken

  id-fits : key_id_of (Some key) < 2 ^ 32
  unfolding key_id_of
  id-fits = le-lt key 0 4 bytes

  pub meet : Meet x y
  meet =
      record {
        client_lowest = (set-up-took (settings_of false x) (Some key) client made-c).1.0;
        server_lowest = (set-up-took (settings_of true y) (Some key) server made-s).1.0;
        client_not_alone = rw (has-c, has-s) (off x.only);
        server_not_alone = rw (has-c, has-s) (off y.only);
        same_key = λ e. id-c ∙ sym id-s;
        same_profile = rw (has-c, has-s) (on x.padded ∙ sym (on y.padded));
        client_key = rw id-c id-fits;
        server_key = rw id-s id-fits;
      }
    where
      off : (b : Bool) → (b && false) ≡ false
      off true = refl
      off false = refl

      on : (b : Bool) → (b || true) ≡ true
      on true = refl
      on false = refl

  pub client-is : client ≡ made_of false x
  client-is = rw id-c (set-up-took (settings_of false x) (Some key) client made-c).0

  pub server-is : server ≡ made_of true y
  server-is = rw id-s (set-up-took (settings_of true y) (Some key) server made-s).0

  -- the callers, the ways of the Handshakes, and the cards
  module _ (c s : Caller) (b1 b2 : List ℕ) (w3 w4 : Way) (g : Able c s b1 b2 w3.buffer w4.buffer)
      (a : Addresses) (client-card server-card : List ℕ → List ℕ)
      (agreed : client-card s.drawn.point ≡ server-card c.drawn.point) where
    -- what either driver knows after the Nonces
    abbrev nonces : Nonces
    nonces = nonces_of client server c s b1 b2

    abbrev client-known : Known
    client-known = client_knows c nonces a client-card

    abbrev server-known : Known
    server-known = server_knows s nonces a server-card

    pub alike : client-known ≡ server-known
    alike = rw (client-is, server-is)
        (same_known x y meet both c s b1 b2 w3.buffer w4.buffer w3.last w4.last g a client-card server-card
        agreed)

    pub version-2 : client-known.version ≡ 2
    version-2 = rw (client-is, server-is)
        (both-version x y meet both c s b1 b2 w3.buffer w4.buffer w3.last w4.last g).0
