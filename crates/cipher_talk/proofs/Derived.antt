-- THE SAME SECRET AT BOTH ENDS: two links of ours that set-up made with the same key, both with the cipher; either
-- driver derives its keys from what it gave and read, and they are the same. Assumes nothing.
use mathlib.Core.Path.{◌≡◌, ap, ap₂, sym, ◌∙◌}
use mathlib.Core.Bool.{true, false}
use mathlib.Core.List.{List}
use Prim.Native.Nat.{ℕ, ◌+◌, ◌≤◌}
use lib.ListN.{length}
use Rattle.wire.proofs.ByteLaws.{Small}
use Rattle.link_state.specs.declared.Link.{Link}
use Rattle.link_state.specs.SetUp.{key_id_of, set_up_of}
use Rattle.link_keys.specs.declared.Derived.{Derived}
use Rattle.pair.specs.Opens.{Choices, settings_of, Caller, Able}
use Rattle.cipher_choice.specs.Derives.{Known, kept_of, Addresses, Nonces, nonces_of, client_knows, server_knows}
use Rattle.cipher_choice.proofs.Sized.{with-room}
use Rattle.cipher_talk.specs.Exchange.{Secret, secret_of, Way}
use Rattle.cipher_talk.proofs.Alike.{short, alike, version-2}
use Rattle.std.specs.Prelude.{Ok, Some, Result}
use Rattle.refusal.specs.declared.Refusal.{Refusal}

-- what is derived is the same in any two buffers with room
abbrev of : Result Derived Refusal → Result Derived Refusal → Secret
of there back =
    record {
      key1 = (kept_of there).key;
      vector1 = (kept_of there).vector;
      key2 = (kept_of back).key;
      vector2 = (kept_of back).vector;
    }

same-secret : (k : Known) (key b d : List ℕ) → k.version ≡ 2 → length key ≤ 4096 → 118 + length key ≤ length b
    → 118 + length key ≤ length d → secret_of k key b ≡ secret_of k key d
same-secret k key b d two short room-b room-d =
    ap₂ of
    (with-room k false key b two short room-b ∙ sym (with-room k false key d two short room-d))
    (with-room k true key b two short room-b ∙ sym (with-room k true key d two short room-d))

-- two links that were set up with the same key, both with the cipher; the callers, the ways of the Handshakes, the
-- cards, and the buffers for the derivations
module _ (x y : Choices) (key : List ℕ) (bytes : Small key) (client server : Link)
    (made-c : set_up_of (settings_of false x) (Some key) ≡ Ok client)
    (made-s : set_up_of (settings_of true y) (Some key) ≡ Ok server)
    (has-c : x.cipher ≡ true) (has-s : y.cipher ≡ true)
    (id-c : x.keyid ≡ key_id_of (Some key)) (id-s : y.keyid ≡ key_id_of (Some key))
    (c s : Caller) (b1 b2 : List ℕ) (w3 w4 : Way) (g : Able c s b1 b2 w3.buffer w4.buffer)
    (r3 : 12 ≤ length w3.room) (r4 : 12 ≤ length w4.room)
    (a : Addresses) (client-card server-card : List ℕ → List ℕ)
    (agreed : client-card s.drawn.point ≡ server-card c.drawn.point)
    (dc ds : List ℕ) (room-c : 118 + length key ≤ length dc) (room-s : 118 + length key ≤ length ds) where
  -- what either driver knows after the Nonces
  abbrev nonces : Nonces
  nonces = nonces_of client server c s b1 b2

  abbrev client-known : Known
  client-known = client_knows c nonces a client-card

  abbrev server-known : Known
  server-known = server_knows s nonces a server-card

  -- THE SAME SECRET at both ends
  pub one-secret : secret_of client-known key dc ≡ secret_of server-known key ds
  one-secret =
      same-secret client-known key dc ds
      (version-2 x y key bytes client server made-c made-s has-c has-s id-c id-s c s b1 b2 w3 w4 g a
      client-card server-card agreed)
      (short x y key bytes client server made-c made-s has-c has-s id-c id-s) room-c room-s
      ∙ ap (λ (k : Known). secret_of k key ds)
      (alike x y key bytes client server made-c made-s has-c has-s id-c id-s c s b1 b2 w3 w4 g a
      client-card server-card agreed)
