-- Two links of ours that open against each other derive the same keys and vectors, for each direction, from what each
-- of them gave and read. Assumes nothing.
use mathlib.Core.Path.{◌≡◌, refl, ap, subst, ◌∙◌}
use mathlib.Core.Bool.{Bool, true, false, ◌&&◌}
use mathlib.Core.List.{List}
use Prim.Native.Nat.{ℕ}
use lib.ListN.{replicate}
use Rattle.wire.specs.Choice.{pick}
use Rattle.link_state.specs.declared.Moment.{Moment}
use Rattle.link_state.specs.SetUp.{fresh_of}
use Rattle.nonce_out.specs.Nonce.{version_of}
use Rattle.nonce_in.specs.Fields.{point_place, nonce_of}
use Rattle.nonce_in.specs.declared.NonceFields.{NonceFields}
use Rattle.pair.specs.Opens.{Choices, made_of, both_of, Meet, Caller, Able}
use Rattle.pair.proofs.Opening.{got1}
use Rattle.pair.proofs.NonceBack.{Tells, server-reads, client-reads}
use Rattle.cipher_choice.specs.Derives.{Address, end_by, read_end, version_by, point_by}
use Rattle.cipher_choice.specs.Derives.{Nonces, nonces_of, Known, derived_by, Addresses, client_knows, server_knows}
use Rattle.std.specs.Prelude.{Result}
use Rattle.refusal.specs.declared.Refusal.{Refusal}

-- what a body that tells so is read as
module _ (body : List ℕ) (time : ℕ) (random point : List ℕ) (t : Tells body time random point) where
  reads_end : (a : Address) → read_end body a ≡ record { random = random; time = time; ip = a.ip; port = a.port }
  reads_end a =
      ap (λ (r : Result NonceFields Refusal). end_by r body a) t.0
      ∙ ap (λ (x : List ℕ). record { random = x; time = time; ip = a.ip; port = a.port }) t.1.0

  reads-version : version_by (nonce_of body) ≡ 2
  reads-version = ap version_by t.0

  reads-point : point_by (nonce_of body) body ≡ point
  unfolding point_place
  reads-point = ap (λ (r : Result NonceFields Refusal). point_by r body) t.0 ∙ t.1.1

-- two fresh links that meet, both with the cipher
module _ (x y : Choices) (meet : Meet x y) (both : both_of x y ≡ true) (c s : Caller) (b1 b2 b3 b4 : List ℕ)
    (m3 m4 : Moment) (g : Able c s b1 b2 b3 b4) where
  -- their Nonces
  abbrev nonces : Nonces
  nonces = nonces_of (made_of false x) (made_of true y) c s b1 b2

  has-c : x.cipher ≡ true
  has-c = go x.cipher y.cipher both
    where
      go : (a b : Bool) → (a && b) ≡ true → a ≡ true
      go true b e = refl
      go false b e = e

  client-told : Tells nonces.from_client c.told.time c.drawn.random c.drawn.point
  client-told =
      subst (λ (p : List ℕ). Tells nonces.from_client c.told.time c.drawn.random p)
      (ap (λ (b : Bool). pick b c.drawn.point (replicate 32 0)) has-c)
      (server-reads x y meet c s b1 b2 b3 b4 m3 m4 g)

  server-told : Tells nonces.from_server s.told.time s.drawn.random s.drawn.point
  server-told =
      subst (λ (p : List ℕ). Tells nonces.from_server s.told.time s.drawn.random p)
      (ap (λ (b : Bool). pick b s.drawn.point (replicate 32 0)) both)
      (client-reads x y meet c s b1 b2 b3 b4 m3 m4 g)

  -- EACH CARD GETS THE OTHER'S POINT
  pub points : (point_by (nonce_of nonces.from_client) nonces.from_client ≡ c.drawn.point)
      × (point_by (nonce_of nonces.from_server) nonces.from_server ≡ s.drawn.point)
  points = (
    reads-point nonces.from_client c.told.time c.drawn.random c.drawn.point client-told,
    reads-point nonces.from_server s.told.time s.drawn.random s.drawn.point server-told,
  )

  -- both speak the version of the server's Nonce
  pub both-version : (version_by (nonce_of nonces.from_server) ≡ 2) × (version_of nonces.between ≡ 2)
  unfolding version_of fresh_of
  both-version = (
    reads-version nonces.from_server s.told.time s.drawn.random s.drawn.point server-told,
    rw (got1 x y meet c s b1 b2 b3 b4 m3 m4 g),
  )

  module _ (a : Addresses) (client-card server-card : List ℕ → List ℕ)
      (agreed : client-card s.drawn.point ≡ server-card c.drawn.point) where
    -- THE SAME KNOWLEDGE: with cards that give both the same shared bytes for each other's points, what the client
    -- gives to the derivation is what the server gives
    pub same_known : client_knows c nonces a client-card ≡ server_knows s nonces a server-card
    same_known =
        rw (
          both-version.0,
          both-version.1,
          reads_end nonces.from_server s.told.time s.drawn.random s.drawn.point server-told a.server,
          reads_end nonces.from_client c.told.time c.drawn.random c.drawn.point client-told a.client,
          points.0,
          points.1,
          agreed,
        )

    -- THE SAME KEYS: so with the same key what the client derives for a direction is what the server derives for it:
    -- answer, AES key and vector
    pub same_keys : (from_server : Bool) (key b : List ℕ)
        → derived_by (client_knows c nonces a client-card) from_server key b
        ≡ derived_by (server_knows s nonces a server-card) from_server key b
    same_keys from_server key b = ap (λ (k : Known). derived_by k from_server key b) same_known
