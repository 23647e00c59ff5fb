-- Receive without lowest versions: document 01's own rules, with what later requests than A11 have added (document 02,
-- A7: 25 and 26 close a link; A9: 9 is by the settings and KeyID). Assumes nothing.
use Rattle.std.specs.Prelude.{ℕ, Bool, true, not, ◌&&◌, List, [], ◌∷◌, length, ltb, leb, eqb, Err, Result, Ok, ⊤}
use Rattle.wire.specs.Bytes.{within}
use Rattle.wire.specs.Choice.{pick, first}
use Rattle.link_state.specs.declared.Link.{Link}
use Rattle.link_state.specs.declared.Moment.{Moment}
use Rattle.packet.specs.declared.Arrival.{Arrival}
use Rattle.packet.specs.declared.Arrival.TheVariants.{Incomplete, Packet}
use Rattle.opening.specs.Clock.{near_of}
use Rattle.link_cipher.specs.Chosen.{cipher_refused}
use Rattle.opening.specs.Nonce.{least_of, version_at, beyond_of}
use Rattle.handshake_in.specs.Handshake.{check_handshake}
use Rattle.link_next.specs.KeepAlive.{check_ping, check_pong}
use Rattle.link.specs.Look.{look_of}
use Rattle.link_next.specs.Next.{closed_of, after_of}
use Rattle.link.specs.Receive.{gives}
use Rattle.link.specs.declared.Received.{Received}
use Rattle.refusal.specs.Numbers.{number}
use Rattle.refusal.specs.declared.Refusal.{Refusal}
use Rattle.refusal.specs.declared.Refusal.TheVariants.{OpeningShort, Clocks, Encryption, BeyondOffer}

-- "opening body short; clocks; encryption; beyond our offer": 7, 8, 9, 10
unfoldable pub nonce_before : Link → List ℕ → Moment → Result ⊤ Refusal
nonce_before l b m =
    first (
    (ltb (length b) (least_of (version_at b)), Err OpeningShort) ∷
    (not (near_of b m), Err Clocks) ∷
    (cipher_refused l b, Err Encryption) ∷
    (beyond_of l.set (version_at b), Err BeyondOffer) ∷
    []
    ) (Ok tt)

-- "then 7 to 10 or 17, 21"
unfoldable pub body_before : Link → ℕ → List ℕ → Moment → Result ⊤ Refusal
body_before l kind b m =
    first (
    (eqb kind 0x7acb87aa, nonce_before l b m) ∷
    (eqb kind 0x7682eef5, check_handshake l.set b) ∷
    (eqb kind 0x5730a2df, check_ping l b) ∷
    (eqb kind 0x8430eaa7, check_pong l b) ∷
    []
    ) (Ok tt)

-- "On receive, 1 to 10, 21, and 17 for Ping and Pong close the link; nothing else does"; and 25 and 26 (A7)
unfoldable pub closes_before : Refusal → Bool
closes_before k =
    first (
    (eqb (number k) 17, true) ∷
    (eqb (number k) 21, true) ∷
    (eqb (number k) 25, true) ∷
    (eqb (number k) 26, true) ∷
    []
    ) (leb 1 (number k) && leb (number k) 10)

abbrev pub refuse_before : Link → Refusal → Received
refuse_before l k = gives (pick (closes_before k) (closed_of l) l) (Err k)

abbrev pub packet_by_before : Link → Link → Arrival → Result ⊤ Refusal → Received
packet_by_before l after a (Ok u) = gives after (Ok a)
packet_by_before l after a (Err k) = refuse_before l k

abbrev pub receive_by_before : Link → List ℕ → Moment → Result Arrival Refusal → Received
receive_by_before l s m (Ok (Incomplete k)) = gives l (Ok (Incomplete k))
receive_by_before l s m (Err k) = refuse_before l k
receive_by_before l s m (Ok (Packet kind consumed at len)) =
    packet_by_before l (after_of l kind (within s at len) m) (Packet kind consumed at len)
    (body_before l kind (within s at len) m)

-- a receive call
unfoldable pub receive_before : Link → List ℕ → Moment → Received
receive_before l s m = receive_by_before l s m (look_of l s)
