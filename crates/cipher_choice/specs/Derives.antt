-- What either driver derives its keys from: of its own Nonce what it gave to the send call, of the other's what it
-- reads in the body that its receive call named (document 02, A8 and A9). Assumes nothing.
use Rattle.std.specs.Prelude.{ℕ, Bool, List, length, replicate, Result, Ok, Err}
use Rattle.wire.specs.Bytes.{within}
use Rattle.link_state.specs.declared.Link.{Link}
use Rattle.link_state.specs.declared.Moment.{Moment}
use Rattle.packet.specs.Body.{body_of}
use Rattle.link.specs.Receive.{receive_of}
use Rattle.nonce_out.specs.Nonce.{version_of, nonce_step, nonce_buffer}
use Rattle.nonce_out.specs.declared.Drawn.{Drawn}
use Rattle.nonce_in.specs.Fields.{nonce_of}
use Rattle.nonce_in.specs.declared.NonceFields.{NonceFields}
use Rattle.key_front.specs.declared.End.{End}
use Rattle.key_front.specs.declared.Ends.{Ends}
use Rattle.link_keys.specs.Keys.{derived}
use Rattle.link_keys.specs.declared.Derived.{Derived}
use Rattle.pair.specs.Opens.{Caller}
use Rattle.refusal.specs.declared.Refusal.{Refusal}

-- the address of an end, which version 0 alone uses
pub record Address : Type 0 where
  pub ip : ℕ
  pub port : ℕ

-- our end
abbrev pub own_end : Drawn → Moment → Address → End
own_end drawn told a = record { random = drawn.random; time = told.time; ip = a.ip; port = a.port }

-- the other's, by its Nonce's body
abbrev pub end_by : Result NonceFields Refusal → List ℕ → Address → End
end_by (Ok f) body a =
    record { random = within body f.random.at f.random.len; time = f.time; ip = a.ip; port = a.port }
end_by (Err k) body a = record { random = replicate 16 0; time = 0; ip = a.ip; port = a.port }

abbrev pub read_end : List ℕ → Address → End
read_end body a = end_by (nonce_of body) body a

-- the version in it, and the point that the card is given
abbrev pub version_by : Result NonceFields Refusal → ℕ
version_by (Ok f) = f.version
version_by (Err k) = 0

abbrev pub point_by : Result NonceFields Refusal → List ℕ → List ℕ
point_by (Ok f) body = within body f.point.at f.point.len
point_by (Err k) body = replicate 32 0

-- ---- the Nonces of two links, as in `opens` of crate pair, in the buffers b1 and b2

-- the bodies that the receive calls named, the server's link between the two, and both links after them
pub record Nonces : Type 0 where
  pub from_client : List ℕ
  pub between : Link
  pub from_server : List ℕ
  pub client : Link
  pub server : Link

abbrev pub nonces_of : Link → Link → Caller → Caller → List ℕ → List ℕ → Nonces
nonces_of client server c s b1 b2 =
    let first = nonce_buffer client c.drawn c.told b1 in
    let got1 = receive_of server first s.heard in
    let second = nonce_buffer got1.link s.drawn s.told b2 in
    let got2 = receive_of (nonce_step client c.drawn c.told (length b1)).link second c.heard in
    record {
      from_client = body_of first got1.answer;
      between = got1.link;
      from_server = body_of second got2.answer;
      client = got2.link;
      server = (nonce_step got1.link s.drawn s.told (length b2)).link;
    }

-- ---- what a driver gives to the derivation, beside direction, key and buffer

pub record Known : Type 0 where
  pub version : ℕ
  pub ends : Ends
  pub shared : List ℕ

-- the derivation for a direction, with this key, into the buffer b
abbrev pub derived_by : Known → Bool → List ℕ → List ℕ → Result Derived Refusal
derived_by k from_server key b = derived k.version from_server k.ends key k.shared b

-- its answer alone, without key and vector
abbrev pub answer_of : Result Derived Refusal → Result ℕ Refusal
answer_of (Ok d) = Ok d.size
answer_of (Err k) = Err k

-- what a driver has of it: of one that is refused, zeros
abbrev pub kept_of : Result Derived Refusal → Derived
kept_of (Ok d) = d
kept_of (Err k) = record { size = 0; key = replicate 32 0; vector = replicate 16 0 }

-- the addresses of client and server
pub record Addresses : Type 0 where
  pub client : Address
  pub server : Address

-- the client's: the version in the server's Nonce, and what its card makes of the point there
abbrev pub client_knows : Caller → Nonces → Addresses → (List ℕ → List ℕ) → Known
client_knows c n a card =
    record {
      version = version_by (nonce_of n.from_server);
      ends = record {
        client = own_end c.drawn c.told a.client;
        server = read_end n.from_server a.server;
      };
      shared = card (point_by (nonce_of n.from_server) n.from_server);
    }

-- the server's: the version that it writes, and what its card makes of the point in the client's Nonce
abbrev pub server_knows : Caller → Nonces → Addresses → (List ℕ → List ℕ) → Known
server_knows s n a card =
    record {
      version = version_of n.between;
      ends = record {
        client = read_end n.from_client a.client;
        server = own_end s.drawn s.told a.server;
      };
      shared = card (point_by (nonce_of n.from_client) n.from_client);
    }
