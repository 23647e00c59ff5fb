-- A whole exchange of two links of ours: Nonces in clear, Handshakes enciphered, each with a flush behind it, then any
-- turns (document 01, "Opening"; document 02, A9). Assumes nothing.
use Rattle.std.specs.Prelude.{◌≡◌, true, false, ◌&&◌, List, [], ◌∷◌, ℕ, length}
use Rattle.wire.specs.Choice.{pick}
use Rattle.aes.specs.Aes.{keys}
use Rattle.aes.specs.Back.{back_keys}
use Rattle.cipher_laws.specs.Sizes.{Sized}
use Rattle.link_state.specs.declared.Link.{Link}
use Rattle.link_state.specs.declared.Moment.{Moment}
use Rattle.handshake_in.specs.declared.NetPid.{NetPid}
use Rattle.handshake_out.specs.Handshake.{handshake_body, handshake_step, handshake_buffer}
use Rattle.pair.specs.Opens.{Choices, Caller}
use Rattle.cipher_choice.specs.Derives.{nonces_of, Known, derived_by, kept_of}
use Rattle.cipher_talk.specs.Drain.{Got, control}
use Rattle.cipher_talk.specs.Ends.{End, front, Wrote, sealed, Out, Cut, cut_by, In, all_in, Turn, heard_in, meant_in}

-- the AES keys and vectors of what the client sends (1) and of what the server sends (2), as an end holds them
pub record Secret : Type 0 where
  pub key1 : List ℕ
  pub vector1 : List ℕ
  pub key2 : List ℕ
  pub vector2 : List ℕ

pub record Suited (k : Secret) : Type 0 where
  pub first_key : Sized 32 k.key1
  pub first_vector : Sized 16 k.vector1
  pub second_key : Sized 32 k.key2
  pub second_vector : Sized 16 k.vector2

-- as a driver that knows so derives them with this key, into the buffer b
abbrev pub secret_of : Known → List ℕ → List ℕ → Secret
secret_of k key b =
    record {
      key1 = (kept_of (derived_by k false key b)).key;
      vector1 = (kept_of (derived_by k false key b)).vector;
      key2 = (kept_of (derived_by k true key b)).key;
      vector2 = (kept_of (derived_by k true key b)).vector;
    }

-- the ends when the cipher begins, with no bytes left
abbrev pub client_end : Link → Secret → End
client_end l k =
    record {
      link = l;
      outward = record { keys = keys k.key1; vector = k.vector1 };
      inward = record { keys = back_keys (keys k.key2); vector = k.vector2 };
      held = [];
    }

abbrev pub server_end : Link → Secret → End
server_end l k =
    record {
      link = l;
      outward = record { keys = keys k.key2; vector = k.vector2 };
      inward = record { keys = back_keys (keys k.key1); vector = k.vector1 };
      held = [];
    }

-- ---- a Handshake

-- the buffers for it and for the flush behind it, how the bytes are cut on their way, and the receiver's clocks
pub record Way : Type 0 where
  pub buffer : List ℕ
  pub room : List ℕ
  pub cuts : List Cut
  pub last : Moment

abbrev pub greets : Link → NetPid → NetPid → List ℕ → Wrote
greets l p q b =
    record {
      link = (handshake_step l p q (length b)).link;
      bytes = front (handshake_step l p q (length b)).answer (handshake_buffer l p q b);
    }

-- its sender, and what comes of it at the other end
abbrev pub greet_out : End → NetPid → NetPid → Way → Out
greet_out e p q w = sealed e (greets e.link p q w.buffer) w.room

abbrev pub greet_in : End → Out → Way → In
greet_in f o w = all_in f (cut_by w.cuts w.last o.bytes)

-- ---- all of it

-- what the server got of the client's Handshake, and the client of the server's; what was heard in the turns after
-- them, in which the client is the first end, and what was meant
pub record Exchanged : Type 0 where
  pub server : List Got
  pub client : List Got
  pub heard : List Got
  pub meant : List Got

-- from the Nonces on, of the client's end a and the server's b
unfoldable pub greeted : End → End → Caller → Caller → Way → Way → List Turn → Exchanged
greeted a b c s w3 w4 ts =
    let out3 = greet_out a c.pid s.pid w3 in
    let in3 = greet_in b out3 w3 in
    let out4 = greet_out in3.end s.pid c.pid w4 in
    let in4 = greet_in out3.end out4 w4 in
    record {
      server = in3.got;
      client = in4.got;
      heard = heard_in in4.end out4.end ts;
      meant = meant_in in4.end out4.end ts;
    }

-- the Nonces in the buffers b1 and b2; after them the client holds kc, and the server ks
unfoldable pub exchange_of : Link → Link → Caller → Caller → List ℕ → List ℕ → Secret → Secret → Way → Way → List Turn
    → Exchanged
exchange_of client server c s b1 b2 kc ks w3 w4 ts =
    let n = nonces_of client server c s b1 b2 in
    greeted (client_end n.client kc) (server_end n.server ks) c s w3 w4 ts

-- ---- what should come of it, with these settings of client and server

-- each Handshake is got, once and with nothing else: its flag, 0x800, is the client's offer, and the server's answer
-- to it; and what is heard is what was meant
pub record Heard (x y : Choices) (c s : Caller) (e : Exchanged) : Type 0 where
  pub server : e.server ≡ control 0x7682eef5 (handshake_body (pick x.allows 0x800 0) c.pid s.pid) ∷ []
  pub client : e.client
      ≡ control 0x7682eef5 (handshake_body (pick (y.allows && x.allows) 0x800 0) s.pid c.pid) ∷ []
  pub heard : e.heard ≡ e.meant
