-- Two links that open against each other, with nothing lost between them (document 01, "Opening"). Each packet is a
-- send call of one link on a buffer of its own, then a receive call of the other on that whole buffer: whatever the
-- call left in it, and whatever stands behind the packet. Assumes nothing.
use Rattle.std.specs.Prelude.{ℕ, ◌+◌, ◌≤◌, ◌<◌, ◌^◌, ◌≡◌, Bool, true, false, not, ◌&&◌, ◌||◌, List, [], ◌∷◌, length, get_or, Result}
use Rattle.wire.specs.Choice.{pick}
use Rattle.link_state.specs.declared.Link.{Link}
use Rattle.link_state.specs.declared.Settings.{Settings}
use Rattle.link_state.specs.declared.Moment.{Moment}
use Rattle.link_state.specs.SetUp.{fresh_of}
use Rattle.packet.specs.declared.Arrival.{Arrival}
use Rattle.link.specs.Receive.{receive_of}
use Rattle.nonce_out.specs.Nonce.{nonce_step, nonce_buffer}
use Rattle.nonce_out.specs.declared.Drawn.{Drawn}
use Rattle.handshake_out.specs.Handshake.{handshake_step, handshake_buffer}
use Rattle.handshake_in.specs.declared.NetPid.{NetPid}
use Rattle.refusal.specs.declared.Refusal.{Refusal}

-- how a link is set up, but for its side
pub record Choices : Type 0 where
  pub allows : Bool
  pub lowest : ℕ
  pub padded : Bool
  pub cipher : Bool
  pub only : Bool
  pub keyid : ℕ

-- the settings of such a server, or client, and the link as set-up makes it
abbrev pub settings_of : Bool → Choices → Settings
settings_of server x =
    record {
      server = server;
      allows = x.allows;
      lowest = x.lowest;
      padded = x.padded;
      cipher = x.cipher;
      only = x.only;
    }

abbrev pub made_of : Bool → Choices → Link
made_of server x = fresh_of (settings_of server x) x.keyid

-- two sides choose the cipher where both have it
abbrev pub both_of : Choices → Choices → Bool
both_of x y = x.cipher && y.cipher

-- what is asked of a client and a server, so that neither answers 9 or 24: a side that is cipher only meets one that
-- has the cipher; where both have it, their KeyIDs are the same; and both are padded, by hand or by the cipher, or
-- neither is
pub record Meet (x y : Choices) : Type 0 where
  pub client_lowest : x.lowest ≤ 2
  pub server_lowest : y.lowest ≤ 2
  pub client_not_alone : (x.cipher && (x.only && not y.cipher)) ≡ false
  pub server_not_alone : (y.cipher && (y.only && not x.cipher)) ≡ false
  pub same_key : both_of x y ≡ true → x.keyid ≡ y.keyid
  pub same_profile : (x.padded || both_of x y) ≡ (y.padded || both_of x y)
  pub client_key : x.keyid < 2 ^ 32
  pub server_key : y.keyid < 2 ^ 32

-- a link somewhere in its opening, with no Ping
abbrev pub during : Settings → ℕ → Bool → Bool → ℕ → ℕ → ℕ → ℕ → ℕ → Link
during set keyid ciphered crc version stage phase sends gets =
    record {
      set = set;
      closed = false;
      crc32c = crc;
      version = version;
      stage = stage;
      phase = phase;
      awaits = false;
      owes = false;
      ciphered = ciphered;
      keyid = keyid;
      sends = sends;
      gets = gets;
      awaited = 0;
      owed = 0;
    }

-- a link after its opening with no other packet: ciphered or not, agreed on CRC-32C or not; on a padded link the 44
-- bytes of its Handshake are three words modulo 4
abbrev pub open_of : Bool → Choices → Bool → Bool → Link
open_of server x ciphered agreed =
    during (settings_of server x) x.keyid ciphered agreed 2 4 (pick (x.padded || ciphered) 3 0) 0 0

-- what one side's caller gives: its clock when it sends its Nonce and when the other's comes, what it draws for its
-- Nonce, its NetPID
pub record Caller : Type 0 where
  pub told : Moment
  pub heard : Moment
  pub drawn : Drawn
  pub pid : NetPid

-- what is asked of the callers: clocks of 32 bits, at most 30 apart from a Nonce's sending to its receipt, 16 random
-- bytes and a point of 32 each, and room in the buffers
pub record Able (c s : Caller) (b1 b2 b3 b4 : List ℕ) : Type 0 where
  pub client_clock : c.told.time < 2 ^ 32
  pub server_clock : s.told.time < 2 ^ 32
  pub client_not_ahead : c.told.time ≤ s.heard.time + 30
  pub client_not_behind : s.heard.time ≤ c.told.time + 30
  pub server_not_ahead : s.told.time ≤ c.heard.time + 30
  pub server_not_behind : c.heard.time ≤ s.told.time + 30
  pub client_random : length c.drawn.random ≡ 16
  pub client_bytes : (i : ℕ) → get_or c.drawn.random i 0 < 256
  pub client_point : length c.drawn.point ≡ 32
  pub client_point_bytes : (i : ℕ) → get_or c.drawn.point i 0 < 256
  pub server_random : length s.drawn.random ≡ 16
  pub server_bytes : (i : ℕ) → get_or s.drawn.random i 0 < 256
  pub server_point : length s.drawn.point ≡ 32
  pub server_point_bytes : (i : ℕ) → get_or s.drawn.point i 0 < 256
  pub room1 : 76 ≤ length b1
  pub room2 : 76 ≤ length b2
  pub room3 : 44 ≤ length b3
  pub room4 : 44 ≤ length b4

-- the two links after the opening, what the four send calls answered, and the four receive calls
pub record Opened : Type 0 where
  pub client : Link
  pub server : Link
  pub sent : List (Result ℕ Refusal)
  pub received : List (Result Arrival Refusal)

-- "client Nonce, server Nonce, client Handshake, server Handshake", in the buffers b1, b2, b3, b4; the clocks m3, m4
-- at the receipt of the Handshakes are any
unfoldable pub opens : Link → Link → Caller → Caller → List ℕ → List ℕ → List ℕ → List ℕ → Moment → Moment → Opened
opens client server c s b1 b2 b3 b4 m3 m4 =
    let sent1 = nonce_step client c.drawn c.told (length b1) in
    let got1 = receive_of server (nonce_buffer client c.drawn c.told b1) s.heard in
    let sent2 = nonce_step got1.link s.drawn s.told (length b2) in
    let got2 = receive_of sent1.link (nonce_buffer got1.link s.drawn s.told b2) c.heard in
    let sent3 = handshake_step got2.link c.pid s.pid (length b3) in
    let got3 = receive_of sent2.link (handshake_buffer got2.link c.pid s.pid b3) m3 in
    let sent4 = handshake_step got3.link s.pid c.pid (length b4) in
    let got4 = receive_of sent3.link (handshake_buffer got3.link s.pid c.pid b4) m4 in
    record {
      client = got4.link;
      server = sent4.link;
      sent = sent1.answer ∷ sent2.answer ∷ sent3.answer ∷ sent4.answer ∷ [];
      received = got1.answer ∷ got2.answer ∷ got3.answer ∷ got4.answer ∷ [];
    }
