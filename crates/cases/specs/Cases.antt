-- The starred cases of document 01, "On either side of a line", each in its words. Assumes nothing.
use Rattle.std.specs.Prelude.{ℕ, zero, suc, Bool, true, false, List, [], ◌∷◌, ◌++◌, pos, replicate, Some, None}
use Rattle.wire.specs.Bytes.{bytes}
use Rattle.link_state.specs.declared.Link.{Link}
use Rattle.link_state.specs.declared.Settings.{Settings}
use Rattle.link_state.specs.declared.Moment.{Moment}
use Rattle.link_state.specs.SetUp.{fresh_of}
use Rattle.packet_out.specs.Packet.{packet_of}
use Rattle.link.specs.Receive.{receive_of}
use Rattle.nonce_out.specs.Nonce.{nonce_body}
use Rattle.keep_alive_out.specs.KeepAlive.{ping_step}
use Rattle.header.specs.declared.Side.TheVariants.{Server}
use Rattle.text.specs.TextForm.{read_text}
use Rattle.message.specs.ReadMessage.{read_message}
use Rattle.message.specs.declared.Message.TheVariants as M
use Rattle.inflight.specs.declared.Table.{Table}
use Rattle.inflight.specs.Tables.{load_of, ask_of}
use Rattle.inflight.specs.Tables as Tables
use Rattle.inflight.specs.Calls.{Call, old_ask, cancel, table_at}
use Rattle.cases.specs.Outcome.{Outcome, refused, packet, number, text, means, loads, accepted, of_arrival, of_text, of_message, of_ask, Case}

-- a row: what our definitions give is what document 01 says
infixl 70 ◌is◌
abbrev ◌is◌ : Outcome → Outcome → Case
◌is◌ x y = record { ours = x; paper = y }

-- ---- links

-- the settings of a server, or of a client
abbrev pub side : Bool → Settings
side server = record { server = server; allows = false; lowest = 0; padded = false; cipher = false; only = false }

-- our clock
abbrev pub our : Moment
our = record { time = 1000 }

-- a link whose opening is over, with the next numbers of each direction
abbrev pub opened : Bool → ℕ → ℕ → Link
opened server sends gets =
    record {
      set = side server;
      closed = false;
      crc32c = false;
      version = 2;
      stage = 4;
      phase = 0;
      awaits = false;
      owes = false;
      ciphered = false;
      keyid = 0;
      sends = sends;
      gets = gets;
      awaited = 0;
      owed = 0;
    }

-- what a server answers before the opening, to these bytes
abbrev pub in_opening : List ℕ → Outcome
in_opening s = of_arrival (receive_of (fresh_of (side true) 0) s our).answer

-- the first packet of a client with this body
abbrev pub nonce : List ℕ → List ℕ
nonce body = packet_of (fresh_of (side false) 0) 0x7acb87aa body

-- a Nonce's body, with the client's time
abbrev pub timed : ℕ → List ℕ
timed time = nonce_body 0 0 2 time (replicate 16 0) (replicate 32 0)

-- what a server answers after the opening, to these bytes
abbrev pub after_opening : List ℕ → Outcome
after_opening s = of_arrival (receive_of (opened true 0 0) s our).answer

-- ---- messages

-- the text of document 004
abbrev pub example : List ℕ
example = 0x04 ∷ 0xed ∷ 0x48 ∷ 0x79 ∷ 0xa9 ∷ 0 ∷ 0 ∷ 0 ∷ []

-- query number 1
abbrev pub one : List ℕ
one = 1 ∷ 0 ∷ 0 ∷ 0 ∷ 0 ∷ 0 ∷ 0 ∷ 0 ∷ []

-- `bd aa 68 75`, actor 5
abbrev pub actor_five : List ℕ
actor_five = 0xbd ∷ 0xaa ∷ 0x68 ∷ 0x75 ∷ 5 ∷ 0 ∷ 0 ∷ 0 ∷ 0 ∷ 0 ∷ 0 ∷ 0 ∷ []

-- an invoke's body, read at the server
abbrev pub invoke : List ℕ → Outcome
invoke s = of_message s (read_message Server 0x2374df3d s)

-- ---- loads

-- n asks for publisher p, from link p, with the front numbers 1 to n
unfoldable pub asks : ℕ → ℕ → List Call
asks p zero = []
asks p (suc n) = asks p n ++ old_ask p (record { 0 = pos (suc n) }) p ∷ []

-- a table that was never used
abbrev pub zeros : Table
zeros =
    record {
      masks = replicate 9 0;
      numbers = replicate 136 (pos 0);
      places = replicate 128 0;
      order = replicate 64 0;
      times = replicate 65 0;
    }

-- 16 asks for the first publisher, 16 for the second, 12 for the third
abbrev pub filling : List Call
filling = asks 0 16 ++ (asks 1 16 ++ asks 2 12)

-- a fresh table that starts at 1, after those
unfoldable pub filled : Table
filled = table_at (Tables.fresh_of zeros (record { 0 = pos 1 })).table filling

-- the same, after 4 asks more for the fourth
unfoldable pub fuller : Table
fuller = table_at filled (asks 3 4)

-- an ask of link p for publisher p, with this front number
abbrev pub asked : Table → ℕ → ℕ → Outcome
asked t p n = of_ask (ask_of t p (record { 0 = pos n }) p 0 0).answer

-- the loads of the eight publishers in a table: the ones of their masks
abbrev pub loads_of : Table → Outcome
loads_of t =
    loads (
    load_of t.masks 0 ∷
    load_of t.masks 1 ∷
    load_of t.masks 2 ∷
    load_of t.masks 3 ∷
    load_of t.masks 4 ∷
    load_of t.masks 5 ∷
    load_of t.masks 6 ∷
    load_of t.masks 7 ∷
    []
    )

-- ---- the starred cases, in document 01's order and words

-- "Length 16 may pass": a packet with an empty body
unfoldable pub length16 : Case
length16 = after_opening (packet_of (opened false 0 0) 0x0b73429e []) is packet 0x0b73429e 16 12 0

-- "15 is 1"
unfoldable pub length15 : Case
length15 = after_opening (bytes 4 15) is refused 1

-- "1023 in the opening passes": a Nonce with bytes after, which are ignored
unfoldable pub length1023 : Case
length1023 = in_opening (nonce (timed 1000 ++ replicate 947 0)) is packet 0x7acb87aa 1023 12 1007

-- "1024 is 3"
unfoldable pub length1024 : Case
length1024 = in_opening (bytes 4 1024) is refused 3

-- "After number 4,294,967,295 comes 0": of what is sent
unfoldable pub number_sent : Case
number_sent = number (ping_step (opened false 4294967295 0) 9 24).link.sends is number 0

-- and of what is received
unfoldable pub number_received : Case
number_received = number (receive_of (opened true 0 4294967295) (packet_of (opened false 4294967295 0) 0x0b73429e []) our).link.gets is number 0

-- "Clock difference -30 and 30 pass"
unfoldable pub clock30_behind : Case
clock30_behind = in_opening (nonce (timed 970)) is packet 0x7acb87aa 76 12 60

unfoldable pub clock30_ahead : Case
clock30_ahead = in_opening (nonce (timed 1030)) is packet 0x7acb87aa 76 12 60

-- "31 is 8"
unfoldable pub clock31_ahead : Case
clock31_ahead = in_opening (nonce (timed 1031)) is refused 8

-- "Text `04 ed 48 79 a9 00 00 00` (004) has four bytes"
unfoldable pub text_example : Case
text_example = of_text example (read_text example 0) is text (0xed ∷ 0x48 ∷ 0x79 ∷ 0xa9 ∷ [])

-- "Invoke: number 1, `bd aa 68 75`, actor 5, no rest: actor 5, empty rest"
unfoldable pub actor_once : Case
actor_once =
    invoke (one ++ actor_five)
    is means (M.Invoke (record { number = pos 1; actor = Some (pos 5); timeout = None; tl2 = false; at = 20; len = 0 })) []

-- "The actor header twice: 13"
unfoldable pub actor_twice : Case
actor_twice = invoke (one ++ (actor_five ++ actor_five)) is refused 13

-- and already at its value, before its field
unfoldable pub actor_again : Case
actor_again = invoke (one ++ (actor_five ++ (0xbd ∷ 0xaa ∷ 0x68 ∷ 0x75 ∷ []))) is refused 13

-- "Loads 16, 16, 12, rest 0": the table has them
unfoldable pub loads_filled : Case
loads_filled = loads_of filled is loads (16 ∷ 16 ∷ 12 ∷ 0 ∷ 0 ∷ 0 ∷ 0 ∷ 0 ∷ [])

-- "an ask for the third is 33"
unfoldable pub third_refused : Case
third_refused = asked filled 2 13 is refused 33

-- "for the fourth is accepted"
unfoldable pub fourth_accepted : Case
fourth_accepted = asked filled 3 1 is accepted (pos 1)

-- "Load 16: 32"
unfoldable pub load16 : Case
load16 = asked filled 0 17 is refused 32

-- THE TABLE
unfoldable pub starred_cases : List Case
starred_cases =
    length16 ∷
    length15 ∷
    length1023 ∷
    length1024 ∷
    number_sent ∷
    number_received ∷
    clock30_behind ∷
    clock30_ahead ∷
    clock31_ahead ∷
    text_example ∷
    actor_once ∷
    actor_twice ∷
    actor_again ∷
    loads_filled ∷
    third_refused ∷
    fourth_accepted ∷
    load16 ∷
    []

-- ---- the cases on loads that are not starred, and the first of "Easy to get wrong"

-- "Same loads, the fourth at 4"
unfoldable pub loads_fuller : Case
loads_fuller = loads_of fuller is loads (16 ∷ 16 ∷ 12 ∷ 4 ∷ 0 ∷ 0 ∷ 0 ∷ 0 ∷ [])

-- "its fifth is 33"
unfoldable pub fifth_refused : Case
fifth_refused = asked fuller 3 5 is refused 33

-- "one cancel at the first, and it is accepted"
unfoldable pub fifth_accepted : Case
fifth_accepted = asked (table_at fuller (cancel 0 (record { 0 = pos 1 }) ∷ [])) 3 5 is accepted (pos 5)

-- "Looking for headers after the TL2 marker: TL2 bytes may equal a header by chance"
unfoldable pub marker_ends : Case
marker_ends =
    invoke (one ++ (0x54 ∷ 0x4c ∷ 0x32 ∷ 0x29 ∷ 0xbd ∷ 0xaa ∷ 0x68 ∷ 0x75 ∷ []))
    is means (M.Invoke (record { number = pos 1; actor = None; timeout = None; tl2 = true; at = 12; len = 4 })) (0xbd ∷ 0xaa ∷ 0x68 ∷ 0x75 ∷ [])

unfoldable pub other_cases : List Case
other_cases = loads_fuller ∷ fifth_refused ∷ fifth_accepted ∷ marker_ends ∷ []
