-- A Ping or a Pong of ours that a send call accepts is received by the peer, and the two links are alive after it, as they
-- are after a packet of another type; and two fresh links that open come to this. Assumes nothing.
use native.Mathlib.Omega.{arith}
use borrow.Author.Tests.{eq-eqb, not-false}
use mathlib.Core.Path.{◌≡◌, refl, sym, ◌∙◌}
use mathlib.Core.Bool.{Bool, true, false, not, ◌&&◌, false≢true}
use mathlib.Core.List.{List}
use Prim.Native.Nat.{ℕ, ◌<◌, ◌^◌}
use lib.ListN.{length}
use lib.Dec.{eqb, lit<, lit≤}
use Rattle.wire.specs.Bytes.{bytes}
use Rattle.wire.specs.Choice.{pick}
use Rattle.wire.proofs.ByteLaws.{length-bytes}
use Rattle.link_state.specs.declared.Link.{Link}
use Rattle.link_state.specs.declared.Moment.{Moment}
use Rattle.link_state.specs.Turn.{may_send}
use Rattle.packet.specs.Allowed.{allowed_of}
use Rattle.packet.specs.declared.Arrival.TheVariants.{Packet}
use Rattle.packet_out.specs.Size.{size_of, fits_of}
use Rattle.link_next.specs.KeepAlive.{check_ping, check_pong, awaits_after, owes_after, owed_after}
use Rattle.link_next.specs.Next.{after_of}
use Rattle.link.specs.Receive.{check_body, gives, receive_of}
use Rattle.send_rules.specs.Sent.{awaits_sent, awaited_sent, owes_sent, sent_of}
use Rattle.send_rules.specs.Control.{check_send, control_answer}
use Rattle.keep_alive_out.specs.KeepAlive.{ping_buffer, pong_buffer}
use Rattle.pair.specs.Opens.{Choices, made_of, both_of, Meet, open_of, Caller, Able, Opened, opens}
use Rattle.pair.specs.KeepAlive.{Owing, Alive}
use Rattle.pair.proofs.SumLaws.{small_bytes}
use Rattle.pair.proofs.SentReceived.{sent-received}
use Rattle.pair.proofs.StepAlike.{stays, awaits-again, awaits-still}
use Rattle.pair.proofs.KeepAlive.{id-read, length-24, ping-allowed, pong-allowed}
use Rattle.pair.proofs.Opening.{opened, each-awaits}
use Rattle.std.specs.Prelude.{Err, Ok, ⊤}
use Rattle.refusal.specs.declared.Refusal.TheVariants.{LinkClosed, NotOurTurn, TypeNotAllowed, PingOutOfTurn}
use Rattle.std.specs.Result.{result_and}

-- ---- a send that is accepted was in turn

not-busy : (l : Link) (kind : ℕ) (busy : Bool) (len room n : ℕ) → control_answer l kind busy len room ≡ Ok n → busy ≡ false
unfolding control_answer check_send
not-busy l kind busy len room n e = go l.closed (not (may_send l.set.server l.stage)) (not (allowed_of l kind)) busy e
  where
    go : (c s a b : Bool)
        → result_and {T = ⊤} (pick c (Err LinkClosed) (pick s (Err NotOurTurn) (pick a (Err TypeNotAllowed) (pick b (Err PingOutOfTurn) (Ok tt)))))
        (fits_of l len room) ≡ Ok n
        → b ≡ false
    go c s a false h = refl
    go true s a true h = cc
    go false true a true h = cc
    go false false true true h = cc
    go false false false true h = cc

-- ---- what a packet leaves of the two

owing-by : (l k l2 k2 : Link) → k2.owes ≡ k.owes → k2.owed ≡ k.owed → l2.awaits ≡ l.awaits → l2.awaited ≡ l.awaited → Owing l k → Owing l2 k2
owing-by l k l2 k2 a b c d o =
    record {
      turn = a ∙ (o.turn ∙ sym c);
      id = λ q. d ∙ (o.id (sym c ∙ q) ∙ sym b);
      fits = rw b o.fits;
    }

module _ (l k : Link) (a : Alive l k) (m : Moment) where
  -- but for what they owe, they are as before
  alive-by : (kind id n : ℕ) (body : List ℕ) → allowed_of k kind ≡ true
      → Owing (sent_of l kind id n) (after_of k kind body m) → Owing (after_of k kind body m) (sent_of l kind id n)
      → Alive (sent_of l kind id n) (after_of k kind body m)
  unfolding sent_of after_of
  alive-by kind id n body may there back =
      record {
        there = awaits-again k l a.open_k a.open_l kind id n body m may a.there;
        back = awaits-still k l a.open_k a.open_l kind id n body m may a.back;
        open_l = rw (stays l.stage a.open_l) a.open_l;
        open_k = rw (stays k.stage a.open_k) a.open_k;
        number_l = omega arith;
        number_k = a.number_k;
        owing_k = there;
        owing_l = back;
      }

  -- a packet of another type leaves what they owe
  pub alive-after-message : (kind n : ℕ) (body : List ℕ) → allowed_of k kind ≡ true → eqb kind 0x5730a2df ≡ false → eqb kind 0x8430eaa7 ≡ false
      → Alive (sent_of l kind 0 n) (after_of k kind body m)
  unfolding sent_of after_of awaits_sent awaited_sent owes_sent awaits_after owes_after owed_after
  alive-after-message kind n body may no_ping no-pong =
      alive-by kind 0 n body may
      (owing-by l k (sent_of l kind 0 n) (after_of k kind body m) (rw no_ping) (rw no_ping) (rw no_ping) (rw no_ping) a.owing_k)
      (owing-by k l (after_of k kind body m) (sent_of l kind 0 n) (rw no-pong) refl (rw no-pong) refl a.owing_l)

  -- a Ping that is written is received
  module _ (id : ℕ) (fits : id < 2 ^ 64) (b : List ℕ) (n : ℕ)
      (e : control_answer l 0x5730a2df l.awaits (length (bytes 8 id)) (length b) ≡ Ok n) where
    pub ping-arrives : receive_of k (ping_buffer l id b) m
        ≡ gives (after_of k 0x5730a2df (bytes 8 id) m) (Ok (Packet 0x5730a2df (size_of l (length (bytes 8 id))) 12 (length (bytes 8 id))))
    unfolding ping_buffer check_body check_ping
    ping-arrives =
        let free : k.owes ≡ false = a.owing_k.turn ∙ not-busy l 0x5730a2df l.awaits (length (bytes 8 id)) (length b) n e in
        let eight : length (bytes 8 id) ≡ 8 = length-bytes 8 id in
        sent-received l 0x5730a2df l.awaits (bytes 8 id) b k n e a.there (length-24 k a.open_k id)
        (ping-allowed k a.open_k) a.number_l (omega arith) (lit< tt) (small_bytes 8 id) m (simp (eight, free))

    pub alive-after-ping : Alive (sent_of l 0x5730a2df id n) (after_of k 0x5730a2df (bytes 8 id) m)
    unfolding sent_of after_of awaits_sent awaited_sent owes_sent awaits_after owes_after owed_after
    alive-after-ping =
        alive-by 0x5730a2df id n (bytes 8 id) (ping-allowed k a.open_k)
        (record { turn = refl; id = λ q. sym (id-read id fits); fits = rw (id-read id fits) fits })
        (owing-by k l (after_of k 0x5730a2df (bytes 8 id) m) (sent_of l 0x5730a2df id n) refl refl refl refl a.owing_l)

  -- and so is a Pong
  module _ (b : List ℕ) (n : ℕ)
      (e : control_answer l 0x8430eaa7 (not l.owes) (length (bytes 8 l.owed)) (length b) ≡ Ok n) where
    pub pong-arrives : receive_of k (pong_buffer l b) m
        ≡ gives (after_of k 0x8430eaa7 (bytes 8 l.owed) m) (Ok (Packet 0x8430eaa7 (size_of l (length (bytes 8 l.owed))) 12 (length (bytes 8 l.owed))))
    unfolding pong_buffer check_body check_pong
    pong-arrives =
        let owes : l.owes ≡ true = not-false l.owes (not-busy l 0x8430eaa7 (not l.owes) (length (bytes 8 l.owed)) (length b) n e) in
        let waits : k.awaits ≡ true = sym a.owing_l.turn ∙ owes in
        let same : k.awaited ≡ l.owed = a.owing_l.id waits in
        let eight : length (bytes 8 l.owed) ≡ 8 = length-bytes 8 l.owed in
        sent-received l 0x8430eaa7 (not l.owes) (bytes 8 l.owed) b k n e a.there (length-24 k a.open_k l.owed)
        (pong-allowed k a.open_k) a.number_l (omega arith) (lit< tt) (small_bytes 8 l.owed) m (simp (eight, waits, id-read l.owed a.owing_l.fits, same, eq-eqb l.owed l.owed refl))

    pub alive-after-pong : Alive (sent_of l 0x8430eaa7 0 n) (after_of k 0x8430eaa7 (bytes 8 l.owed) m)
    unfolding sent_of after_of awaits_sent awaited_sent owes_sent awaits_after owes_after owed_after
    alive-after-pong =
        alive-by 0x8430eaa7 0 n (bytes 8 l.owed) (pong-allowed k a.open_k)
        (owing-by l k (sent_of l 0x8430eaa7 0 n) (after_of k 0x8430eaa7 (bytes 8 l.owed) m) refl refl refl refl a.owing_k)
        (record { turn = refl; id = λ q. absurd (false≢true q); fits = a.owing_l.fits })

-- the two, seen from the other side
pub flipped : (l k : Link) → Alive l k → Alive k l
flipped l k a =
    record {
      there = a.back;
      back = a.there;
      open_l = a.open_k;
      open_k = a.open_l;
      number_l = a.number_k;
      number_k = a.number_l;
      owing_k = a.owing_l;
      owing_l = a.owing_k;
    }

-- ---- from the opening on

module _ (x y : Choices) (meet : Meet x y) (c s : Caller) (b1 b2 b3 b4 : List ℕ) (m3 m4 : Moment) (g : Able c s b1 b2 b3 b4) where
  -- the exchange of a fresh client and a fresh server
  abbrev o : Opened
  o = opens (made_of false x) (made_of true y) c s b1 b2 b3 b4 m3 m4

  abbrev client-is : o.client ≡ open_of false x (both_of x y) (x.allows && y.allows)
  client-is = (opened x y meet c s b1 b2 b3 b4 m3 m4 g).0

  abbrev server-is : o.server ≡ open_of true y (both_of x y) (x.allows && y.allows)
  server-is = (opened x y meet c s b1 b2 b3 b4 m3 m4 g).1

  -- two fresh links that open are alive, and neither awaits a Pong
  pub alive-after-opening : Alive o.client o.server × ((o.client.awaits ≡ false) × (o.server.awaits ≡ false))
  alive-after-opening = (
    record {
      there = (each-awaits x y meet c s b1 b2 b3 b4 m3 m4 g).1;
      back = (each-awaits x y meet c s b1 b2 b3 b4 m3 m4 g).0;
      open_l = rw client-is (lit≤ tt);
      open_k = rw server-is (lit≤ tt);
      number_l = rw client-is (lit< tt);
      number_k = rw server-is (lit< tt);
      owing_k = rw (client-is, server-is) (record { turn = refl; id = λ q. refl; fits = lit< tt });
      owing_l = rw (client-is, server-is) (record { turn = refl; id = λ q. refl; fits = lit< tt });
    },
    (rw client-is, rw server-is),
  )
