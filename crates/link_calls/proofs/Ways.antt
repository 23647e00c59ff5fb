-- The ways of a receive call, of a send call and of a flush call: what holds of each way holds of the call. Assumes
-- nothing.
use borrow.Author.Tests.{ltb-false}
use mathlib.Core.Path.{◌≡◌, refl}
use mathlib.Core.Bool.{Bool, true, false, not}
use mathlib.Core.List.{List}
use Prim.Native.Nat.{ℕ, ◌-◌, ◌*◌, ◌≤◌}
use lib.ListN.{length, take, drop}
use lib.Dec.{ltb, eqb}
use Rattle.wire.specs.Bytes.{le, part, bytes, within}
use Rattle.wire.specs.Choice.{pick}
use Rattle.wire.proofs.ChoiceLaws.{by_row}
use Rattle.link_state.specs.declared.Link.{Link}
use Rattle.link_state.specs.declared.Moment.{Moment}
use Rattle.link_state.specs.Turn.{may_send}
use Rattle.packet.specs.Sum.{sum_of}
use Rattle.packet.specs.Allowed.{allowed_of}
use Rattle.packet_padding.specs.Padding.{tail_of}
use Rattle.packet.specs.declared.Arrival.{Arrival}
use Rattle.packet.specs.declared.Arrival.TheVariants.{Incomplete, Packet}
use Rattle.packet_head.specs.Head.{check_length, check_head}
use Rattle.packet_head.specs.Words.{words_of}
use Rattle.packet_in.specs.Frame.{length_at, number_at, kind_at, whole_size, whole_of, rows_of, frame_of}
use Rattle.packet_out.specs.Size.{size_of, fits_of}
use Rattle.link.specs.Look.{check_turn, look_of}
use Rattle.link_next.specs.Next.{closed_of, closes_of, refused_of, after_of}
use Rattle.link.specs.Receive.{check_body, gives, refuse, packet_by, receive_by, receive_of}
use Rattle.link.specs.declared.Received.{Received}
use Rattle.send_rules.specs.Sent.{sent_of}
use Rattle.send_rules.specs.Control.{check_send, control_answer, step_by, control_step}
use Rattle.send_rules.specs.declared.Step.{Step}
use Rattle.nonce_out.specs.Nonce.{our_nonce, nonce_step}
use Rattle.nonce_out.specs.declared.Drawn.{Drawn}
use Rattle.handshake_out.specs.Handshake.{flags_of, handshake_body, handshake_step}
use Rattle.keep_alive_out.specs.KeepAlive.{ping_step, pong_step}
use Rattle.message_out.specs.Outgoing.{kind_of, body_of, wrong_way, number_zero, payload_misread}
use Rattle.message_out.specs.MessageStep.{message_answer, message_step}
use Rattle.message_out.specs.declared.Outgoing as O
use Rattle.send.specs.Send.{send_of}
use Rattle.send.specs.declared.ToSend.{ToSend}
use Rattle.send.specs.declared.ToSend.TheVariants.{Nonce, Handshake, Ping, Pong, Message}
use Rattle.flush.specs.Flush.{words_due, flush_answer, flushed_of, flush_by, flush_step}
use Rattle.link_calls.specs.Calls.{type_of}
use Rattle.std.specs.Prelude.{Err, Result, Ok, ⊤}
use Rattle.std.specs.Result.{result_and}
use Rattle.refusal.specs.declared.Refusal.TheVariants.{LengthOverLimit, PacketNumber, TypeNotAllowed, NumberZero, PayloadReadsAsHeader, BufferTooSmall, TypeNotRpc, LinkClosed, PingOutOfTurn, NotOurTurn}
use Rattle.refusal.specs.declared.Refusal.{Refusal}

-- an answer that a check comes before
pub by_check : {A : Type 0} (P : Result A Refusal → Type 0) (r : Result ⊤ Refusal) (x : Result A Refusal)
    → ((k : Refusal) → r ≡ Err k → P (Err k)) → (r ≡ Ok tt → P x) → P (result_and r x)
by_check P (Err k) x f g = f k refl
by_check P (Ok u) x f g = g refl

-- ---- receive: the link stays, is closed, or steps by a packet at the other side's turn, whose type is allowed and
-- whose body is not refused

-- a packet's type is allowed
abbrev pub May : Link → Result Arrival Refusal → Type 0
May l (Ok (Incomplete k)) = Unit {0}
May l (Ok (Packet kind consumed at len)) = allowed_of l kind ≡ true
May l (Err k) = Unit {0}

head-may : (l : Link) (number kind : ℕ) → check_head l number kind ≡ Ok tt → allowed_of l kind ≡ true
unfolding check_head
head-may l number kind = go (not (eqb number l.gets)) (allowed_of l kind)
  where
    go : (x y : Bool) → ◌≡◌ {A = Result ⊤ Refusal} (pick x (Err PacketNumber) (pick (not y) (Err TypeNotAllowed) (Ok tt))) (Ok tt) → y ≡ true
    go x true e = refl
    go true false e = cc
    go false false e = cc

module _ (l : Link) where
  whole-may : (s : List ℕ) (kind size zeros before : ℕ) → allowed_of l kind ≡ true
      → May l (whole_of l s kind size zeros before)
  unfolding whole_of
  whole-may s kind size zeros before h =
      by_row (May l) (not (eqb (le (part s (size - 4) 4)) (sum_of l (take (size - 4) s)))) _ _ (λ _. tt) (λ _.
      by_row (May l) (not (eqb (le (part s size zeros)) 0)) _ _ (λ _. tt) (λ _. h))

  rows-may : (s : List ℕ) (before : ℕ) → May l (rows_of l s before)
  unfolding rows_of
  rows-may s before =
      by_row (May l) (ltb (length s) 4) _ _ (λ _. tt) (λ _.
      by_check (May l) (check_length l (length_at s)) _ (λ k _. tt) (λ _.
      by_row (May l) (ltb (length s) 12) _ _ (λ _. tt) (λ _.
      by_check (May l) (check_head l (number_at s) (kind_at s)) _ (λ k _. tt) (λ e.
      by_row (May l) (ltb (length s) (whole_size l s)) _ _ (λ _. tt) (λ _.
      whole-may s (kind_at s) (length_at s) (tail_of l (length_at s)) before
      (head-may l (number_at s) (kind_at s) e))))))

  frame-may : (s : List ℕ) → May l (frame_of l s)
  unfolding frame_of
  frame-may s =
      by_row (May l) (eqb (words_of l s) 4) _ _ (λ _. tt) (λ _. rows-may (drop (words_of l s * 4) s) (words_of l s * 4))

-- what holds after a refusal, and after a packet whose body is not refused, holds after the call
module _ (l : Link) (s : List ℕ) (m : Moment) (P : Received → Type 0) (kind consumed at len : ℕ) where
  abbrev body : List ℕ
  body = within s at len

  pub by-body : ((k : Refusal) → P (refuse l k))
      → (check_body l kind body m ≡ Ok tt → P (gives (after_of l kind body m) (Ok (Packet kind consumed at len))))
      → P (receive_by l s m (Ok (Packet kind consumed at len)))
  by-body x y = go (check_body l kind body m) refl
    where
      go : (r : Result ⊤ Refusal) → check_body l kind body m ≡ r
          → P (packet_by l (after_of l kind body m) (Packet kind consumed at len) r)
      go (Err k) e = x k
      go (Ok u) e = y e

module _ (P : Link → Type 0) (l : Link) (s : List ℕ) (m : Moment) (stays : P l) (shut : P (closed_of l))
    (steps : check_turn l ≡ Ok tt → (kind : ℕ) (b : List ℕ) → allowed_of l kind ≡ true
    → check_body l kind b m ≡ Ok tt → P (after_of l kind b m)) where
  refused : (k : Refusal) → P (refused_of l k)
  unfolding refused_of
  refused k = by_row P (closes_of k) (closed_of l) l (λ _. shut) (λ _. stays)

  pub receive-ways : P (receive_of l s m).link
  unfolding receive_of look_of
  receive-ways = go (check_turn l) refl
    where
      by-frame : check_turn l ≡ Ok tt → (a : Result Arrival Refusal) → May l a → P (receive_by l s m a).link
      by-frame e (Ok (Incomplete k)) may = stays
      by-frame e (Err k) may = refused k
      by-frame e (Ok (Packet kind consumed at len)) may =
          by-body l s m (λ (r : Received). P r.link) kind consumed at len refused
          (steps e kind (within s at len) may)

      go : (r : Result ⊤ Refusal) → check_turn l ≡ r → P (receive_by l s m (result_and r (frame_of l s))).link
      go (Err k) e = refused k
      go (Ok u) e = by-frame e (frame_of l s) (frame-may l s)

-- ---- send: it is refused and nothing changes, or the link steps by a packet at our own turn, of a type that is
-- allowed

-- what no refusal before the body says
pub may-go : (l : Link) (kind : ℕ) (busy : Bool) → check_send l kind busy ≡ Ok tt
    → (may_send l.set.server l.stage ≡ true) × (allowed_of l kind ≡ true)
unfolding check_send
may-go l kind busy e = go l.closed (may_send l.set.server l.stage) (allowed_of l kind) busy e
  where
    go : (c t a b : Bool)
        → ◌≡◌ {A = Result ⊤ Refusal} (pick c (Err LinkClosed) (pick (not t) (Err NotOurTurn) (pick (not a) (Err TypeNotAllowed) (pick b (Err PingOutOfTurn) (Ok tt))))) (Ok tt)
        → (t ≡ true) × (a ≡ true)
    go true t a b h = (cc, cc)
    go false false a b h = (cc, cc)
    go false true false b h = (cc, cc)
    go false true true b h = (refl, refl)

module _ (P : Step → Type 0) (l : Link) (kind : ℕ)
    (stays : (k : Refusal) → P (record { link = l; answer = Err k }))
    (steps : (id len : ℕ) → may_send l.set.server l.stage ≡ true → allowed_of l kind ≡ true
    → P (record { link = sent_of l kind id (size_of l len); answer = Ok (size_of l len) })) where
  -- an answer, and the link after it
  abbrev Q : ℕ → Result ℕ Refusal → Type 0
  Q id a = P (step_by l kind id a)

  fits-ways : (id len room : ℕ) → may_send l.set.server l.stage ≡ true → allowed_of l kind ≡ true
      → Q id (fits_of l len room)
  unfolding fits_of
  fits-ways id len room t a =
      by_row (Q id) (ltb 16777199 len) _ _ (λ _. stays LengthOverLimit) λ _.
      by_row (Q id) (ltb room (size_of l len)) _ _ (λ _. stays BufferTooSmall) λ _. steps id len t a

  pub control-ways : (busy : Bool) (body : List ℕ) (id room : ℕ) → P (control_step l kind busy body id room)
  unfolding control_step control_answer
  control-ways busy body id room =
      by_check (Q id) (check_send l kind busy) _ (λ k _. stays k) λ e.
      let r = may-go l kind busy e in
      fits-ways id (length body) room r.0 r.1

module _ (P : Step → Type 0) (l : Link) (w : O.Outgoing) (p : List ℕ) (room : ℕ)
    (stays : (k : Refusal) → P (record { link = l; answer = Err k }))
    (steps : (id len : ℕ) → may_send l.set.server l.stage ≡ true → allowed_of l (kind_of w) ≡ true
    → P (record { link = sent_of l (kind_of w) id (size_of l len); answer = Ok (size_of l len) }))
  where
    pub message-ways : P (message_step l w p room)
    unfolding message_step message_answer
    message-ways =
        let R : Result ℕ Refusal → Type 0 = λ (a : Result ℕ Refusal). P (step_by l (kind_of w) 0 a) in
        by_check R (check_send l (kind_of w) false) _ (λ k _. stays k) λ e.
        by_row R (wrong_way l.set.server w) _ _ (λ _. stays TypeNotRpc) λ _.
        by_row R (number_zero w) _ _ (λ _. stays NumberZero) λ _.
        by_row R (payload_misread w p) _ _ (λ _. stays PayloadReadsAsHeader) λ _.
        let r = may-go l (kind_of w) false e in
        fits-ways P l (kind_of w) stays steps 0 (length (body_of w p)) room r.0 r.1

pub send-ways : (P : Step → Type 0) (l : Link) (what : ToSend) (p : List ℕ) (drawn : Drawn) (m : Moment) (room : ℕ)
    → ((k : Refusal) → P (record { link = l; answer = Err k }))
    → ((id len : ℕ) → may_send l.set.server l.stage ≡ true → allowed_of l (type_of what) ≡ true
    → P (record { link = sent_of l (type_of what) id (size_of l len); answer = Ok (size_of l len) }))
    → P (send_of l what p drawn m room)
unfolding send_of type_of nonce_step handshake_step ping_step pong_step
send-ways P l Nonce p drawn m room f g =
    control-ways P l 0x7acb87aa f g false (our_nonce l drawn m) 0 room
send-ways P l (Handshake sender peer) p drawn m room f g =
    control-ways P l 0x7682eef5 f g false (handshake_body (flags_of l) sender peer) 0 room
send-ways P l (Ping id) p drawn m room f g = control-ways P l 0x5730a2df f g l.awaits (bytes 8 id) id room
send-ways P l Pong p drawn m room f g = control-ways P l 0x8430eaa7 f g (not l.owes) (bytes 8 l.owed) 0 room
send-ways P l (Message w) p drawn m room f g = message-ways P l w p room f g

-- ---- flush: it is refused and nothing changes, or the words that are due are written and count

pub flush-ways : (P : Step → Type 0) (l : Link) (room : ℕ)
    → ((k : Refusal) → P (record { link = l; answer = Err k }))
    → (words_due l * 4 ≤ room
    → P (record { link = flushed_of l (words_due l * 4); answer = Ok (words_due l * 4) }))
    → P (flush_step l room)
unfolding flush_step flush_answer
flush-ways P l room stays writes =
    let Q : Result ℕ Refusal → Type 0 = λ (a : Result ℕ Refusal). P (flush_by l a) in
    by_row Q l.closed _ _ (λ _. stays LinkClosed) λ _.
    by_row Q (ltb room (words_due l * 4)) _ _ (λ _. stays BufferTooSmall) λ e. writes (ltb-false room (words_due l * 4) e)
