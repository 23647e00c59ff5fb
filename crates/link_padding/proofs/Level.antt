-- What any calls on a link leave that is padded then, by hand or by the cipher: the link's count is that of the bytes
-- since the first byte of our Handshake, so that after a flush they are whole blocks; and flushes write few words.
-- Assumes nothing.
use native.Mathlib.Omega.{arith}
use borrow.Author.Tests.{eqb-true, ltb-true, lt-leb}
use mathlib.Core.Path.{◌≡◌, refl, ap, sym, ◌∙◌}
use mathlib.Core.Bool.{Bool, true, false, not, ◌&&◌, ◌||◌}
use mathlib.Core.List.{List, [], ◌∷◌}
use Prim.Native.Nat.{ℕ, ◌+◌, ◌*◌, ◌/◌, ◌%◌, ◌≤◌, ◌<◌}
use lib.Dec.{ltb, leb, eqb}
use Rattle.wire.specs.Choice.{pick}
use Rattle.link_state.specs.declared.Link.{Link}
use Rattle.link_state.specs.declared.Settings.{Settings}
use Rattle.link_state.specs.declared.Moment.{Moment}
use Rattle.link_state.specs.SetUp.{fresh_of}
use Rattle.link_state.specs.Turn.{may_send, stage_after}
use Rattle.packet.specs.Allowed.{allowed_of}
use Rattle.packet_padding.specs.Padding.{padded_of, pads_of, phase_after}
use Rattle.packet_out.specs.Size.{size_of}
use Rattle.link.specs.Look.{check_turn}
use Rattle.link_next.specs.Next.{closed_of, ciphered_after, after_of}
use Rattle.send_rules.specs.Sent.{sent_of}
use Rattle.send_rules.specs.declared.Step.{Step}
use Rattle.nonce_out.specs.declared.Drawn.{Drawn}
use Rattle.send.specs.Send.{send_of}
use Rattle.send.specs.declared.ToSend.{ToSend}
use Rattle.flush.specs.Flush.{begun_of, words_due, flushed_of, flush_step}
use Rattle.link_calls.specs.Calls.{Call, receives, sends, flushes, type_of, after_calls}
use Rattle.link_calls.proofs.Ways.{receive-ways, send-ways, flush-ways}
use Rattle.link_padding.specs.Tally.{Tally, wrote, called, after, start, Quiet}
use Rattle.link_padding.proofs.Stages.{from, kept, counts, shows}
use Rattle.link_padding.proofs.Counts.{flush-size, Holds, by-send, by-flush, due-is, level-at, near-at}
use Rattle.std.specs.Prelude.{Err, Result, Ok, ⊤}
use Rattle.refusal.specs.declared.Refusal.{Refusal}
use Rattle.refusal.specs.declared.Refusal.TheVariants.{LinkClosed, NotOurTurn}

wrote-link : (t : Tally) (hand : Bool) (l : Link) (a : Result ℕ Refusal) → (wrote t hand l a).link ≡ l
wrote-link t hand l (Ok n) = refl
wrote-link t hand l (Err k) = refl

-- ---- what holds after any calls: of every link, and more of one that is padded

record Always (set : Settings) (t : Tally) : Type 0 where
  same : t.link.set ≡ set
  begins : t.begun ≡ begun_of t.link
  early : t.begun ≡ false → t.bytes ≡ 0
  still : t.begun ≡ false → t.link.phase ≡ 0
  counts-if : padded_of t.link ≡ true → Holds set t

-- what holds of a padded link holds of every link
of-padded : (set : Settings) (t : Tally) → Holds set t → Always set t
of-padded set t h =
    record {
      same = h.same;
      begins = h.begins;
      early = h.early;
      still = λ e. let z : t.bytes ≡ 0 = h.early e in omega (arith, h.phase);
      counts-if = λ p. h;
    }

-- none went out before
none : (h b : Bool) → pick h true b ≡ false → b ≡ false
none false false e = refl
none false true e = e
none true b e = let z : ◌≡◌ {A = ℕ} 0 1 = cc in absurd (omega arith)

module _ (set : Settings) (t : Tally) (i : Always set t) where
  abbrev l : Link
  l = t.link

  turn-of : check_turn l ≡ Ok tt → may_send (not l.set.server) l.stage ≡ true
  unfolding check_turn
  turn-of e = go l.closed (may_send (not l.set.server) l.stage) e
    where
      go : (c b : Bool) → ◌≡◌ {A = Result ⊤ Refusal} (pick c (Err LinkClosed) (pick (not b) (Err NotOurTurn) (Ok tt))) (Ok tt) → b ≡ true
      go true b h = cc
      go false false h = cc
      go false true h = refl

  -- a Nonce comes before our Handshake went out
  nonce-early : (kind : ℕ) → allowed_of l kind ≡ true → eqb kind 0x7acb87aa ≡ true → t.begun ≡ false
  unfolding allowed_of begun_of
  nonce-early kind may q = i.begins ∙ go (ltb l.stage 2) refl (ltb l.stage 4) (rw q at may)
    where
      low : (server : Bool) → l.stage < 2 → leb (from server) l.stage ≡ false
      low true h = lt-leb 4 l.stage (omega arith)
      low false h = lt-leb 3 l.stage (omega arith)

      go : (a : Bool) → ltb l.stage 2 ≡ a → (b : Bool) → pick a true (pick b (eqb kind 0x7682eef5) false) ≡ true
          → leb (from l.set.server) l.stage ≡ false
      go true p b e = low l.set.server (ltb-true l.stage 2 p)
      go false p true e = absurd (omega (arith, eqb-true kind 0x7acb87aa q, eqb-true kind 0x7682eef5 e))
      go false p false e = let z : ◌≡◌ {A = ℕ} 0 1 = cc in absurd (omega arith)

  -- the link that a packet leaves
  by-packet : (kind : ℕ) (b : List ℕ) (m : Moment) → check_turn l ≡ Ok tt → allowed_of l kind ≡ true
      → Always set (record { link = after_of l kind b m; begun = t.begun; bytes = t.bytes })
  unfolding after_of begun_of padded_of ciphered_after
  by-packet kind b m e may =
      record {
        same = i.same;
        begins = starts;
        early = i.early;
        still = i.still;
        counts-if = go (eqb kind 0x7acb87aa) refl;
      }
    where
      k : Link
      k = after_of l kind b m

      starts : t.begun ≡ leb (from l.set.server) (stage_after l.stage)
      starts = i.begins ∙ sym (kept l.set.server l.stage (turn-of e))

      go : (x : Bool) → eqb kind 0x7acb87aa ≡ x → padded_of k ≡ true
          → Holds set (record { link = k; begun = t.begun; bytes = t.bytes })
      go true q p =
          let early : t.begun ≡ false = nonce-early kind may q in
          let z : t.bytes ≡ 0 = i.early early in
          let f : l.phase ≡ 0 = i.still early in
          record {
            same = i.same;
            begins = starts;
            phase = omega arith;
            words = omega arith;
            early = i.early;
          }
      go false q p =
          let h : Holds set t = i.counts-if (rw q at p) in
          record { same = i.same; begins = starts; phase = h.phase; words = h.words; early = i.early }

  by-receive : (s : List ℕ) (m : Moment) → Always set (called t (receives s m))
  unfolding called closed_of begun_of padded_of
  by-receive s m = receive-ways (λ (x : Link). Always set (record { link = x; begun = t.begun; bytes = t.bytes }))
      l s m i shut (λ e kind b may ok. by-packet kind b m e may)
    where
      shut : Always set (record { link = closed_of l; begun = t.begun; bytes = t.bytes })
      shut =
          record {
            same = i.same;
            begins = i.begins;
            early = i.early;
            still = i.still;
            counts-if = λ p. let h : Holds set t = i.counts-if p in
                record { same = h.same; begins = h.begins; phase = h.phase; words = h.words; early = h.early };
          }

  -- bytes of ours on a link that is not padded: nothing counts
  by-plain : (hand : Bool) (l2 : Link) (n : ℕ) → padded_of l ≡ false → padded_of l2 ≡ padded_of l → l2.set ≡ set
      → pick hand true t.begun ≡ begun_of l2 → l2.phase ≡ phase_after l n → Always set (wrote t hand l2 (Ok n))
  unfolding phase_after pads_of
  by-plain hand l2 n plain same es eb ephase =
      record {
        same = es;
        begins = eb;
        early = λ e. rw e (i.early (none hand t.begun e));
        still = λ e. ephase ∙ (rw plain (off (leb 2 l.stage)) ∙ i.still (none hand t.begun e));
        counts-if = λ p. let z : ◌≡◌ {A = ℕ} 0 1 = cc in absurd (omega arith);
      }
    where
      off : (b : Bool) → pick (b && false) ((l.phase + n / 4) % 4) l.phase ≡ l.phase
      off true = refl
      off false = refl

  sent-padded : (kind id n : ℕ) → padded_of (sent_of l kind id n) ≡ padded_of l
  unfolding padded_of sent_of
  sent-padded kind id n = refl

  sent-set : (kind id n : ℕ) → (sent_of l kind id n).set ≡ set
  unfolding sent_of
  sent-set kind id n = i.same

  sent-begun : (kind id n : ℕ) → leb (from l.set.server) (stage_after l.stage) ≡ begun_of (sent_of l kind id n)
  unfolding sent_of begun_of
  sent-begun kind id n = refl

  sent-phase : (kind id n : ℕ) → (sent_of l kind id n).phase ≡ phase_after l n
  unfolding sent_of
  sent-phase kind id n = refl

  by-plain-send : padded_of l ≡ false → (what : ToSend) (p : List ℕ) (drawn : Drawn) (m : Moment) (room : ℕ)
      → Always set (called t (sends what p drawn m room))
  unfolding called
  by-plain-send plain what p drawn m room =
      send-ways (λ (x : Step). Always set (wrote t (eqb (type_of what) 0x7682eef5) x.link x.answer))
      l what p drawn m room (λ k. i) λ id len turn may.
      let e = ap (pick (eqb (type_of what) 0x7682eef5) true) i.begins ∙ counts l (type_of what) turn may in
      let n : ℕ = size_of l len in
      by-plain (eqb (type_of what) 0x7682eef5) (sent_of l (type_of what) id n) n plain (sent-padded (type_of what) id n)
      (sent-set (type_of what) id n) (e ∙ (shows l (type_of what) turn may ∙ sent-begun (type_of what) id n))
      (sent-phase (type_of what) id n)

  flushed-padded : (n : ℕ) → padded_of (flushed_of l n) ≡ padded_of l
  unfolding padded_of flushed_of
  flushed-padded n = refl

  flushed-set : (n : ℕ) → (flushed_of l n).set ≡ set
  unfolding flushed_of
  flushed-set n = i.same

  flushed-begun : (n : ℕ) → begun_of l ≡ begun_of (flushed_of l n)
  unfolding flushed_of begun_of
  flushed-begun n = refl

  flushed-phase : (n : ℕ) → (flushed_of l n).phase ≡ phase_after l n
  unfolding flushed_of
  flushed-phase n = refl

  by-plain-flush : padded_of l ≡ false → (room : ℕ) → Always set (called t (flushes room))
  unfolding called
  by-plain-flush plain room =
      flush-ways (λ (x : Step). Always set (wrote t false x.link x.answer)) l room (λ k. i)
      (λ fits. let n : ℕ = words_due l * 4 in
      by-plain false (flushed_of l n) n plain (flushed-padded n) (flushed-set n) (i.begins ∙ flushed-begun n)
      (flushed-phase n))

  by_call : (c : Call) → Always set (called t c)
  by_call (receives s m) = by-receive s m
  by_call (sends what p drawn m room) = go (padded_of l) refl
    where
      go : (b : Bool) → padded_of l ≡ b → Always set (called t (sends what p drawn m room))
      go true e = of-padded set _ (by-send set t e (i.counts-if e) what p drawn m room)
      go false e = by-plain-send e what p drawn m room
  by_call (flushes room) = go (padded_of l) refl
    where
      go : (b : Bool) → padded_of l ≡ b → Always set (called t (flushes room))
      go true e = of-padded set _ (by-flush set t e (i.counts-if e) room)
      go false e = by-plain-flush e room

  -- a flush goes no further than to the next block
  near-plain : padded_of l ≡ false → (room : ℕ) → (called t (flushes room)).bytes ≤ (t.bytes + 15) / 16 * 16
  unfolding called words_due
  near-plain e room =
      flush-ways (λ (x : Step). (wrote t false x.link x.answer).bytes ≤ (t.bytes + 15) / 16 * 16) l room
      (λ k. omega arith) (λ fits. rw e (same t.begun))
    where
      same : (b : Bool) → pick b (t.bytes + 0 * 4) t.bytes ≤ (t.bytes + 15) / 16 * 16
      same true = omega arith
      same false = omega arith

  near-always : (room : ℕ) → (called t (flushes room)).bytes ≤ (t.bytes + 15) / 16 * 16
  near-always room = go (padded_of l) refl
    where
      go : (b : Bool) → padded_of l ≡ b → (called t (flushes room)).bytes ≤ (t.bytes + 15) / 16 * 16
      go true e = near-at set t e (i.counts-if e) room
      go false e = near-plain e room

-- ---- any calls

always-after : (set : Settings) (t : Tally) → Always set t → (cs : List Call) → Always set (after t cs)
unfolding after
always-after set t i [] = i
always-after set t i (c ∷ cs) = always-after set (called t c) (by_call set t i c) cs

always-start : (set : Settings) (keyid : ℕ) → Always set (start set keyid)
unfolding start fresh_of begun_of
always-start set keyid =
    record {
      same = refl;
      begins = go set.server;
      early = λ e. refl;
      still = λ e. refl;
      counts-if = λ p. record {
        same = refl;
        begins = go set.server;
        phase = refl;
        words = refl;
        early = λ e. refl;
      };
    }
  where
    go : (server : Bool) → false ≡ leb (from server) 0
    go true = refl
    go false = refl

-- the tally's link is the link after the calls
pub same-link : (t : Tally) (cs : List Call) → (after t cs).link ≡ after_calls t.link cs
unfolding after called
same-link t [] = refl
same-link t (receives s m ∷ cs) = same-link (called t (receives s m)) cs
same-link t (sends what p drawn m room ∷ cs) =
    same-link (called t (sends what p drawn m room)) cs
    ∙ ap (λ (x : Link). after_calls x cs) (wrote-link t _ _ (send_of t.link what p drawn m room).answer)
same-link t (flushes room ∷ cs) =
    same-link (called t (flushes room)) cs
    ∙ ap (λ (x : Link). after_calls x cs) (wrote-link t false _ (flush_step t.link room).answer)

-- to the next block, however often
near : (set : Settings) (t : Tally) → Always set t → (ds : List Call) → Quiet ds → (m : ℕ)
    → m % 16 ≡ 0 → t.bytes ≤ m → (after t ds).bytes ≤ m
unfolding after called
near set t i [] q m h g = g
near set t i (receives s mo ∷ ds) q m h g =
    near set (called t (receives s mo)) (by_call set t i (receives s mo)) ds q m h g
near set t i (sends what pl drawn mo room ∷ ds) q m h g = absurd q
near set t i (flushes room ∷ ds) q m h g =
    near set (called t (flushes room)) (by_call set t i (flushes room)) ds q m h (omega
    (arith, near-always set t i room))

-- any calls on a fresh link, whatever key it was set up with, refused ones included
module _ (set : Settings) (keyid : ℕ) (cs : List Call) where
  abbrev made : Tally
  made = after (start set keyid) cs

  abbrev always : Always set made
  always = always-after set (start set keyid) (always-start set keyid) cs

  -- PADDED: by hand, or by the cipher
  pub padded-by-hand : set.padded ≡ true → padded_of made.link ≡ true
  unfolding padded_of
  padded-by-hand p = rw (ap (λ (x : Settings). x.padded) always.same ∙ p)

  pub padded-by-cipher : made.link.ciphered ≡ true → padded_of made.link ≡ true
  unfolding padded_of
  padded-by-cipher p = rw p (go made.link.set.padded)
    where
      go : (b : Bool) → (b || true) ≡ true
      go true = refl
      go false = refl

  abbrev holds : padded_of made.link ≡ true → Holds set made
  holds padded = always.counts-if padded

  module _ (padded : padded_of made.link ≡ true) where
    -- COUNTED: the link's count is that of the bytes since the first byte of our Handshake, which are whole words
    pub counted : (made.link.phase ≡ made.bytes / 4 % 4) × (made.bytes % 4 ≡ 0)
    counted = ((holds padded).phase, (holds padded).words)

    -- LEVEL: a flush that is accepted leaves a multiple of 16 bytes since the first byte of our Handshake
    pub level : (room n : ℕ) → (flush_step made.link room).answer ≡ Ok n
        → (called made (flushes room)).bytes % 16 ≡ 0
    level room n e = level-at set made padded (holds padded) room n e

    -- NONE BEFORE: before our Handshake a flush writes nothing
    pub none_before : made.begun ≡ false → (room n : ℕ) → (flush_step made.link room).answer ≡ Ok n → n ≡ 0
    none_before early room n e =
        omega (arith, flush-size made.link room n e, due-is set made padded (holds padded) false early)

    -- FEW WORDS: between two packets of ours, whatever is received and however often it is flushed, at most three
    -- words go out
    pub few_words : (ds : List Call) → Quiet ds → (after made ds).bytes ≤ made.bytes + 12
    few_words ds q =
        let n = near set made always ds q ((made.bytes + 15) / 16 * 16) (omega arith) (omega arith) in
        omega (arith, (holds padded).words, n)

-- NONE UNPADDED: a link that is not padded writes no words
pub none-unpadded : (l : Link) → padded_of l ≡ false → (room n : ℕ) → (flush_step l room).answer ≡ Ok n → n ≡ 0
unfolding words_due
none-unpadded l plain room n e = omega (arith, flush-size l room n e, zero-due)
  where
    zero-due : words_due l ≡ 0
    zero-due = rw plain
