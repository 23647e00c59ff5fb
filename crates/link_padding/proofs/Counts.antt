-- One send or flush call on a padded link: the link's count stays that of the bytes since the first byte of our
-- Handshake, and a flush brings them to whole blocks. Assumes nothing.
use native.Mathlib.Omega.{arith}
use borrow.Author.Tests.{leb-true, le-leb}
use mathlib.Core.Path.{◌≡◌, refl, ap, sym, ◌∙◌}
use mathlib.Core.Bool.{Bool, true, false, ◌&&◌}
use mathlib.Core.List.{List}
use Prim.Native.Nat.{ℕ, ◌+◌, ◌-◌, ◌*◌, ◌/◌, ◌%◌, ◌≤◌}
use lib.Dec.{leb, eqb}
use Rattle.wire.specs.Choice.{pick}
use Rattle.link_state.specs.declared.Link.{Link}
use Rattle.link_state.specs.declared.Settings.{Settings}
use Rattle.link_state.specs.declared.Moment.{Moment}
use Rattle.link_state.specs.Turn.{stage_after}
use Rattle.packet_padding.specs.Padding.{padded_of, pads_of, phase_after}
use Rattle.packet_padding.proofs.PaddingLaws.{tail-whole}
use Rattle.packet_out.specs.Size.{size_of}
use Rattle.send_rules.specs.Sent.{sent_of}
use Rattle.send_rules.specs.declared.Step.{Step}
use Rattle.nonce_out.specs.declared.Drawn.{Drawn}
use Rattle.send.specs.declared.ToSend.{ToSend}
use Rattle.flush.specs.Flush.{begun_of, words_due, flushed_of, flush_step}
use Rattle.link_calls.specs.Calls.{sends, flushes, type_of}
use Rattle.link_calls.proofs.Ways.{send-ways, flush-ways}
use Rattle.link_padding.specs.Tally.{Tally, wrote, called}
use Rattle.link_padding.proofs.Stages.{from, counts, shows}
use Rattle.std.specs.Prelude.{Ok}

-- what a flush that is accepted answers
pub flush-size : (l : Link) (room n : ℕ) → (flush_step l room).answer ≡ Ok n → n ≡ words_due l * 4
flush-size l room n =
    flush-ways (λ (x : Step). x.answer ≡ Ok n → n ≡ words_due l * 4) l room
    (λ k h. let z : ◌≡◌ {A = ℕ} 0 1 = cc in absurd (omega arith))
    (λ fits h. let q : words_due l * 4 ≡ n = cc in sym q)

-- for which there is room
pub flush-fits : (l : Link) (room n : ℕ) → (flush_step l room).answer ≡ Ok n → words_due l * 4 ≤ room
flush-fits l room n =
    flush-ways (λ (x : Step). x.answer ≡ Ok n → words_due l * 4 ≤ room) l room
    (λ k h. let z : ◌≡◌ {A = ℕ} 0 1 = cc in absurd (omega arith)) (λ fits h. fits)

-- ---- what holds of a padded link, before and after a call

pub record Holds (set : Settings) (t : Tally) : Type 0 where
  pub same : t.link.set ≡ set
  pub begins : t.begun ≡ begun_of t.link
  pub phase : t.link.phase ≡ t.bytes / 4 % 4
  pub words : t.bytes % 4 ≡ 0
  pub early : t.begun ≡ false → t.bytes ≡ 0

module _ (set : Settings) (t : Tally) (is-padded : padded_of t.link ≡ true) (i : Holds set t) where
  pads : pads_of t.link ≡ leb 2 t.link.stage
  unfolding pads_of
  pads = go (leb 2 t.link.stage) (padded_of t.link) is-padded
    where
      go : (a b : Bool) → b ≡ true → (a && b) ≡ a
      go true b e = e
      go false b e = refl

  -- so many bytes of ours: they count where our Handshake is out, or is what they are
  by_bytes : (hand : Bool) (l2 : Link) (n : ℕ) → l2.set ≡ set → pick hand true t.begun ≡ begun_of l2
      → pick hand true t.begun ≡ pads_of t.link
      → l2.phase ≡ phase_after t.link n → (pads_of t.link ≡ true → n % 4 ≡ 0)
      → Holds set (wrote t hand l2 (Ok n))
  unfolding phase_after
  by_bytes hand l2 n es eb ep ephase whole = go (pick hand true t.begun) (pads_of t.link) ep refl refl
    where
      -- before our Handshake none count
      none : (h b : Bool) → pick h true b ≡ false → b ≡ false
      none false false e = refl
      none false true e = e
      none true b e = let z : ◌≡◌ {A = ℕ} 0 1 = cc in absurd (omega arith)

      go : (a p : Bool) → a ≡ p → pick hand true t.begun ≡ a → pads_of t.link ≡ p
          → Holds set (wrote t hand l2 (Ok n))
      go true true q ea ep =
          let w = whole ep in
          let f : l2.phase ≡ (t.link.phase + n / 4) % 4 = ephase ∙ rw ep refl in
          let o : l2.phase ≡ (t.bytes + n) / 4 % 4 = omega (arith, i.phase, i.words) in
          let m : (t.bytes + n) % 4 ≡ 0 = omega (arith, i.words) in
          record {
            same = es;
            begins = eb;
            phase = o ∙ sym (rw ea refl);
            words = rw ea m;
            early = λ e. let z : ◌≡◌ {A = ℕ} 0 1 = cc in absurd (omega arith);
          }
      go false false q ea ep =
          let f : l2.phase ≡ t.link.phase = ephase ∙ rw ep refl in
          record {
            same = es;
            begins = eb;
            phase = f ∙ (i.phase ∙ sym (rw ea refl));
            words = rw ea i.words;
            early = λ e. rw ea (i.early (none hand t.begun ea));
          }
      go true false q ea ep = let z : ◌≡◌ {A = ℕ} 0 1 = cc in absurd (omega arith)
      go false true q ea ep = let z : ◌≡◌ {A = ℕ} 0 1 = cc in absurd (omega arith)

  sent-set : (kind id n : ℕ) → (sent_of t.link kind id n).set ≡ set
  unfolding sent_of
  sent-set kind id n = i.same

  sent-stage : (kind id n : ℕ)
      → leb (from t.link.set.server) (stage_after t.link.stage) ≡ begun_of (sent_of t.link kind id n)
  unfolding sent_of begun_of
  sent-stage kind id n = refl

  sent-phase : (kind id n : ℕ) → (sent_of t.link kind id n).phase ≡ phase_after t.link n
  unfolding sent_of
  sent-phase kind id n = refl

  whole-size : (len : ℕ) → pads_of t.link ≡ true → size_of t.link len % 4 ≡ 0
  unfolding size_of
  whole-size len e = tail-whole t.link (len + 16) e

  pub by-send : (what : ToSend) (p : List ℕ) (drawn : Drawn) (m : Moment) (room : ℕ)
      → Holds set (called t (sends what p drawn m room))
  unfolding called
  by-send what p drawn m room =
      send-ways (λ (x : Step). Holds set (wrote t (eqb (type_of what) 0x7682eef5) x.link x.answer))
      t.link what p drawn m room (λ k. i) λ id len turn may.
      let e = ap (pick (eqb (type_of what) 0x7682eef5) true) i.begins ∙ counts t.link (type_of what) turn may in
      let n : ℕ = size_of t.link len in
      by_bytes (eqb (type_of what) 0x7682eef5) (sent_of t.link (type_of what) id n) n (sent-set (type_of what) id n)
      (e ∙ (shows t.link (type_of what) turn may ∙ sent-stage (type_of what) id n)) (e ∙ sym pads)
      (sent-phase (type_of what) id n) (whole-size len)

  flushed-set : (n : ℕ) → (flushed_of t.link n).set ≡ set
  unfolding flushed_of
  flushed-set n = i.same

  flushed-begun : (n : ℕ) → begun_of t.link ≡ begun_of (flushed_of t.link n)
  unfolding flushed_of begun_of
  flushed-begun n = refl

  flushed-phase : (n : ℕ) → (flushed_of t.link n).phase ≡ phase_after t.link n
  unfolding flushed_of
  flushed-phase n = refl

  pub due-is : (b : Bool) → t.begun ≡ b → words_due t.link ≡ pick b ((4 - t.link.phase % 4) % 4) 0
  unfolding words_due
  due-is b e = rw (is-padded, sym i.begins ∙ e)

  out : t.begun ≡ true → 2 ≤ t.link.stage
  unfolding begun_of
  out e = go t.link.set.server (sym i.begins ∙ e)
    where
      go : (server : Bool) → leb (from server) t.link.stage ≡ true → 2 ≤ t.link.stage
      go true h = omega (arith, leb-true 4 t.link.stage h)
      go false h = omega (arith, leb-true 3 t.link.stage h)

  by-words : (n : ℕ) → n ≡ words_due t.link * 4 → Holds set (wrote t false (flushed_of t.link n) (Ok n))
  unfolding phase_after
  by-words n en = go t.begun refl
    where
      go : (b : Bool) → t.begun ≡ b → Holds set (wrote t false (flushed_of t.link n) (Ok n))
      go true e =
          let d : words_due t.link ≡ (4 - t.link.phase % 4) % 4 = due-is true e in
          let q : pads_of t.link ≡ true = pads ∙ le-leb 2 t.link.stage (out e) in
          let f : (flushed_of t.link n).phase ≡ (t.link.phase + n / 4) % 4 = flushed-phase n ∙ rw q refl in
          let o : (flushed_of t.link n).phase ≡ (t.bytes + n) / 4 % 4 = omega (arith, i.phase, i.words) in
          let m : (t.bytes + n) % 4 ≡ 0 = omega (arith, i.words) in
          record {
            same = flushed-set n;
            begins = i.begins ∙ flushed-begun n;
            phase = o ∙ sym (rw e refl);
            words = rw e m;
            early = λ h. let z : ◌≡◌ {A = ℕ} 0 1 = cc in absurd (omega arith);
          }
      go false e =
          let d : words_due t.link ≡ 0 = due-is false e in
          let z : t.bytes ≡ 0 = i.early e in
          let o : t.link.phase ≡ 0 = omega (arith, i.phase) in
          let f : (flushed_of t.link n).phase ≡ 0 = flushed-phase n
          ∙ zero-phase (pads_of t.link) n o (omega arith) in
          let g : (flushed_of t.link n).phase ≡ t.bytes / 4 % 4 = omega arith in
          record {
            same = flushed-set n;
            begins = i.begins ∙ flushed-begun n;
            phase = g ∙ sym (rw e refl);
            words = rw e i.words;
            early = λ h. rw e z;
          }
        where
          zero-phase : (b : Bool) (n : ℕ) → t.link.phase ≡ 0 → n ≡ 0
              → pick b ((t.link.phase + n / 4) % 4) t.link.phase ≡ 0
          zero-phase true n p q = omega arith
          zero-phase false n p q = p

  pub by-flush : (room : ℕ) → Holds set (called t (flushes room))
  unfolding called
  by-flush room =
      flush-ways (λ (x : Step). Holds set (wrote t false x.link x.answer)) t.link room (λ k. i)
      (λ fits. by-words (words_due t.link * 4) refl)

  -- after an accepted flush all is whole blocks
  pub level-at : (room n : ℕ) → (flush_step t.link room).answer ≡ Ok n → (called t (flushes room)).bytes % 16 ≡ 0
  unfolding called
  level-at room n e = rw e (go t.begun refl)
    where
      go : (b : Bool) → t.begun ≡ b → pick b (t.bytes + n) t.bytes % 16 ≡ 0
      go true q =
          let d : words_due t.link ≡ (4 - t.link.phase % 4) % 4 = due-is true q in
          omega (arith, i.phase, i.words, flush-size t.link room n e)
      go false q = omega (arith, i.early q)

  -- and a flush goes no further than to the next block
  pub near-at : (room : ℕ) → (called t (flushes room)).bytes ≤ (t.bytes + 15) / 16 * 16
  unfolding called
  near-at room =
      flush-ways (λ (x : Step). (wrote t false x.link x.answer).bytes ≤ (t.bytes + 15) / 16 * 16) t.link room
      (λ k. omega arith) (λ fits. go t.begun refl)
    where
      go : (b : Bool) → t.begun ≡ b → pick b (t.bytes + words_due t.link * 4) t.bytes ≤
          (t.bytes + 15) / 16 * 16
      go true q =
          let d : words_due t.link ≡ (4 - t.link.phase % 4) % 4 = due-is true q in
          omega (arith, i.phase, i.words)
      go false q = omega arith
