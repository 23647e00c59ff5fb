-- A flush of a padded link after its Handshake: its words bring what was written to whole blocks. Assumes nothing.
use native.Mathlib.Omega.{arith}
use borrow.Author.Tests.{le-leb}
use mathlib.Core.Path.{◌≡◌, refl, ap, sym, ◌∙◌}
use mathlib.Core.Bool.{Bool, true, false}
use mathlib.Core.List.{List, ◌++◌}
use Prim.Native.Nat.{ℕ, ◌+◌, ◌-◌, ◌*◌, ◌/◌, ◌%◌, ◌≤◌}
use lib.ListN.{length, take, length-append}
use lib.Seq.{sets}
use lib.Dec.{leb}
use Rattle.wire.specs.Choice.{pick}
use Rattle.cipher_laws.specs.Sizes.{Whole}
use Rattle.link_state.specs.declared.Link.{Link}
use Rattle.packet_padding.specs.Padding.{padded_of, pads_of, fours_of, phase_after}
use Rattle.packet_out.proofs.PacketLaws.{take-front}
use Rattle.send_rules.specs.declared.Step.{Step}
use Rattle.flush.specs.Flush.{begun_of, words_due, flushed_of, flush_step, flush_buffer}
use Rattle.flush.proofs.FlushLaws.{due-small, written_step}
use Rattle.pair.specs.Awaits.{Awaits}
use Rattle.pair.proofs.Words.{length-fours}
use Rattle.link_padding.proofs.Flushed.{flush-keeps}
use Rattle.cipher_talk.specs.Ends.{Wrote, front, flushed}
use Rattle.std.specs.Prelude.{Ok}

-- what a flush leaves as it was
pub record Kept (l l2 : Link) : Type 0 where
  pub stage : l2.stage ≡ l.stage
  pub ciphered : l2.ciphered ≡ l.ciphered
  pub closed : l2.closed ≡ l.closed
  pub sends : l2.sends ≡ l.sends
  pub server : l2.set.server ≡ l.set.server
  pub there : (k : Link) → Awaits k l → Awaits k l2
  pub back : (k : Link) → Awaits l k → Awaits l2 k

-- with room for three words
module _ (l : Link) (b : List ℕ) (not_closed : l.closed ≡ false) (room : 12 ≤ length b) where
  pub step : flush_step l (length b) ≡ record { link = flushed_of l (words_due l * 4); answer = Ok (words_due l * 4) }
  step = sym (written_step l b not_closed refl (omega (arith, due-small l)) refl refl).0

  words_are : front (flush_step l (length b)).answer (flush_buffer l b) ≡ fours_of (words_due l)
  words_are =
      let e : sets b 0 (fours_of (words_due l)) ≡ flush_buffer l b =
      (written_step l b not_closed refl (omega (arith, due-small l)) refl refl).1 in
      ap (λ (x : Step). front x.answer (flush_buffer l b)) step
      ∙ (ap (take (words_due l * 4)) (sym e)
      ∙ take-front b (fours_of (words_due l)) (words_due l * 4) (length-fours (words_due l)) (omega (arith, due-small l)))

  pub kept : Kept l (flush_step l (length b)).link
  unfolding flushed_of
  kept =
      let a : (flush_step l (length b)).answer ≡ Ok (words_due l * 4) = ap (λ (x : Step). x.answer) step in
      let e : (flush_step l (length b)).link ≡ flushed_of l (words_due l * 4) = ap (λ (x : Step). x.link) step in
      record {
        stage = ap (λ (x : Link). x.stage) e;
        ciphered = ap (λ (x : Link). x.ciphered) e;
        closed = ap (λ (x : Link). x.closed) e;
        sends = ap (λ (x : Link). x.sends) e;
        server = ap (λ (x : Link). x.set.server) e;
        there = λ k. (flush-keeps l b (words_due l * 4) a k).0;
        back = λ k. (flush-keeps l b (words_due l * 4) a k).1;
      }

  -- a padded link whose Handshake went out
  module _ (pads : pads_of l ≡ true) (due : words_due l ≡ (4 - l.phase % 4) % 4) where
    pub level-again : (flush_step l (length b)).link.phase ≡ 0
    unfolding flushed_of phase_after
    level-again = ap (λ (x : Step). x.link.phase) step ∙ rw pads (omega arith)

-- behind all that was written
pub flushed-is : (w : Wrote) (b : List ℕ) → w.link.closed ≡ false → 12 ≤ length b
    → flushed w b ≡ w.bytes ++ fours_of (words_due w.link)
flushed-is w b c r = ap (λ (x : List ℕ). w.bytes ++ x) (words_are w.link b c r)

-- WHOLE BLOCKS: where the link counted the words that were written
pub blocks : (l : Link) (s : List ℕ) → words_due l ≡ (4 - l.phase % 4) % 4 → length s % 4 ≡ 0
    → l.phase ≡ length s / 4 % 4 → Whole (s ++ fours_of (words_due l))
blocks l s due h p =
    let e : length (s ++ fours_of (words_due l)) ≡ length s + words_due l * 4 =
    length-append s (fours_of (words_due l)) ∙ omega (arith, length-fours (words_due l)) in
    omega arith

-- how many are due, after the opening or after a client's Handshake
pub due-is : (l : Link) → padded_of l ≡ true → begun_of l ≡ true → words_due l ≡ (4 - l.phase % 4) % 4
unfolding words_due
due-is l p g = rw (p, g)

pub begun : (l : Link) → 4 ≤ l.stage → begun_of l ≡ true
unfolding begun_of
begun l h = go l.set.server
  where
    go : (s : Bool) → leb (pick s 4 3) l.stage ≡ true
    go true = le-leb 4 l.stage h
    go false = le-leb 3 l.stage (omega arith)
