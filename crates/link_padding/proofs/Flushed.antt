-- The words of a flush: where they stand, and that links with the same profile allow them; and a flush leaves the two
-- directions as they were. Assumes nothing.
use native.Mathlib.Omega.{arith}
use borrow.Author.Tests.{le-leb}
use mathlib.Core.Path.{◌≡◌, ap, ◌∙◌}
use mathlib.Core.Bool.{Bool, true, false, ◌&&◌}
use mathlib.Core.List.{List}
use Prim.Native.Nat.{ℕ, ◌-◌, ◌*◌, ◌%◌, ◌≤◌}
use lib.ListN.{length, take, drop}
use lib.Seq.{take_at}
use Rattle.wire.proofs.StoreLaws.{front-stored}
use Rattle.wire.specs.Choice.{pick}
use Rattle.link_state.specs.declared.Link.{Link}
use Rattle.packet.specs.Sum.{castagnoli_of}
use Rattle.packet_padding.specs.Padding.{padded_of, pads_of, words_allowed, fours_of}
use Rattle.link.specs.Look.{check_turn}
use Rattle.flush.specs.Flush.{begun_of, words_due, flush_answer, flushed_of, flush_by, flush_in, flush_step, flush_buffer}
use Rattle.pair.specs.Awaits.{Awaits}
use Rattle.pair.proofs.Words.{length-fours}
use Rattle.link_padding.proofs.Counts.{flush-size, flush-fits}
use Rattle.std.specs.Prelude.{Err, Result, Ok}
use Rattle.refusal.specs.declared.Refusal.{Refusal}

-- a link whose phase alone changed is awaited as before, and awaits as before
awaited-still : (k l : Link) (n : ℕ) → Awaits k l → Awaits k (flushed_of l n)
unfolding flushed_of castagnoli_of pads_of padded_of
awaited-still k l n a =
    record { number = a.number; checksum = a.checksum; stage = a.stage; profile = a.profile; turn = a.turn }

awaits-still : (k l : Link) (n : ℕ) → Awaits l k → Awaits (flushed_of l n) k
unfolding flushed_of castagnoli_of pads_of padded_of check_turn
awaits-still k l n a =
    record { number = a.number; checksum = a.checksum; stage = a.stage; profile = a.profile; turn = a.turn }

-- the words that are due are words that a link with the same profile allows, once its opening is over
pub due-allowed : (k l : Link) → 4 ≤ k.stage → padded_of k ≡ padded_of l → words_due l ≤ words_allowed k
unfolding words_due words_allowed padded_of
due-allowed k l over same = rw (same, le-leb 4 k.stage over) (go (padded_of l) (begun_of l))
  where
    go : (p b : Bool) → pick (p && b) ((4 - l.phase % 4) % 4) 0 ≤ pick p 3 0
    go true true = omega arith
    go true false = omega arith
    go false b = omega arith

-- a flush that l accepted, into the buffer b
module _ (l : Link) (b : List ℕ) (n : ℕ) (flushed : (flush_step l (length b)).answer ≡ Ok n) where
  answer-is : flush_answer l (length b) ≡ Ok n
  unfolding flush_step
  answer-is = go (flush_answer l (length b)) flushed
    where
      go : (a : Result ℕ Refusal) → (flush_by l a).answer ≡ Ok n → a ≡ Ok n
      go (Ok k) h = h
      go (Err k) h = h

  link-is : (flush_step l (length b)).link ≡ flushed_of l n
  unfolding flush_step
  link-is = ap (λ (a : Result ℕ Refusal). (flush_by l a).link) answer-is

  -- what stands at the buffer's front is the words
  pub words_are : take n (flush_buffer l b) ≡ fours_of (words_due l)
  unfolding flush_buffer
  words_are =
      let w : List ℕ = fours_of (words_due l) in
      let f : length w ≡ words_due l * 4 = length-fours (words_due l) in
      let z : n ≡ words_due l * 4 = flush-size l (length b) n flushed in
      ap (λ (a : Result ℕ Refusal). take n (flush_in l b a)) answer-is
      ∙ (ap (take n) (front-stored b w (omega (arith, flush-fits l (length b) n flushed)))
      ∙ take_at w (drop (length w) b) n (omega arith))

  -- and both directions go on as they were
  pub flush-keeps : (k : Link)
      → (Awaits k l → Awaits k (flush_step l (length b)).link) × (Awaits l k → Awaits (flush_step l (length b)).link k)
  flush-keeps k = (λ a. rw link-is (awaited-still k l n a), λ a. rw link-is (awaits-still k l n a))
