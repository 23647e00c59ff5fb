-- The words of a flush, as the stores leave them, and how many they are. Assumes nothing.
use native.Mathlib.Omega.{arith}
use borrow.Author.Tests.{lt-ltb, le-ltb}
use mathlib.Core.Path.{◌≡◌, refl, ap, sym, ◌∙◌}
use mathlib.Core.Bool.{Bool, true, false, ◌&&◌}
use mathlib.Core.List.{List, ◌++◌, append_assoc, append-nil}
use Prim.Native.Nat.{ℕ, zero, suc, ◌+◌, ◌-◌, ◌*◌, ◌%◌, ◌≤◌, ◌<◌}
use lib.ListN.{length, length-append}
use lib.Seq.{sets}
use Rattle.wire.specs.Bytes.{bytes}
use Rattle.wire.specs.Choice.{pick}
use Rattle.wire.proofs.ByteLaws.{length-bytes}
use Rattle.wire.proofs.StoreLaws.{runs-2}
use Rattle.link_state.specs.declared.Link.{Link}
use Rattle.packet_padding.specs.Padding.{padded_of, fours_of}
use Rattle.flush.specs.Flush.{begun_of, words_due, flush_answer, flushed_of, flush_by, flush_in, flush_step, flush_buffer}
use Rattle.refusal.specs.declared.Refusal.TheVariants.{BufferTooSmall, LinkClosed}
use Rattle.std.specs.Prelude.{Ok, Err}

-- at most three
pub due-small : (l : Link) → words_due l ≤ 3
unfolding words_due
due-small l = go (padded_of l && begun_of l)
  where
    go : (b : Bool) → pick b ((4 - l.phase % 4) % 4) 0 ≤ 3
    go true = omega arith
    go false = omega arith

pub due-bound : (l : Link) {r : ℕ} → r ≡ words_due l → r ≤ 3
due-bound l e = omega (arith, due-small l)

-- ---- the words, one after another

length-fours : (n : ℕ) → length (fours_of n) ≡ n * 4
unfolding fours_of
length-fours zero = refl
length-fours (suc n) = simp (length-append, length-bytes) (omega (arith, length-fours n))

-- one more may stand behind them as before them
fours-last : (n : ℕ) → fours_of n ++ bytes 4 4 ≡ fours_of (suc n)
unfolding fours_of
fours-last zero = sym (append-nil (bytes 4 4))
fours-last (suc n) = append_assoc (bytes 4 4) (fours_of n) (bytes 4 4) ∙ ap (λ (k : List ℕ). bytes 4 4 ++ k) (fours-last n)

pub one-more : {b1 b2 : List ℕ} (b : List ℕ) (n : ℕ) → b1 ≡ sets b 0 (fours_of n)
    → b2 ≡ sets b1 (n * 4) (bytes 4 4) → b2 ≡ sets b 0 (fours_of (n + 1))
one-more b n e1 e2 =
    runs-2 b 0 (n * 4) (fours_of n) (bytes 4 4) e1 e2 (omega (arith, length-fours n))
    ∙ ap (sets b 0) (fours-last n ∙ ap fours_of (omega arith))

-- ---- the three ways of a flush

module _ (l : Link) (b : List ℕ) where
  answer-is : {w : ℕ} → l.closed ≡ false → w ≡ words_due l → w * 4 ≤ length b
      → flush_answer l (length b) ≡ Ok (w * 4)
  unfolding flush_answer words_due padded_of begun_of
  answer-is {w} yet e h =
      let g : words_due l * 4 ≤ length b = omega arith in
      rw (yet, le-ltb (length b) (words_due l * 4) g) (ap (λ (k : ℕ). Ok (k * 4)) (sym e))

  -- 20
  pub closed-step : l.closed ≡ true
      → (record { link = l; answer = Err LinkClosed } ≡ flush_step l (length b)) × (b ≡ flush_buffer l b)
  unfolding flush_step flush_buffer flush_answer words_due padded_of begun_of
  closed-step h = (rw h refl, rw h refl)

  -- 16
  pub no-room-step : {w : ℕ} → l.closed ≡ false → w ≡ words_due l → length b < w * 4
      → (record { link = l; answer = Err BufferTooSmall } ≡ flush_step l (length b)) × (b ≡ flush_buffer l b)
  unfolding flush_step flush_buffer flush_answer words_due padded_of begun_of
  no-room-step {w} yet e h =
      let g : length b < words_due l * 4 = omega arith in
      (rw (yet, lt-ltb (length b) (words_due l * 4) g) refl, rw (yet, lt-ltb (length b) (words_due l * 4) g) refl)

  -- the words
  pub written_step : {w : ℕ} {l2 : Link} {b1 : List ℕ} → l.closed ≡ false → w ≡ words_due l → w * 4 ≤ length b
      → b1 ≡ sets b 0 (fours_of w) → l2 ≡ flushed_of l (w * 4)
      → (record { link = l2; answer = Ok (w * 4) } ≡ flush_step l (length b)) × (b1 ≡ flush_buffer l b)
  unfolding flush_step flush_buffer
  written_step {w} yet e h eb el =
      let a = answer-is yet e h in (
        ap (λ (x : Link). record { link = x; answer = Ok (w * 4) }) el ∙ sym (ap (flush_by l) a),
        eb ∙ (ap (λ (k : ℕ). sets b 0 (fours_of k)) e ∙ sym (ap (flush_in l b) a)),
      )
