-- Between two flushes a ciphered link writes whole blocks, whatever calls are made: enciphering them is never refused with
-- 37. Assumes nothing.
use native.Mathlib.Omega.{arith}
use mathlib.Core.Path.{◌≡◌, refl, ap, subst, ◌∙◌}
use mathlib.Core.Bool.{true}
use mathlib.Core.List.{List, [], ◌∷◌, ◌++◌}
use Prim.Native.Nat.{ℕ, ◌+◌, ◌%◌}
use lib.ListN.{length}
use Rattle.std.specs.Result.{IsOk}
use Rattle.aes.specs.Cbc.{encipher_answer}
use Rattle.cipher_laws.proofs.Calls.{done-forth}
use Rattle.link_state.specs.declared.Settings.{Settings}
use Rattle.flush.specs.Flush.{flush_step}
use Rattle.link_calls.specs.Calls.{Call, flushes}
use Rattle.link_padding.specs.Tally.{Tally, called, after, start}
use Rattle.link_padding.proofs.Level.{padded-by-cipher, level}
use Rattle.std.specs.Prelude.{Ok}

-- more calls go on where the first ones ended
goes_on : (t : Tally) (cs ds : List Call) → after t (cs ++ ds) ≡ after (after t cs) ds
unfolding after
goes_on t [] ds = refl
goes_on t (c ∷ cs) ds = goes_on (called t c) cs ds

-- any calls cs on a fresh link, a flush, any calls ds, a flush: both flushes are accepted, and the link is ciphered then
module _ (set : Settings) (keyid : ℕ) (cs ds : List Call) (r1 r2 n1 n2 : ℕ) where
  abbrev before : Tally
  before = after (start set keyid) cs

  abbrev first : Tally
  first = called before (flushes r1)

  abbrev later : Tally
  later = after first ds

  abbrev second : Tally
  second = called later (flushes r2)

  -- all the calls up to the second flush
  abbrev calls : List Call
  calls = cs ++ (flushes r1 ∷ ds)

  same : after (start set keyid) calls ≡ later
  unfolding after
  same = goes_on (start set keyid) cs (flushes r1 ∷ ds)

  module _ (ciphered1 : before.link.ciphered ≡ true) (flushed1 : (flush_step before.link r1).answer ≡ Ok n1)
      (ciphered2 : later.link.ciphered ≡ true) (flushed2 : (flush_step later.link r2).answer ≡ Ok n2) where
    level1 : first.bytes % 16 ≡ 0
    level1 = level set keyid cs (padded-by-cipher set keyid cs ciphered1) r1 n1 flushed1

    level2 : second.bytes % 16 ≡ 0
    level2 =
        subst (λ (t : Tally). (called t (flushes r2)).bytes % 16 ≡ 0) same
        (level set keyid calls
        (padded-by-cipher set keyid calls (ap (λ (t : Tally). t.link.ciphered) same ∙ ciphered2)) r2 n2
        (ap (λ (t : Tally). (flush_step t.link r2).answer) same ∙ flushed2))

    -- WHOLE BLOCKS: so many bytes lie between the two flushes, and enciphering them is done, under any keys and vector
    pub whole-between : (w v s : List ℕ) → first.bytes + length s ≡ second.bytes → IsOk (encipher_answer w v s)
    whole-between w v s e = done-forth w v s (omega (arith, level1, level2, e))
