-- `aes_keys::expansion::temp` meets its contract. Assumes nothing.
use mathlib.Core.Path.{◌≡◌, refl, ap₂, ◌∙◌}
use mathlib.Core.List.{List, ◌++◌}
use Prim.Native.Nat.{ℕ}
use lib.Bits.{xor_zero_r}
use lib.ListN.{take, drop}
use borrow.Author.Tests.{eq-eqb, ne_eqb}
use Rattle.aes.specs.Aes.{add, sub_bytes, temp}
use Rattle.aes.specs.Words.{bytes4}
use Rattle.aes.proofs.Words.{list4}
use Rattle.aes_loops.specs.Rows.{turns}
use Rattle.aes_keys.proofs.expansion.temp.Goals as goal

opened : (p : ℕ) → turns 3 (bytes4 p) ≡ drop 1 (bytes4 p) ++ take 1 (bytes4 p)
unfolding bytes4
opened p = refl

alone : (p : ℕ) → add (sub_bytes (bytes4 p)) (bytes4 0) ≡ sub_bytes (bytes4 p)
unfolding bytes4 sub_bytes add
alone p = list4 (xor_zero_r _) (xor_zero_r _) (xor_zero_r _) (xor_zero_r _)

pub returns-then-m-eq0 : goal.returns-then-m-eq0
unfolding temp
returns-then-m-eq0 c =
    let p = c.args.p in
    simp (eq-eqb _ _ c.if-m-eq0.true)
    (c.sub_word.ensures
    ∙ ap₂ (λ (s t : List ℕ). add (sub_bytes s) t) (c.rotated.ensures ∙ opened p)
    c.rc.ensures)

pub returns-then-m-eq4 : goal.returns-then-m-eq4
unfolding temp
returns-then-m-eq4 c = simp (ne_eqb _ _ c.if-m-eq0.false, eq-eqb _ _ c.if-m-eq4.true)
    (c.sub_word-then-m-eq4.ensures ∙ alone c.args.p)

pub returns-else-m-eq4 : goal.returns-else-m-eq4
unfolding temp
returns-else-m-eq4 c = simp (ne_eqb _ _ c.if-m-eq0.false, ne_eqb _ _ c.if-m-eq4.false)
