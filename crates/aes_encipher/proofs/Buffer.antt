-- The blocks of a buffer are those of the mode. Assumes nothing.
use Rattle.std.proofs.Common.{◌≡◌, ℕ, zero, suc, ◌*◌, ◌/◌, ◌%◌, List, ◌++◌, append-nil, length, drop, refl, ap, ap₂, ◌∙◌, arith}
use Rattle.std.specs.Prelude.{Result, Ok, Err}
use borrow.Author.Tests.{eq-eqb, ne_eqb}
use lib.ListN.{drop_of_length-le}
use Rattle.refusal.specs.declared.Refusal.{Refusal}
use Rattle.refusal.specs.declared.Refusal.TheVariants.{NotWholeBlocks}
use Rattle.aes.specs.Aes.{add, cipher}
use Rattle.aes.specs.Cbc.{block_at, vector, encipher, encipher_answer, encipher_buffer}
use Rattle.aes_loops.specs.Chain.{vector_of, blocks_of}

module _ (w v s : List ℕ) where
  abbrev pub vector-after : ℕ → List ℕ
  vector-after = vector_of (cipher w) (λ v x. add v x) (λ v y. y) (λ x z. z) v s

  abbrev pub blocks-after : ℕ → List ℕ
  blocks-after = blocks_of (cipher w) (λ v x. add v x) (λ v y. y) (λ x z. z) v s

  vector-is : (n : ℕ) → vector-after n ≡ vector w v s n
  unfolding vector_of vector
  vector-is zero = refl
  vector-is (suc n) = ap (λ (u : List ℕ). cipher w (add u (block_at n s))) (vector-is n)

  blocks_are : (n : ℕ) → blocks-after n ≡ encipher w v s n
  unfolding blocks_of vector encipher
  blocks_are zero = refl
  blocks_are (suc n) = ap₂ (λ (t u : List ℕ). t ++ cipher w (add u (block_at n s))) (blocks_are n) (vector-is n)

  pub refused-answer : (length s % 16 ≡ 0 → ⊥) → ◌≡◌ {A = Result (List ℕ) Refusal} (Err NotWholeBlocks) (encipher_answer w v s)
  unfolding encipher_answer
  refused-answer h = rw (ne_eqb (length s % 16) 0 h) refl

  pub refused-buffer : (length s % 16 ≡ 0 → ⊥) → s ≡ encipher_buffer w v s
  unfolding encipher_buffer
  refused-buffer h = rw (ne_eqb (length s % 16) 0 h) refl

  pub done-answer : {n : List ℕ} → length s % 16 ≡ 0 → n ≡ vector-after (length s / 16)
      → ◌≡◌ {A = Result (List ℕ) Refusal} (Ok n) (encipher_answer w v s)
  unfolding encipher_answer
  done-answer h e =
      rw (eq-eqb (length s % 16) 0 h) (ap (λ (y : List ℕ). Ok y) (e ∙ vector-is (length s / 16)))

  pub done-buffer : {b : List ℕ} → length s % 16 ≡ 0 → b ≡ blocks-after (length s / 16) ++ drop (length s / 16 * 16) s
      → b ≡ encipher_buffer w v s
  unfolding encipher_buffer
  done-buffer h e =
      let m = length s / 16 in
      rw (eq-eqb (length s % 16) 0 h)
      (e ∙ ap₂ ◌++◌ (blocks_are m) (drop_of_length-le s {i = m * 16} (omega arith)) ∙ append-nil (encipher w v s m))
