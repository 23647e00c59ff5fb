-- Rounds make a block. Assumes nothing.
use Rattle.std.proofs.Common.{◌≡◌, ℕ, ◌+◌, List, take, drop, refl, sym, ap, ap₂, ◌∙◌, add-one}
use Rattle.aes.specs.Aes.{add}
use Rattle.aes_loops.specs.Rounds.{rounds_of, ciphered}

module _ (m last : List ℕ → List ℕ) (place : ℕ → ℕ) (k : List ℕ) where
  pub rounds-none : (s : List ℕ) → s ≡ rounds_of m place 0 k s
  unfolding rounds_of
  rounds-none s = refl

  pub rounds-next : {x y : List ℕ} {at : ℕ} (n : ℕ) (s : List ℕ) → y ≡ add (m x) (take 16 (drop at k))
      → at ≡ place (n + 1) → x ≡ rounds_of m place n k s → y ≡ rounds_of m place (n + 1) k s
  unfolding rounds_of
  rounds-next n s e p f =
      e ∙ ap₂ (λ (t : List ℕ) (i : ℕ). add (m t) (take 16 (drop i k))) f (p ∙ ap place (add-one n))
      ∙ ap (λ (i : ℕ). rounds_of m place i k s) (sym (add-one n))

  pub ciphered-law : {x y z : List ℕ} {a b : ℕ} (s : List ℕ) → y ≡ add (last x) (take 16 (drop b k)) → b ≡ place 14
      → x ≡ rounds_of m place 13 k z → z ≡ add s (take 16 (drop a k)) → a ≡ place 0 → y ≡ ciphered m last place k s
  unfolding ciphered
  ciphered-law s e p f h q =
      e ∙ ap₂ (λ (t : List ℕ) (i : ℕ). add (last t) (take 16 (drop i k)))
      (f ∙ ap (rounds_of m place 13 k) (h ∙ ap (λ (i : ℕ). add s (take 16 (drop i k))) q)) p
