-- Blocks in a buffer: it holds the first i blocks as they were stored, and the rest as it was. Assumes nothing.
use Rattle.std.proofs.Common.{◌≡◌, ℕ, ◌+◌, ◌*◌, ◌≤◌, List, ◌++◌, length, take, drop, refl, sym, ap, ap₂, ◌∙◌, add-one, arith}
use lib.ListN.{length-append, length-drop}
use lib.Seq.{sets, sets-eq, take_at, drop_at, drop-drop}
use Rattle.aes.specs.Cbc.{block_at}
use Rattle.aes_loops.specs.Chain.{stored, vector_of, blocks_of}

module _ (f : List ℕ → List ℕ) (enters leaves carries : List ℕ → List ℕ → List ℕ) (v s : List ℕ) where
  abbrev blocks : ℕ → List ℕ
  blocks n = blocks_of f enters leaves carries v s n

  abbrev vector : ℕ → List ℕ
  vector n = vector_of f enters leaves carries v s n

  -- what stands in place of block i
  abbrev here : ℕ → List ℕ
  here i = stored f enters leaves carries (vector i) (block_at i s)

  -- at the start
  pub vector-none : v ≡ vector 0
  unfolding vector_of
  vector-none = refl

  pub long-none : length (blocks 0) ≡ 0 * 16
  unfolding blocks_of
  long-none = refl

  pub held-none : s ≡ blocks 0 ++ drop (0 * 16) s
  unfolding blocks_of
  held-none = refl

  module _ (i : ℕ) (b : List ℕ) (long : length (blocks i) ≡ i * 16) (held : b ≡ blocks i ++ drop (i * 16) s) where
    -- the buffer keeps its length
    pub long-held : i * 16 ≤ length s → length b ≡ length s
    long-held h = ap length held ∙ length-append (blocks i) (drop (i * 16) s)
        ∙ omega (arith, long, length-drop (i * 16) s)

    read-block : take 16 (drop (i * 16) b) ≡ block_at i s
    unfolding block_at
    read-block = ap (λ (l : List ℕ). take 16 (drop (i * 16) l)) held
        ∙ ap (take 16) (drop_at (blocks i) (drop (i * 16) s) (i * 16) long)

    pub stored-here : {u x w y z : List ℕ} → u ≡ vector i → x ≡ take 16 (drop (i * 16) b) → w ≡ enters u x → y ≡ f w
        → z ≡ leaves u y → z ≡ here i
    stored-here eu ex ew ey ez = ez ∙ ap₂ leaves eu (ey ∙ ap f (ew ∙ ap₂ enters eu (ex ∙ read-block)))

    pub vector-next : {x z n : List ℕ} → x ≡ take 16 (drop (i * 16) b) → z ≡ here i → n ≡ carries x z
        → n ≡ vector (i + 1)
    unfolding vector_of
    vector-next ex ez e = e ∙ ap₂ carries (ex ∙ read-block) ez ∙ ap vector (sym (add-one i))

    pub long-next : {z : List ℕ} → length z ≡ 16 → z ≡ here i → length (blocks (i + 1)) ≡ (i + 1) * 16
    unfolding blocks_of
    long-next l e =
        let m : length (here i) ≡ 16 = ap length (sym e) ∙ l in
        ap (λ (n : ℕ). length (blocks n)) (add-one i) ∙ length-append (blocks i) (here i) ∙ omega arith

    pub held-next : {z b' : List ℕ} → length z ≡ 16 → z ≡ here i → i * 16 + 16 ≤ length b → b' ≡ sets b (i * 16) z
        → b' ≡ blocks (i + 1) ++ drop ((i + 1) * 16) s
    unfolding blocks_of
    held-next {z} l e h g =
        let p = blocks i in
        let m : i * 16 + length z ≡ (i + 1) * 16 = omega arith in
        let t : take (i * 16) b ≡ p = ap (take (i * 16)) held ∙ take_at p (drop (i * 16) s) (i * 16) long in
        let d : drop (i * 16 + length z) b ≡ drop ((i + 1) * 16) s =
        sym (drop-drop (length z) (i * 16) b)
        ∙ ap (drop (length z)) (ap (drop (i * 16)) held ∙ drop_at p (drop (i * 16) s) (i * 16) long)
        ∙ drop-drop (length z) (i * 16) s ∙ ap (λ (n : ℕ). drop n s) m in
        g ∙ sets-eq z b (i * 16) (omega arith) ∙ ap₂ (λ (x y : List ℕ). (x ++ z) ++ y) t d
        ∙ ap (λ (x : List ℕ). (p ++ x) ++ drop ((i + 1) * 16) s) e
        ∙ ap (λ (n : ℕ). blocks n ++ drop ((i + 1) * 16) s) (sym (add-one i))
