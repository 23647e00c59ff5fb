-- Choices by a test: the words in which every crate's rules are written. Assumes nothing.
use Rattle.std.specs.Prelude.{Bool, true, false, List, [], ◌∷◌}

-- one of two, by a test
abbrev pub pick {ℓ} : {A : Type ℓ} → Bool → A → A → A
pick true a b = a
pick false a b = b

module _ {A : Type 0} where
  -- the first row whose test holds, else the last word: document 01's "its row applies and none earlier does"
  abbrev pub first : List (Bool × A) → A → A
  first [] a = a
  first (row ∷ rows) a = pick row.0 row.1 (first rows a)
