-- What the loops of one block compute, whatever its direction. Assumes nothing.
use Rattle.std.specs.Prelude.{◌≡◌, ℕ, zero, suc, ◌+◌, ◌*◌, ◌≤◌, List, length, take, drop}
use Rattle.aes.specs.declared.Quad.{Quad}
use Rattle.aes.specs.Aes.{add}
use Rattle.aes.specs.Words.{bytes4, bytes_of, slant}

-- the last j words of o are the first j columns
abbrev pub Done : (ℕ → List ℕ) → ℕ → Quad → Type 0
Done f zero o = Unit
Done f (suc zero) o = bytes4 o.d ≡ f 0
Done f (suc (suc zero)) o = (bytes4 o.c ≡ f 0) × (bytes4 o.d ≡ f 1)
Done f (suc (suc (suc zero))) o = (bytes4 o.b ≡ f 0) × ((bytes4 o.c ≡ f 1) × (bytes4 o.d ≡ f 2))
Done f (suc (suc (suc (suc j)))) o = (bytes4 o.a ≡ f 0)
    × ((bytes4 o.b ≡ f 1) × ((bytes4 o.c ≡ f 2) × (bytes4 o.d ≡ f 3)))

-- the words of the next column's rows, forth and back
abbrev pub onward : Quad → Quad
onward q = record { a = q.b; b = q.c; c = q.d; d = q.a }

abbrev pub backward : Quad → Quad
backward q = record { a = q.d; b = q.a; c = q.b; d = q.c }

-- back, rows come from the columns before
abbrev pub facing : Quad → Quad
facing q = record { a = q.a; b = q.d; c = q.c; d = q.b }

-- turned j times by g
abbrev pub spun : (Quad → Quad) → ℕ → Quad → Quad
spun g zero q = q
spun g (suc j) q = g (spun g j q)

-- column j of a round with its word of the round key at a place of l: f makes it of its rows, which come from q, and
-- from column to column by g
abbrev pub column_at : (List ℕ → List ℕ) → (Quad → Quad) → List ℕ → ℕ → Quad → ℕ → List ℕ
column_at f g l at q j =
    let p = spun g j q in
    add (f (slant p.a p.b p.c p.d)) (take 4 (drop (at + j * 4) l))

-- four columns are a round, which m makes
abbrev pub Rounds : (List ℕ → List ℕ) → (Quad → Quad) → (Quad → Quad) → (List ℕ → List ℕ) → Type 0
Rounds f h g m =
    (l : List ℕ) (at : ℕ) → at + 16 ≤ length l → (s o : Quad) → Done (column_at f g l at (h s)) 4 o
    → bytes_of o ≡ add (m (bytes_of s)) (take 16 (drop at l))

-- n rounds, each with the round key at its place of k
unfoldable pub rounds_of : (List ℕ → List ℕ) → (ℕ → ℕ) → ℕ → List ℕ → List ℕ → List ℕ
rounds_of m place zero k s = s
rounds_of m place (suc n) k s = add (m (rounds_of m place n k s)) (take 16 (drop (place (suc n)) k))

-- a key before the rounds, and the last round
unfoldable pub ciphered : (List ℕ → List ℕ) → (List ℕ → List ℕ) → (ℕ → ℕ) → List ℕ → List ℕ → List ℕ
ciphered m last place k s =
    add (last (rounds_of m place 13 k (add s (take 16 (drop (place 0) k))))) (take 16 (drop (place 14) k))
