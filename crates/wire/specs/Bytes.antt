-- Numbers in bytes, little-endian (document 01: "All numbers are little-endian"). A run of stores is the kit's `sets`.
-- Assumes nothing.
use Rattle.std.specs.Prelude.{ℕ, zero, suc, ◌+◌, ◌*◌, ◌/◌, ◌%◌, List, [], ◌∷◌, length, take, drop, leb}
use Rattle.wire.specs.Choice.{pick}

-- the k bytes of s from `at` on, or as many of them as s has
abbrev pub part : List ℕ → ℕ → ℕ → List ℕ
part s at k = take k (drop at s)

-- the same where s has them all, else none: document 01's part of the lent bytes, "empty if .. it doesn't fit the bytes"
abbrev pub within : List ℕ → ℕ → ℕ → List ℕ
within s at k = pick (leb (at + k) (length s)) (part s at k) []

-- the number that bytes spell, the lowest first: a missing byte counts as 0
unfoldable pub le : List ℕ → ℕ
le [] = 0
le (b ∷ bs) = b + 256 * le bs

-- the k lowest bytes of n, the lowest first
unfoldable pub bytes : ℕ → ℕ → List ℕ
bytes zero n = []
bytes (suc k) n = n % 256 ∷ bytes k (n / 256)
