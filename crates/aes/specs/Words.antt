-- Words of four bytes as numbers, the first byte lowest, and the products that an engine looks up. Only how a block is
-- computed speaks of these; what the cipher is does not. Assumes nothing.
use Rattle.std.specs.Prelude.{ℕ, ◌/◌, ◌%◌, List, [], ◌∷◌, ◌++◌, get_or}
use Rattle.aes.specs.declared.Quad.{Quad}
use Rattle.aes.specs.Field.{mul, sbox}

-- the bytes of a word
unfoldable pub bytes4 : ℕ → List ℕ
bytes4 w = w % 256 ∷ w / 256 % 256 ∷ w / 65536 % 256 ∷ w / 16777216 % 256 ∷ []

-- the sixteen bytes of a block
unfoldable pub bytes_of : Quad → List ℕ
bytes_of q = bytes4 q.a ++ (bytes4 q.b ++ (bytes4 q.c ++ bytes4 q.d))

-- the products of the substitute of x with the first column of MixColumns' matrix
unfoldable pub products : ℕ → List ℕ
products x = mul (sbox x) 2 ∷ mul (sbox x) 1 ∷ mul (sbox x) 1 ∷ mul (sbox x) 3 ∷ []

-- the products of y with the first column of InvMixColumns' matrix
unfoldable pub unproducts : ℕ → List ℕ
unproducts y = mul y 14 ∷ mul y 9 ∷ mul y 13 ∷ mul y 11 ∷ []

-- the bytes of a word, its last one first
abbrev pub turn_list : List ℕ → List ℕ
turn_list l = get_or l 3 0 ∷ get_or l 0 0 ∷ get_or l 1 0 ∷ get_or l 2 0 ∷ []

-- the rows of a column whose first row is in a, the second in b, and so on: each word gives one byte
abbrev pub slant : ℕ → ℕ → ℕ → ℕ → List ℕ
slant a b c d = a % 256 ∷ b / 256 % 256 ∷ c / 65536 % 256 ∷ d / 16777216 % 256 ∷ []
