-- How long a line can be.
-- Assumes nothing.
use Rattle.std.proofs.Common.{◌+◌, ◌*◌, ◌/◌, ◌%◌, ◌≤◌, ℕ, zero, suc, Bool, true, false, List, [], ◌∷◌, ◌++◌, ℤ, pos, negsuc, length, arith}
use lib.Dec.{ltb}
use lib.ListN.{length-append}
use Rattle.wire.specs.Choice.{pick}
use Rattle.walk_turn.specs.Lines.{digits, decimal, signed, line, pair_line, refused_line, drop_line, drop_lines, no_word, drop_word}

-- ---- digits

digits-most : (more n : ℕ) → length (digits more n) ≤ suc more
unfolding digits
digits-most zero n = omega arith
digits-most (suc more) n = go (ltb n 10) (digits-most more (n / 10))
  where
    go : (b : Bool) → length (digits more (n / 10)) ≤ suc more → length (pick b ((48 + n % 10) ∷ []) (digits more (n / 10) ++ (48 + n % 10) ∷ [])) ≤ suc (suc more)
    go true h = omega arith
    go false h = rw length-append (omega arith)

pub decimal-most : (n : ℕ) → length (decimal n) ≤ 20
unfolding decimal
decimal-most n = digits-most 19 n

-- ---- signed numbers

pub signed-most : (n : ℤ) → length (signed n) ≤ 21
unfolding signed
signed-most (pos n) = omega (arith, decimal-most n)
signed-most (negsuc n) = omega (arith, decimal-most (suc n))

-- ---- lines

pub line-most : (word : List ℕ) (a : ℤ) → length (line word a) ≤ length word + 22
unfolding line
line-most word a = rw (length-append, length-append) (omega (arith, signed-most a))

pub pair-most : (word : List ℕ) (a b : ℤ) → length (pair_line word a b) ≤ length word + 44
unfolding pair_line
pair-most word a b = simp length-append (omega (arith, signed-most a, signed-most b))

pub refused-most : (k : ℕ) → length (refused_line k) ≤ 25
unfolding refused_line
refused-most k = line-most no_word (pos k)

pub drop-most : (ends : List ℤ) (i : ℕ) → length (drop_line ends i) ≤ 49
unfolding drop_line
drop-most ends i = pair-most drop_word _ _

pub drops-most : (n : ℕ) (ends : List ℤ) → length (drop_lines n ends) ≤ 49 * n
unfolding drop_lines
drops-most zero ends = omega arith
drops-most (suc n) ends = rw length-append (omega (arith, drops-most n ends, drop-most ends n))
