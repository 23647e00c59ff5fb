-- The words before a packet on a padded link (document 02, A7). Assumes nothing.
use Rattle.std.specs.Prelude.{ℕ, ◌+◌, Bool, not, ◌&&◌, List, [], ◌∷◌, length, leb, eqb}
use Rattle.wire.specs.Bytes.{le, part}
use Rattle.wire.specs.Choice.{first}
use Rattle.link_state.specs.declared.Link.{Link}
use Rattle.packet_padding.specs.Padding.{words_allowed}

-- one of the "32-bit words of value 4" at a place, whole
unfoldable pub word_at : List ℕ → ℕ → Bool
word_at s at = leb (at + 4) (length s) && eqb (le (part s at 4)) 4

-- how many of them stand in front, on a link where any may: "up to three", and 4 where there is a fourth
unfoldable pub words_of : Link → List ℕ → ℕ
words_of l s =
    first (
    (eqb (words_allowed l) 0, 0) ∷
    (not (word_at s 0), 0) ∷
    (not (word_at s 4), 1) ∷
    (not (word_at s 8), 2) ∷
    (not (word_at s 12), 3) ∷
    []
    ) 4
