-- Blocks as four words: read, stored, and what their rows are. Assumes nothing.
use mathlib.Core.Path.{◌≡◌, refl, sym, ap, ap₂, ◌∙◌}
use mathlib.Core.List.{List, ◌++◌}
use Prim.Native.Nat.{ℕ}
use native.Mathlib.Omega.{arith}
use lib.ListN.{length, take}
use lib.Seq.{sets, length-sets, take_all}
use Rattle.wire.proofs.ByteLaws.{part-sets}
use Rattle.aes.specs.declared.Quad.{Quad}
use Rattle.aes.specs.Words.{bytes4, bytes_of}

pub join4 : {p q r s p' q' r' s' : List ℕ} → p ≡ p' → q ≡ q' → r ≡ r' → s ≡ s'
    → p ++ (q ++ (r ++ s)) ≡ p' ++ (q' ++ (r' ++ s'))
join4 p q r s = ap₂ ◌++◌ p (ap₂ ◌++◌ q (ap₂ ◌++◌ r s))

pub sixteen : (q : Quad) → length (bytes_of q) ≡ 16
unfolding bytes_of bytes4
sixteen q = refl

-- ---- sixteen bytes, stored in front of a list as long
pub array-law : {d1 : List ℕ} (d x : List ℕ) → length d ≡ length x → d1 ≡ sets d 0 x → d1 ≡ x
array-law {d1} d x e f =
    let g : length d1 ≡ length x = ap length f ∙ length-sets d 0 x ∙ e in
    sym (take_all (length x) d1 (omega arith)) ∙ ap (take (length x)) f ∙ part-sets d 0 (length x) x refl (omega arith)
