-- The published check values, of the definition itself: "For the ASCII bytes 123456789 they are 0xCBF43926 and 0xE3069283".
-- Assumes nothing.
use mathlib.Core.Path.{◌≡◌, refl}
use mathlib.Core.List.{List, [], ◌∷◌}
use Prim.Native.Nat.{ℕ}
use Rattle.crc.specs.Crc.{reflected, clock, clocks, feed, feeds, crc}
use Rattle.crc.specs.declared.Polynomial.TheVariants.{Ieee, Castagnoli}

abbrev pub digits : List ℕ
digits = 49 ∷ 50 ∷ 51 ∷ 52 ∷ 53 ∷ 54 ∷ 55 ∷ 56 ∷ 57 ∷ []

pub crc32-of-digits : crc (reflected Ieee) digits ≡ 0xcbf4_3926
unfolding crc feeds feed clocks clock
crc32-of-digits = refl

pub crc32c-of-digits : crc (reflected Castagnoli) digits ≡ 0xe306_9283
unfolding crc feeds feed clocks clock
crc32c-of-digits = refl
