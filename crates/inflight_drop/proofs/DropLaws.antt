-- What is left of the requests in the slots of a mask.
-- Assumes nothing.
use mathlib.Core.Path.{◌≡◌, ap, ◌∙◌}
use Prim.Native.Nat.{ℕ, ◌*◌, ◌≤◌, ◌<◌}
use mathlib.Core.List.{List}
use lib.IntN.{ℤ}
use lib.Count.{ones}
use lib.ListN.{length, take, replicate}
use borrow.Author.Tests.{lt-ltb, le-ltb}
use Rattle.std.specs.Prelude.{Ok, Err}
use Rattle.refusal.specs.declared.Refusal.TheVariants.{BufferTooSmall}
use Rattle.inflight.specs.Matching.{over_front}
use Rattle.inflight.specs.Masks.{slots, within, laid_out}
use Rattle.inflight.specs.Tables.{used, line, struck, struck_from, leaving, ends_of, drop_of}
use Rattle.inflight.specs.declared.Table.{Table}

-- the line that is laid out is the table's
module _ (t : Table) (mask : ℕ) {xs : List ℕ} (laid : xs ≡ laid_out t.order (slots (used t)) (replicate 64 0)) where
  line-eq : take (ones (used t)) xs ≡ line t
  unfolding line
  line-eq = rw laid

  pub leaving-eq : {n : ℕ} → n ≡ ones (used t) → within mask (take n xs) ≡ leaving t mask
  leaving-eq e = ap (λ (k : ℕ). within mask (take k xs)) e ∙ ap (within mask) line-eq

  pub struck-eq : struck_from t (take (ones (used t)) xs) mask ≡ struck t mask
  unfolding struck
  struck-eq = ap (λ (l : List ℕ). struck_from t l mask) line-eq

module _ (t : Table) (mask base : ℕ) (out : List ℤ) where
  pub drop-no : length out < 2 * length (leaving t mask) → drop_of t mask base out ≡ record { table = t; answer = Err BufferTooSmall; slice = out }
  unfolding drop_of
  drop-no h = rw (lt-ltb (length out) (2 * length (leaving t mask)) h)

  pub drop-yes : 2 * length (leaving t mask) ≤ length out
      → drop_of t mask base out
      ≡ record { table = struck t mask; answer = Ok (length (leaving t mask)); slice = over_front (ends_of t.numbers t.places base (leaving t mask)) out }
  unfolding drop_of
  drop-yes h = rw (le-ltb (length out) (2 * length (leaving t mask)) h)
