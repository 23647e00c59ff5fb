-- Where masks lose some slots, and the order places the others of the line as it did, from 0 on, the tie is kept and
-- just those slots leave the line. Striking a mask does so.
-- Assumes nothing.
use mathlib.Core.Path.{◌≡◌, sym, ap, ◌∙◌}
use Prim.Native.Nat.{ℕ, ◌+◌, ◌-◌, ◌^◌, ◌<◌, min}
use native.Mathlib.Omega.{arith}
use mathlib.Core.Bool.{Bool, true, false}
use mathlib.Core.List.{List}
use lib.Dec.{eqb}
use lib.Bits.{and_zero_l, and_le_l}
use lib.Count.{ones}
use lib.ListN.{length, take, get_or, replicate}
use Rattle.wire.specs.Choice.{pick}
use Rattle.inflight.specs.Masks.{bit_at, slots, cut, outside, laid_out, placed_anew}
use Rattle.inflight.specs.Tables.{line, table_of, used, mine, cut_all, struck}
use Rattle.inflight.specs.declared.Table.{Table}
use Rattle.inflight_tied.proofs.Tied.{occ, Tied, Aged}
use Rattle.inflight_tied.proofs.Ties.{bit_cut, bit-most, cut-occ, get_d_map, outside_below, outside-occ}
use Rattle.inflight_tied.proofs.LaidOut.{laid-line, anew-length, aged-anew}

-- a table whose masks lose the slots of one, with another order
abbrev pub cut_by : Table → ℕ → List ℕ → Table
cut_by w g os = table_of (cut_all g w.masks) w.numbers w.places os w.times

module _ (w : Table) (g : ℕ) (f : g < 2 ^ 64) (t : Tied w) where
  left-fits : cut g (used w) < 2 ^ 64
  left-fits = let a = and_le_l (used w) (18446744073709551615 - g) in let b = t.fits in omega arith

  left-occ : (i : ℕ) → i < 64 → occ i (outside g (line w)) ≡ bit_at i (cut g (used w))
  left-occ i h =
      outside-occ g i (line w) h t.low
      ∙ cut-occ (bit_at i (used w)) (bit_at i g) (occ i (line w)) (bit-most i (used w)) (bit-most i g) (t.tie i h)
      ∙ sym (bit_cut i g (used w) h f)

  own-cut : (p : ℕ) → p < 8 → (i : ℕ) → i < 64
      → bit_at i (cut g (mine w p)) ≡ pick (eqb (get_or w.places (64 + i) 0) p) (bit_at i (cut g (used w))) 0
  own-cut p h i k =
      bit_cut i g (mine w p) k f
      ∙ ap (λ (x : ℕ). min x (1 - bit_at i g)) (t.own p h i k)
      ∙ go (eqb (get_or w.places (64 + i) 0) p)
    where
      go : (s : Bool) → min (pick s (bit_at i (used w)) 0) (1 - bit_at i g) ≡ pick s (bit_at i (cut g (used w))) 0
      go true = sym (bit_cut i g (used w) k f)
      go false = omega arith

  mask-cut : (k : ℕ) → get_or (cut_all g w.masks) k 0 ≡ cut g (get_or w.masks k 0)
  mask-cut k = get_d_map (cut g) w.masks k (and_zero_l (18446744073709551615 - g))

  module _ (os : List ℕ) (n : length os ≡ 64) (a : Aged os 0 (outside g (line w))) where
    pub cut_line : line (cut_by w g os) ≡ outside g (line w)
    unfolding line
    cut_line =
        ap (λ (u : ℕ). take (ones u) (laid_out os (slots u) (replicate 64 0))) (mask-cut 0)
        ∙ laid-line os (cut g (used w)) (outside g (line w)) left-fits (outside_below g (line w) t.low) left-occ a

    pub cut_tied : Tied (cut_by w g os)
    cut_tied =
        record {
          fits = rw (mask-cut 0) left-fits;
          narrow =
              λ p. rw (mask-cut (1 + p))
              (let x = and_le_l (mine w p) (18446744073709551615 - g) in let b = t.narrow p in omega arith);
          low = rw cut_line (outside_below g (line w) t.low);
          tie = λ i h. ap (occ i) cut_line ∙ left-occ i h ∙ ap (bit_at i) (sym (mask-cut 0));
          own =
              λ p h i k. ap (bit_at i) (mask-cut (1 + p))
              ∙ own-cut p h i k
              ∙ ap (λ (x : ℕ). pick (eqb (get_or w.places (64 + i) 0) p) (bit_at i x) 0) (sym (mask-cut 0));
          whole = n;
          aged = rw cut_line a;
        }

  -- ---- striking

  anew : Aged (placed_anew (outside g (line w)) 0 w.order) 0 (outside g (line w))
  anew =
      aged-anew (outside g (line w)) 0 w.order t.whole (outside_below g (line w) t.low)
      (λ i h. let a = left-occ i h in let b = bit-most i (cut g (used w)) in omega arith)

  anew-whole : length (placed_anew (outside g (line w)) 0 w.order) ≡ 64
  anew-whole = anew-length (outside g (line w)) 0 w.order ∙ t.whole

  pub struck-line : line (struck w g) ≡ outside g (line w)
  unfolding struck
  struck-line = cut_line (placed_anew (outside g (line w)) 0 w.order) anew-whole anew

  pub struck-tied : Tied (struck w g)
  unfolding struck
  struck-tied = cut_tied (placed_anew (outside g (line w)) 0 w.order) anew-whole anew
