-- What the parts of a step leave, put together. Assumes nothing.
use mathlib.Core.Path.{◌≡◌, refl, sym, ap, ◌∙◌, subst}
use Prim.Native.Nat.{ℕ, ◌+◌, ◌-◌, ◌≤◌}
use native.Mathlib.Omega.{arith}
use mathlib.Core.Bool.{Bool, not, ◌&&◌, ◌||◌}
use mathlib.Core.List.{List, ◌++◌}
use lib.Dec.{eqb, ltb}
use lib.ListN.{length, take, drop, length-take, length-drop}
use lib.Seq.{sets, length-sets, length-take-le, take-add}
use Rattle.wire.specs.Bytes.{part}
use Rattle.inflight.specs.declared.Table.{Table}
use Rattle.walk.specs.Walk.{Outcome, walk_of, Told}
use Rattle.walk.specs.declared.Walked.{Walked}
use Rattle.walk_claims.specs.ProgramText.{Fed, feed}
use Rattle.walk_claims.proofs.Bounds.{bounds}
use Rattle.walk_progress.specs.declared.Progress.{Progress}
use Rattle.walk_steps.specs.Step.{FilledUnless, held_of, fed_of, last_of, Stepped}
use Rattle.walk_steps.proofs.MoveLaws.{part_cut}

-- what waited and what was read
joined-read : (p : Progress) (events filled : List ℕ) (end : ℕ) → FilledUnless p.ended (held_of p events) events end filled
    → take (held_of p events) events ++ part filled (held_of p events) (end - held_of p events) ≡ take end filled
joined-read p events filled end f =
    let h : ℕ = held_of p events in
    let e : h + (end - h) ≡ end = omega (arith, f.filled.least) in
    ap (λ (x : List ℕ). x ++ part filled h (end - h)) (sym f.filled.kept) ∙ sym (take-add h (end - h) filled) ∙ ap (λ (m : ℕ). take m filled) e

-- a call of the walk, in the words of its pieces
abbrev fed_by : Outcome → List ℕ → Fed
fed_by o es = record { table = o.table; left = drop o.consumed es; text = o.text; stopped = o.stopped }

fed-is : (last : Bool) (t : Table) (p : Progress) (events piece : List ℕ) (room : ℕ) (es : List ℕ)
    → take (held_of p events) events ++ piece ≡ es
    → fed_by (walk_of t es room last) es ≡ feed last (fed_of t p events) piece room
unfolding feed
fed-is last t p events piece room es e = rw (sym e) refl

-- the walk stays within what it was lent
pub told-consumed : {u : Table} {o : List ℕ} {w : Walked} (t : Table) (filled out : List ℕ) (end : ℕ) (last : Bool)
    → Told (walk_of t (part filled 0 (end - 0)) (length out) last) out u w o → w.consumed ≤ end
told-consumed t filled out end last told =
    let es : List ℕ = part filled 0 (end - 0) in
    omega (arith, (bounds t es (length out) last).consumed, length-take (end - 0) (drop 0 filled), ap (λ (w : Walked). w.consumed) told.answer)

pub told-written : {u : Table} {o : List ℕ} {w : Walked} (t : Table) (es out : List ℕ) (last : Bool)
    → Told (walk_of t es (length out) last) out u w o → w.written ≤ length o
told-written {u} {o} t es out last told =
    let l : length o ≡ length out = ap length told.text ∙ length-sets out 0 (walk_of t es (length out) last).text in
    omega (arith, (bounds t es (length out) last).written, ap (λ (w : Walked). w.written) told.answer)

pub stepped : (t : Table) (p : Progress) (events out filled : List ℕ) (from end : ℕ) (last written more : Bool)
    (u : Table) (w : Walked) (events_after out_after : List ℕ)
    → from ≡ held_of p events → FilledUnless p.ended from events end filled
    → last ≡ (p.ended || (ltb from (length filled) && eqb (end - from) 0))
    → Told (walk_of t (part filled 0 (end - 0)) (length out) last) out u w out_after
    → events_after ≡ sets filled 0 (part filled w.consumed (end - w.consumed))
    → more ≡ (written && not (w.stopped || (last && eqb (end - w.consumed) 0)))
    → Stepped t p events out u (record { have = end - w.consumed; ended = last; more = more }) events_after out_after
stepped t p events out filled from end last written more u w events_after out_after held read ended told moved m =
    let h : ℕ = held_of p events in
    let f : FilledUnless p.ended h events end filled = subst (λ (k : ℕ). FilledUnless p.ended k events end filled) held read in
    let l : last ≡ last_of p events (end - h) =
    ended ∙ ap (λ (n : ℕ). p.ended || (ltb from n && eqb (end - from) 0)) f.filled.size
    ∙ ap (λ (k : ℕ). p.ended || (ltb k (length events) && eqb (end - k) 0)) held in
    let es : List ℕ = part filled 0 (end - 0) in
    let z : end - 0 ≡ end = omega arith in
    let whole : es ≡ take end filled = ap (λ (k : ℕ). take k filled) z in
    let o : Outcome = walk_of t es (length out) last in
    let n : length es ≡ end = ap length whole ∙ length-take-le end filled (omega (arith, f.filled.fits, f.filled.size)) in
    let c : w.consumed ≡ o.consumed = ap (λ (x : Walked). x.consumed) told.answer in
    let b : w.consumed ≤ end = told-consumed t filled out end last told in
    let left : end - w.consumed ≡ length (drop o.consumed es) = rw length-drop (omega arith) in
    record {
      filled = filled;
      count = end - h;
      written = written;
      size = f.filled.size;
      kept = f.filled.kept;
      fits = omega (arith, f.filled.least, f.filled.fits);
      none = λ q. (omega (arith, (f.none q).0), (f.none q).1);
      fed = fed_by o es;
      is = fed-is last t p events (part filled h (end - h)) (length out) es
          (joined-read p events filled end f ∙ sym whole)
          ∙ ap (λ (x : Bool). feed x (fed_of t p events) (part filled h (end - h)) (length out)) l;
      table = told.table;
      have = left;
      ended = l;
      more = m ∙ rw (← l, ← left, ap (λ (x : Walked). x.stopped) told.answer) refl;
      events_is = moved
          ∙ ap (sets filled 0)
          (part_cut filled w.consumed end b (omega (arith, f.filled.fits, f.filled.size))
          ∙ ap (drop w.consumed) (sym whole) ∙ ap (λ (k : ℕ). drop k es) c);
      out_is = told.text;
    }
