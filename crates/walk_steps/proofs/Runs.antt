-- A run of steps prints the walk's text over the pieces that it read; once it is over, this is the model's. Assumes nothing.
use mathlib.Core.Path.{◌≡◌, refl, sym, ap, ◌∙◌, subst}
use Prim.Native.Nat.{ℕ, ◌+◌, ◌≤◌}
use native.Mathlib.Nat.{min-eq_left}
use native.Mathlib.Omega.{arith}
use mathlib.Core.Bool.{Bool, true, false, not, ◌&&◌, ◌||◌, true≢false}
use mathlib.Core.List.{List, [], ◌∷◌, ◌++◌}
use borrow.Author.Tests.{eqb-true}
use lib.Dec.{eqb, ltb}
use lib.ListN.{length, take, drop, length-append, length-drop, length-take}
use lib.Seq.{sets, length-sets, sets-eq, take-append_seam}
use Rattle.wire.specs.Bytes.{part}
use Rattle.inflight.specs.Tables.{Sized, fresh_of}
use Rattle.inflight.specs.declared.Table.{Table}
use Rattle.walk_claims.specs.ProgramText.{Fed, fed_first, feed, Piece, feed_all, finish, joined, model_text, over}
use Rattle.walk_claims.proofs.ProgramText.{program-texts}
use Rattle.walk_progress.specs.declared.Progress.{Progress}
use Rattle.walk_progress.specs.Start.{one, start_of}
use Rattle.walk_steps.specs.Step.{held_of, fed_of, last_of, Stepped}
use Rattle.walk_steps.specs.Runs.{Run, piece_of, Runs}

-- ---- one piece, or one call without a piece, more

feed-all-more : (s : Fed) (ps : List Piece) (p : Piece) → feed_all s (ps ++ p ∷ []) ≡ feed false (feed_all s ps) p.bytes p.room
unfolding feed_all
feed-all-more s [] p = refl
feed-all-more s (q ∷ ps) p = feed-all-more (feed false s q.bytes q.room) ps p

finish-more : (s : Fed) (rooms : List ℕ) (room : ℕ) → finish s (rooms ++ room ∷ []) ≡ feed true (finish s rooms) [] room
unfolding finish
finish-more s [] room = refl
finish-more s (r ∷ rooms) room = finish-more (feed true s [] r) rooms room

joined-more : (ps : List Piece) (p : Piece) → p.bytes ≡ [] → joined (ps ++ p ∷ []) ≡ joined ps
unfolding joined
joined-more [] p e = rw e refl
joined-more (q ∷ ps) p e = ap (λ (x : List ℕ). q.bytes ++ x) (joined-more ps p e)

-- ---- a call of the walk, and the text before it

abbrev behind : List ℕ → Fed → Fed
behind text s = record { table = s.table; left = s.left; text = text ++ s.text; stopped = s.stopped }

abbrev bare : Fed → Fed
bare s = record { table = s.table; left = s.left; text = []; stopped = false }

feed-behind : (last : Bool) (s : Fed) (piece : List ℕ) (room : ℕ) → s.stopped ≡ false
    → behind s.text (feed last (bare s) piece room) ≡ feed last s piece room
unfolding feed
feed-behind last s piece room e = rw e refl

-- what is left is no longer than what there was
left-short : (last : Bool) (s : Fed) (piece : List ℕ) (room : ℕ) → s.stopped ≡ false
    → length (feed last s piece room).left ≤ length s.left + length piece
unfolding feed
left-short last s piece room e = rw (e, length-drop, length-append) (omega arith)

-- what was stored at the front is found there
front-again : (d l : List ℕ) → length l ≤ length d → take (length l) (sets d 0 l) ≡ l
front-again d l h = ap (take (length l)) (sets-eq l d 0 (omega arith)) ∙ take-append_seam l (drop (0 + length l) d)

-- ---- one step more

last_none : (ended : Bool) (a : Bool) (count : ℕ) → (ended ≡ true → count ≡ 0) → ended || (a && eqb count 0) ≡ true → count ≡ 0
last_none true a count h q = h refl
last_none false true count h q = eqb-true count 0 q
last_none false false count h q = absurd (true≢false (sym q))

not-ended : (ended b : Bool) → ended || b ≡ false → ended ≡ false
not-ended true b q = absurd (true≢false q)
not-ended false b q = refl

more-going : (written stopped b : Bool) → written && not (stopped || b) ≡ true → stopped ≡ false
more-going true true b q = absurd (true≢false (sym q))
more-going true false b q = refl
more-going false stopped b q = absurd (true≢false (sym q))

end-over : (stopped last z : Bool) → true && not (stopped || (last && z)) ≡ false → stopped || z ≡ true
end-over true last z q = refl
end-over false true true q = refl
end-over false true false q = absurd (true≢false q)
end-over false false z q = absurd (true≢false q)

abbrev start : Table → Fed
start z = fed_first (fresh_of z one).table

none_yet : (s : Fed) → finish s [] ≡ s
unfolding finish
none_yet s = refl

-- what a run has read and done with one step more
record Longer (z : Table) (last : Bool) (fed : Fed) (pieces : List Piece) : Type 0 where
  pieces' : List Piece
  rooms' : List ℕ
  is : fed ≡ finish (feed_all (start z) pieces') rooms'
  reading : last ≡ false → rooms' ≡ []
  same : joined pieces' ≡ joined pieces

module _ {t u : Table} {p r : Progress} {events out text events_after out_after : List ℕ}
    (run : Run t p events text) (s : Stepped t p events out u r events_after out_after) where
  abbrev first : Fed
  first = start run.former

  abbrev last : Bool
  last = last_of p events s.count

  held : held_of p events ≡ p.have
  held = min-eq_left run.within

  from-run : fed_of t p events ≡ bare run.fed
  from-run = rw (held, run.table, run.left) refl

  abbrev next : Fed
  next = behind run.fed.text s.fed

  next-is : next ≡ feed last run.fed (piece_of s).bytes (length out)
  next-is =
      ap (behind run.fed.text) (s.is ∙ ap (λ (x : Fed). feed last x (piece_of s).bytes (length out)) from-run)
      ∙ feed-behind last run.fed (piece_of s).bytes (length out) run.going

  on : (b : Bool) → last ≡ b → next ≡ feed b run.fed (piece_of s).bytes (length out)
  on b q = next-is ∙ ap (λ (x : Bool). feed x run.fed (piece_of s).bytes (length out)) q

  -- the last bytes are none
  nothing : last ≡ true → (piece_of s).bytes ≡ []
  nothing q =
      ap (λ (k : ℕ). part s.filled (held_of p events) k)
      (last_none p.ended (ltb (held_of p events) (length events)) s.count (λ e. (s.none e).0) q)

  longer : Longer run.former last next (run.pieces ++ piece_of s ∷ [])
  longer = go last refl
    where
      go : (b : Bool) → last ≡ b → Longer run.former b next (run.pieces ++ piece_of s ∷ [])
      go false q =
          record {
            pieces' = run.pieces ++ piece_of s ∷ [];
            rooms' = [];
            is = on false q
                ∙ ap (λ (x : Fed). feed false x (piece_of s).bytes (length out))
                (run.is ∙ ap (finish (feed_all first run.pieces)) (run.reading (not-ended p.ended _ q))
                ∙ none_yet (feed_all first run.pieces))
                ∙ sym (feed-all-more first run.pieces (piece_of s))
                ∙ sym (none_yet (feed_all first (run.pieces ++ piece_of s ∷ [])));
            reading = λ z. refl;
            same = refl;
          }
      go true q =
          record {
            pieces' = run.pieces;
            rooms' = run.rooms ++ length out ∷ [];
            is = on true q
                ∙ ap (λ (x : List ℕ). feed true run.fed x (length out)) (nothing q)
                ∙ ap (λ (x : Fed). feed true x [] (length out)) run.is
                ∙ sym (finish-more (feed_all first run.pieces) run.rooms (length out));
            reading = λ z. absurd (true≢false z);
            same = sym (joined-more run.pieces (piece_of s) (nothing q));
          }

  -- what is left fits the buffer
  left-fits : length s.fed.left ≤ length s.filled
  left-fits =
      let l : length s.fed.left ≤ length (take (held_of p events) events) + length (piece_of s).bytes =
      subst (λ (x : Fed). length x.left ≤ length (take (held_of p events) events) + length (piece_of s).bytes) (sym s.is)
      (left-short last (fed_of t p events) (piece_of s).bytes (length out) refl) in
      omega (
        arith,
        l,
        length-take (held_of p events) events,
        length-take s.count (drop (held_of p events) s.filled),
        s.fits,
        s.size,
      )

  goes : r.more ≡ true → Run u r events_after (text ++ s.fed.text)
  goes m =
      record {
        former = run.former;
        sized = run.sized;
        pieces = longer.pieces';
        rooms = longer.rooms';
        fed = next;
        is = longer.is;
        reading = λ q. longer.reading (sym s.ended ∙ q);
        table = s.table;
        left = rw (s.have, s.events_is) (front-again s.filled s.fed.left left-fits);
        within = omega (arith, s.have, left-fits, ap length s.events_is ∙ length-sets s.filled 0 s.fed.left);
        going = more-going s.written s.fed.stopped (last && eqb (length s.fed.left) 0) (sym s.more ∙ m);
        text_is = ap (λ (x : List ℕ). x ++ s.fed.text) run.text_is;
      }

  ends : s.written ≡ true → r.more ≡ false → text ++ s.fed.text ≡ model_text one (joined (run.pieces ++ piece_of s ∷ []))
  ends w m =
      let e : over next ≡ true = end-over s.fed.stopped last (eqb (length s.fed.left) 0)
      (ap (λ (x : Bool). x && not (s.fed.stopped || (last && eqb (length s.fed.left) 0))) (sym w) ∙ sym s.more ∙ m) in
      ap (λ (x : List ℕ). x ++ s.fed.text) run.text_is
      ∙ ap (λ (x : Fed). x.text) longer.is
      ∙ (program-texts run.former run.sized 1 (omega arith) (omega arith)
      ).pieces longer.pieces' longer.rooms' (ap over (sym longer.is) ∙ e)
      ∙ ap (model_text one) longer.same

first_run : (z : Table) → Sized z → (events : List ℕ) → Run (fresh_of z one).table start_of events []
unfolding start_of finish feed_all
first_run z sized events =
    record {
      former = z;
      sized = sized;
      pieces = [];
      rooms = [];
      fed = start z;
      is = refl;
      reading = λ q. refl;
      table = refl;
      left = refl;
      within = omega arith;
      going = refl;
      text_is = refl;
    }

pub runs : Runs
runs =
    record {
      begins = first_run;
      goes_on = λ t u p r events out text events_after out_after run s m. goes run s m;
      ends_as_model = λ t u p r events out text events_after out_after run s w m. ends run s w m;
    }
