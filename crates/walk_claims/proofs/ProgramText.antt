-- The program's text is the model's.
-- Assumes nothing.
use mathlib.Core.Path.{◌≡◌, refl, sym, ap, ◌∙◌, subst}
use Prim.Native.Nat.{ℕ, ◌+◌, ◌≤◌}
use native.Mathlib.Omega.{arith}
use mathlib.Core.Bool.{Bool, true, false, ◌||◌, true≢false}
use mathlib.Core.List.{List, [], ◌∷◌, ◌++◌, append-nil, append_assoc}
use borrow.Author.Tests.{eqb-true}
use lib.Dec.{eqb}
use lib.IntN.{pos}
use lib.ListN.{length, drop}
use lib.Seq.{drop-append-le}
use Rattle.wire.specs.Choice.{pick}
use Rattle.inflight.specs.declared.PublisherNumber.{PublisherNumber}
use Rattle.inflight.specs.Tables.{Sized, fresh_of}
use Rattle.inflight.specs.declared.Table.{Table}
use Rattle.inflight_claims.proofs.ListClaim.{listed}
use Rattle.walk.specs.Walk.{Outcome, walk_from, walk_of}
use Rattle.walk_claims.specs.ProgramText.{calls_from, model_text, Fed, fed_first, fed_next, feed, Piece, feed_all, finish, joined, over, ProgramText, ProgramTexts}
use Rattle.walk_claims.proofs.FullText.{full_from, told, full_is, enough}
use Rattle.walk_claims.proofs.Ends.{comes-to-an-end}
use Rattle.walk_claims.proofs.Resume.{full, resume, consumed-most}

-- ---- a caller's pieces

-- the text so far, and what the bytes left give with more behind them
abbrev promised : Fed → List ℕ → List ℕ
promised s more = s.text ++ pick s.stopped [] (full s.table (s.left ++ more))

-- after a call the promise is the same
feed-keeps : (last : Bool) (s : Fed) (piece : List ℕ) (room : ℕ) (more : List ℕ) → (last ≡ true → more ≡ []) → promised (feed last s piece room) more ≡ promised s (piece ++ more)
unfolding feed walk_of
feed-keeps last s piece room more m = go s.stopped refl
  where
    o : Outcome
    o = walk_from (length (s.left ++ piece)) s.table (s.left ++ piece) room last

    go : (b : Bool) → s.stopped ≡ b → promised (pick b s (fed_next s (s.left ++ piece) o)) more ≡ s.text ++ pick b [] (full s.table (s.left ++ (piece ++ more)))
    go true q = rw q
    go false q =
        let xs : List ℕ = s.left ++ piece in
        append_assoc s.text o.text (pick o.stopped [] (full o.table (drop o.consumed xs ++ more)))
        ∙ ap (λ (x : List ℕ). s.text ++ x)
        (ap (λ (x : List ℕ). o.text ++ pick o.stopped [] (full o.table x)) (sym (drop-append-le o.consumed xs more (consumed-most (length xs) s.table xs room last)))
        ∙ sym (resume (length xs) s.table xs more room last (length (xs ++ more)) m (omega arith))
        ∙ ap (full s.table) (append_assoc s.left piece more))

feed-all-keeps : (s : Fed) (ps : List Piece) (more : List ℕ) → promised (feed_all s ps) more ≡ promised s (joined ps ++ more)
unfolding feed_all joined
feed-all-keeps s [] more = refl
feed-all-keeps s (p ∷ ps) more =
    feed-all-keeps (feed false s p.bytes p.room) ps more
    ∙ feed-keeps false s p.bytes p.room (joined ps ++ more) (λ q. absurd (true≢false (sym q)))
    ∙ ap (promised s) (sym (append_assoc p.bytes (joined ps) more))

finish-keeps : (s : Fed) (rooms : List ℕ) → promised (finish s rooms) [] ≡ promised s []
unfolding finish
finish-keeps s [] = refl
finish-keeps s (room ∷ rooms) = finish-keeps (feed true s [] room) rooms ∙ feed-keeps true s [] room [] (λ q. refl)

-- ---- the end

nil-of : (l : List ℕ) → length l ≡ 0 → l ≡ []
nil-of [] h = refl
nil-of (x ∷ l) h = absurd (omega arith)

over-text : (s : Fed) → over s ≡ true → promised s [] ≡ s.text
unfolding full_from
over-text s h = go s.stopped h
  where
    go : (b : Bool) → b || eqb (length s.left) 0 ≡ true → s.text ++ pick b [] (full s.table (s.left ++ [])) ≡ s.text
    go true q = append-nil s.text
    go false q = rw (nil-of s.left (eqb-true (length s.left) 0 q)) (append-nil s.text)

module _ (t : Table) (sized : Sized t) (n : ℕ) (a : 1 ≤ n) (b : n ≤ 9223372036854775807) where
  abbrev first : PublisherNumber
  first = record { 0 = pos n }

  full-text : (es : List ℕ) → full (fresh_of t first).table es ≡ model_text first es
  unfolding told model_text
  full-text es = full_is (length es) (fresh_of t first).table es ∙ rw (listed t sized n a b (calls_from (length es) es)).heard

  pub program-text : ProgramText t first
  unfolding walk_of
  program-text =
      record {
        whole = λ es room h.
            enough (length es) (fresh_of t first).table es room (subst (λ (x : List ℕ). length x + 4096 ≤ room) (sym (full-text es)) h) ∙ full-text es;
        pieces = λ ps rooms h.
            sym (over-text (finish (feed_all (fed_first (fresh_of t first).table) ps) rooms) h)
            ∙ finish-keeps (feed_all (fed_first (fresh_of t first).table) ps) rooms
            ∙ feed-all-keeps (fed_first (fresh_of t first).table) ps []
            ∙ ap (full (fresh_of t first).table) (append-nil (joined ps))
            ∙ full-text (joined ps);
        ends = λ ps. comes-to-an-end (fed_first (fresh_of t first).table) ps refl;
      }

pub program-texts : ProgramTexts
program-texts t sized n a b = program-text t sized n a b
