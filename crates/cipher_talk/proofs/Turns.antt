-- WHAT IS SAID IS HEARD: a turn of one end, any list of turns of either. Assumes nothing.
use native.Mathlib.Omega.{arith}
use mathlib.Core.Path.{◌≡◌, refl, ap, sym, ◌∙◌}
use mathlib.Core.Bool.{Bool, true, false, not}
use mathlib.Core.List.{List, [], ◌∷◌, ◌++◌}
use Prim.Native.Nat.{ℕ, ◌+◌, ◌-◌, ◌%◌, ◌≤◌}
use lib.ListN.{length}
use Rattle.std.specs.Result.{IsOk}
use Rattle.wire.specs.Choice.{pick}
use Rattle.aes.specs.Aes.{keys}
use Rattle.aes.specs.Cbc.{encipher_answer, encipher_vector, encipher_buffer}
use Rattle.cipher_laws.specs.Sizes.{Bytes, Whole}
use Rattle.cipher_laws.proofs.Schedule.{keys_of}
use Rattle.cipher_laws.proofs.Calls.{done-forth, bytes-forth}
use Rattle.link_state.specs.declared.Link.{Link}
use Rattle.link_state.specs.declared.Moment.{Moment}
use Rattle.packet_padding.specs.Padding.{fours_of}
use Rattle.flush.specs.Flush.{words_due, flush_step}
use Rattle.flush.proofs.FlushLaws.{due-small}
use Rattle.pair.proofs.SumLaws.{small-append}
use Rattle.cipher_talk.specs.Drain.{Got, Piece}
use Rattle.cipher_talk.specs.Comes.{Comes}
use Rattle.cipher_talk.specs.Ends.{End, Said, Wrote, says, meant, flushed, Out}
use Rattle.cipher_talk.specs.Ends.{goes_out, Cut, cut_by, In, all_in, AllDone}
use Rattle.cipher_talk.specs.Ends.{Turn, out_of, in_of, heard_in, meant_in, AllFit, AllSound, Meets}
use Rattle.cipher_talk.proofs.Low.{low-bytes, small-fours}
use Rattle.cipher_talk.proofs.Says.{Speaks, padded, pads, Size, sizes, Run, run}
use Rattle.cipher_talk.proofs.Flushes.{Kept, kept, level-again, flushed-is, blocks, due-is, begun}
use Rattle.cipher_talk.proofs.Carried.{arrived, none-refused, carries}

other : (a b : Bool) → a ≡ not b → b ≡ not a
other true false e = refl
other false true e = refl
other true true e = let z : ◌≡◌ {A = ℕ} 0 1 = cc in absurd (omega arith)
other false false e = let z : ◌≡◌ {A = ℕ} 0 1 = cc in absurd (omega arith)

-- the same bytes
pub same_bytes : {k k2 : Link} {s u t : List ℕ} {gs : List Got} → u ≡ s → Comes k s gs k2 t → Comes k u gs k2 t
same_bytes e c = rw e c

-- ---- one turn, from a to b

module _ (a b : End) (ss : List Said) (room : List ℕ) (cs : List Cut) (last : Moment) (j : Meets a b) (f : AllFit ss)
    (r : 12 ≤ length room) where
  speaks : Speaks a.link b.link
  speaks =
      record {
        waits = j.waits;
        open_l = j.open_a;
        open_k = j.open_b;
        ciphered-l = j.ciphered_a;
        ciphered-k = j.ciphered_b;
        not_closed = j.not_closed;
        number = j.number;
        sides = j.sides;
      }

  abbrev w : Wrote
  w = says a.link ss

  abbrev words : ℕ
  words = words_due w.link

  size : Size a.link ss
  size = sizes ss a.link j.open_a j.ciphered_a (omega (arith, j.level)) f

  -- the run without its words, for what holds of the link after the calls
  open-run : Run a.link b.link ss 0 0
  open-run = run ss a.link b.link speaks f last 0 0 (omega arith) (omega arith) (λ z. omega arith)

  abbrev after : Speaks w.link open-run.link
  after = open-run.along.speaks

  due : words ≡ (4 - w.link.phase % 4) % 4
  due = due-is w.link (padded w.link after.open_l after.ciphered-l) (begun w.link after.open_l)

  -- where nothing was written, no words are due
  fits : w.bytes ≡ [] → j.words + words ≤ 3
  fits e =
      let z : length w.bytes ≡ 0 = ap length e in
      omega (arith, due, size.phase, j.level, j.few)

  the-run : Run a.link b.link ss j.words words
  the-run = run ss a.link b.link speaks f last j.words words j.few (due-small w.link) fits

  -- ---- what goes out

  abbrev clear : List ℕ
  clear = flushed w room

  clear-is : clear ≡ w.bytes ++ fours_of words
  clear-is = flushed-is w room after.not_closed r

  whole : Whole clear
  whole = rw clear-is (blocks w.link w.bytes due size.words (omega (arith, size.phase, j.level)))

  low : Bytes clear
  low = rw clear-is (low-bytes (w.bytes ++ fours_of words)
      (small-append w.bytes (fours_of words) size.small (small-fours words)))

  abbrev out : Out
  out = goes_out a ss room

  abbrev pieces : List Piece
  pieces = cut_by cs last out.bytes

  ciphered-is : out.bytes ≡ encipher_buffer (keys j.key) a.outward.vector clear
  unfolding goes_out
  ciphered-is = ap (λ (x : List ℕ). encipher_buffer x a.outward.vector clear) j.out_keys

  -- NEVER 37: neither enciphering nor deciphering any piece is refused
  pub never-37 :
      (IsOk (encipher_answer a.outward.keys a.outward.vector (flushed (says a.link ss) room)))
      × AllDone b.inward.vector (cut_by cs last (goes_out a ss room).bytes)
  never-37 = (
    done-forth a.outward.keys a.outward.vector clear whole,
    rw ciphered-is (none-refused b clear j.key_is j.vector_is j.in_keys j.vectors low whole cs last),
  )

  -- ---- what comes in

  comes : Comes b.link (b.held ++ clear) (meant a.link ss) the-run.link (fours_of the-run.left)
  comes =
      same_bytes
      (ap (λ (x : List ℕ). x ++ clear) j.held ∙ ap (λ (x : List ℕ). fours_of j.words ++ x) clear-is)
      the-run.comes

  abbrev vector : List ℕ
  vector = (encipher_vector (keys j.key) a.outward.vector clear)

  in_is : all_in b (cut_by cs last (goes_out a ss room).bytes)
      ≡ arrived b (record { link = the-run.link; got = meant a.link ss; left = fours_of the-run.left }) vector
  in_is = rw ciphered-is (carries b clear j.key_is j.vector_is j.in_keys j.vectors low whole cs last comes)

  -- ---- and both go on

  abbrev l2 : Link
  l2 = (flush_step w.link (length room)).link

  same : Kept w.link l2
  same = kept w.link room after.not_closed r

  abbrev runs : Speaks w.link the-run.link
  runs = the-run.along.speaks

  -- the same direction
  meets_on : Meets out.end (arrived b
      (record { link = the-run.link; got = meant a.link ss; left = fours_of the-run.left }) vector).end
  unfolding goes_out
  meets_on =
      let e : (encipher_vector a.outward.keys a.outward.vector clear) ≡ vector =
      ap (λ (x : List ℕ). (encipher_vector x a.outward.vector clear)) j.out_keys in
      record {
        key = j.key;
        key_is = j.key_is;
        out_keys = j.out_keys;
        in_keys = j.in_keys;
        vector_is = rw e (bytes-forth clear (keys_of j.key_is) j.vector_is low).1;
        vectors = sym e;
        words = the-run.left;
        few = the-run.few;
        held = refl;
        level = level-again w.link room after.not_closed r
            (pads w.link after.open_l after.ciphered-l) due;
        waits = same.there the-run.link runs.waits;
        open_a = rw same.stage runs.open_l;
        open_b = runs.open_k;
        ciphered_a = same.ciphered ∙ runs.ciphered-l;
        ciphered_b = runs.ciphered-k;
        not_closed = same.closed ∙ runs.not_closed;
        number = rw same.sends runs.number;
        sides = runs.sides ∙ ap not (sym same.server);
      }

  -- the other one is as it was
  meets-back : Meets b a → Meets (arrived b
      (record { link = the-run.link; got = meant a.link ss; left = fours_of the-run.left }) vector).end
      out.end
  unfolding goes_out
  meets-back i =
      record {
        key = i.key;
        key_is = i.key_is;
        out_keys = i.out_keys;
        in_keys = i.in_keys;
        vector_is = i.vector_is;
        vectors = i.vectors;
        words = i.words;
        few = i.few;
        held = i.held;
        level = the-run.along.phase ∙ i.level;
        waits = same.back the-run.link (the-run.along.back i.waits);
        open_a = runs.open_k;
        open_b = rw same.stage runs.open_l;
        ciphered_a = runs.ciphered-k;
        ciphered_b = same.ciphered ∙ runs.ciphered-l;
        not_closed = the-run.along.closed ∙ i.not_closed;
        number = rw the-run.along.sends i.number;
        sides = other _ _ (runs.sides ∙ ap not (sym same.server));
      }

  -- A TURN IS HEARD: what b gets is what a meant, in order, and the two ends meet again; in the other direction too,
  -- if they did
  pub turn-heard : ((all_in b (cut_by cs last (goes_out a ss room).bytes)).got ≡ meant a.link ss)
      × Meets (goes_out a ss room).end (all_in b (cut_by cs last (goes_out a ss room).bytes)).end
      × (Meets b a → Meets (all_in b (cut_by cs last (goes_out a ss room).bytes)).end (goes_out a ss room).end)
  turn-heard = (ap (λ (x : In). x.got) in_is, rw in_is meets_on, λ i. rw in_is (meets-back i))

-- ---- all turns

-- ALL TURNS ARE HEARD: whatever either end says, turn by turn, the other hears as it was meant
pub all-turns-heard : (a b : End) (ts : List Turn) → Meets a b → Meets b a → AllSound ts
    → heard_in a b ts ≡ meant_in a b ts
unfolding heard_in meant_in
all-turns-heard a b [] m n ok = refl
all-turns-heard a b (t ∷ ts) m n ok = go t.first (λ a2 b2 m2 n2. all-turns-heard a2 b2 ts m2 n2 ok.1)
  where
    go : (x : Bool) → ((a2 b2 : End) → Meets a2 b2 → Meets b2 a2 → heard_in a2 b2 ts ≡ meant_in a2 b2 ts)
        → pick x
        ((in_of a b t).got ++ heard_in (out_of a t).end (in_of a b t).end ts)
        ((in_of b a t).got ++ heard_in (in_of b a t).end (out_of b t).end ts)
        ≡ pick x
        (meant a.link t.said ++ meant_in (out_of a t).end (in_of a b t).end ts)
        (meant b.link t.said ++ meant_in (in_of b a t).end (out_of b t).end ts)
    go true rest =
        let h = turn-heard a b t.said t.room t.cuts t.last m ok.0.fit ok.0.room in
        ap (λ (x : List Got). x ++ heard_in (out_of a t).end (in_of a b t).end ts) h.0
        ∙ ap (λ (x : List Got). meant a.link t.said ++ x)
        (rest (out_of a t).end (in_of a b t).end h.1 (h.2 n))
    go false rest =
        let h = turn-heard b a t.said t.room t.cuts t.last n ok.0.fit ok.0.room in
        ap (λ (x : List Got). x ++ heard_in (in_of b a t).end (out_of b t).end ts) h.0
        ∙ ap (λ (x : List Got). meant b.link t.said ++ x)
        (rest (in_of b a t).end (out_of b t).end (h.2 m) h.1)
