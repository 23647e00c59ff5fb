-- The walk's loop: what it has done so far, and what each way out and each turn add to it.
-- Assumes nothing.
use mathlib.Core.Path.{◌≡◌, refl, sym, ap, ◌∙◌, subst}
use mathlib.Core.Bool.{Bool, true, false}
use mathlib.Core.List.{List, [], ◌++◌, append_assoc}
use Prim.Native.Nat.{ℕ, suc, ◌+◌, ◌-◌, ◌*◌, ◌≤◌, ◌<◌}
use native.Mathlib.Nat.{zero-add, add-zero, add_assoc}
use native.Mathlib.Omega.{arith}
use borrow.Author.Tests.{lt-ltb, le-ltb, eq-eqb, ne_eqb}
use lib.IntN.{pos}
use lib.ListN.{length, take, drop, length-append, length-drop}
use lib.Seq.{sets, sets-eq, length-sets, length-take-le, take_at, drop-drop}
use Rattle.wire.proofs.StoreLaws.{runs-2}
use Rattle.inflight.specs.declared.FrontEnd.{FrontEnd}
use Rattle.inflight.specs.declared.PublisherEnd.{PublisherEnd}
use Rattle.inflight.specs.declared.PublisherNumber.{PublisherNumber}
use Rattle.refusal.specs.Numbers.{number}
use Rattle.refusal.specs.declared.Refusal.{Refusal}
use Rattle.inflight.specs.Tables.{ask_of, reply_of, cancel_of, gone_of, run_out_of}
use Rattle.inflight.specs.declared.Table.{Table}
use lib.IntN.{ℤ}
use Rattle.walk_turn.specs.Lines.{ask_line, reply_line, cancel_line, dropped_lines, call_lines, count_of}
use Rattle.walk_turn.specs.Lines.{ask_word, reply_word, cancel_word, gone_word, out_word}
use Rattle.walk_turn.specs.Turn.{Turned, lines_of, after_event, turn_of, lent_slice}
use Rattle.walk_turn.specs.declared.Event.{Event}
use Rattle.walk_turn.specs.declared.Event.TheVariants.{Ask, Reply, Cancel, Gone, AskBy, RunOut}
use Rattle.walk_turn.specs.declared.NoEvent.{NoEvent}
use Rattle.std.specs.Prelude.{Result, Ok, Err}
use Rattle.walk_turn.proofs.LineLaws.{line-most, pair-most, refused-most, drops-most}
use Rattle.walk_turn.proofs.TurnLaws.{word-short, gone-count, run-out-count}
use Rattle.walk_events.specs.Events.{event_of, record_size, waits}
use Rattle.walk.specs.Walk.{Outcome, ends, after, walk_from, walk_of, Told}
use Rattle.walk_events.proofs.EventLaws.{record-fits}

-- ---- the lines of one event are short

ask-short : (a : Result PublisherNumber Refusal) → length (ask_line a) ≤ 4096
unfolding ask_line
ask-short (Ok n) = omega (arith, line-most ask_word n.0)
ask-short (Err k) = omega (arith, refused-most (number k))

reply-short : (a : Result FrontEnd Refusal) → length (reply_line a) ≤ 4096
unfolding reply_line
reply-short (Ok e) = omega (arith, pair-most reply_word (pos e.link) e.number.0)
reply-short (Err k) = omega (arith, refused-most (number k))

cancel-short : (a : Result PublisherEnd Refusal) → length (cancel_line a) ≤ 4096
unfolding cancel_line
cancel-short (Ok e) = omega (arith, pair-most cancel_word (pos e.publisher) e.number.0)
cancel-short (Err k) = omega (arith, refused-most (number k))

dropped-short : (word : List ℕ) (a : Result ℕ Refusal) (out : List ℤ) → length word ≤ 8 → 2 * count_of a ≤ 128 → length (dropped_lines word a out) ≤ 4096
unfolding dropped_lines
dropped-short word (Ok n) out w h = rw length-append (omega (arith, line-most word (pos n), drops-most n out))
dropped-short word (Err k) out w h = omega (arith, refused-most (number k))

pub lines-short : (t : Table) (e : Result Event NoEvent) → length (lines_of t e) ≤ 4096
unfolding lines_of call_lines
lines-short t (Ok (Ask l n p)) = ask-short (ask_of t l n p 0 0).answer
lines-short t (Ok (Reply p n)) = reply-short (reply_of t p n).answer
lines-short t (Ok (Cancel l n)) = cancel-short (cancel_of t l n).answer
lines-short t (Ok (Gone peer)) =
    dropped-short (gone_word peer) (gone_of t peer lent_slice).answer (gone_of t peer lent_slice).slice (word-short peer)
    (gone-count t peer lent_slice)
lines-short t (Ok (AskBy l n p time timeout)) = ask-short (ask_of t l n p time timeout).answer
lines-short t (Ok (RunOut time)) =
    dropped-short out_word (run_out_of t time lent_slice).answer (run_out_of t time lent_slice).slice (omega arith)
    (run-out-count t time lent_slice)
lines-short t (Err why) = omega (arith, refused-most 35)

-- an event that names no call leaves the table
no_call : (t : Table) (e : Result Event NoEvent) → record_size e ≡ 0 → after_event t e ≡ t
unfolding after_event
no_call t (Ok (Ask l n p)) h = absurd (omega arith)
no_call t (Ok (Reply p n)) h = absurd (omega arith)
no_call t (Ok (Cancel l n)) h = absurd (omega arith)
no_call t (Ok (Gone peer)) h = absurd (omega arith)
no_call t (Ok (AskBy l n p time timeout)) h = absurd (omega arith)
no_call t (Ok (RunOut time)) h = absurd (omega arith)
no_call t (Err why) h = refl

-- ---- one turn of the definition

module _ (t : Table) (es : List ℕ) (room : ℕ) (last : Bool) (k : ℕ) where
  turn-waits : waits (event_of es) last ≡ true → walk_from (suc k) t es room last ≡ ends t [] false
  unfolding walk_from
  turn-waits h = rw h

  turn-full : waits (event_of es) last ≡ false → room < 4096 → walk_from (suc k) t es room last ≡ ends t [] false
  unfolding walk_from
  turn-full h f = rw (h, lt-ltb _ _ f)

  turn-stops : waits (event_of es) last ≡ false → 4096 ≤ room → record_size (event_of es) ≡ 0
      → walk_from (suc k) t es room last ≡ ends t (lines_of t (event_of es)) true
  unfolding walk_from
  turn-stops h f z = rw (h, le-ltb _ _ f, eq-eqb _ _ z)

  turn-goes : waits (event_of es) last ≡ false → 4096 ≤ room → (record_size (event_of es) ≡ 0 → ⊥)
      → walk_from (suc k) t es room last
      ≡ after (record_size (event_of es)) (lines_of t (event_of es))
      (walk_from k (after_event t (event_of es)) (drop (record_size (event_of es)) es) (room - length (lines_of t (event_of es))) last)
  unfolding walk_from
  turn-goes h f z = rw (h, le-ltb _ _ f, ne_eqb _ _ z)

-- ---- texts at the front of a slice

take-sets : (out : List ℕ) (to : ℕ) (a : List ℕ) → to + length a ≤ length out → take (to + length a) (sets out to a) ≡ take to out ++ a
take-sets out to a h =
    ap (take (to + length a)) (sets-eq a out to h)
    ∙ take_at (take to out ++ a) (drop (to + length a) out) (to + length a) (rw (length-append, length-take-le to out (omega arith)) refl)

pub front_of : (text a : List ℕ) (n : ℕ) → n ≡ length a → length a ≤ length text → take n (sets text 0 a) ≡ a
front_of text a n e h = rw (e ∙ sym (zero-add (length a))) (take-sets text 0 a (omega arith))

-- ---- what a turn leaves in the scratch text

pub record Lines (t u : Table) (e : Result Event NoEvent) (n : ℕ) (text text₁ : List ℕ) : Type 0 where
  pub size : n ≡ length (lines_of t e)
  pub table : u ≡ after_event t e
  pub long : length text₁ ≡ length text
  pub enough : n ≤ length text₁
  pub front : take n text₁ ≡ lines_of t e

pub lines-known : {t u : Table} {e : Result Event NoEvent} {n : ℕ} {text text₁ : List ℕ}
    → (◌≡◌ {A = Turned} (record { table = u; size = n }) (turn_of t e)) × (text₁ ≡ sets text 0 (lines_of t e))
    → 4096 ≤ length text → Lines t u e n text text₁
unfolding turn_of
lines-known {t} {u} {e} {n} {text} {text₁} h room =
    let m : n ≡ length (lines_of t e) = ap (λ (x : Turned). x.size) h.0 in
    let l : length text₁ ≡ length text = ap length h.1 ∙ length-sets text 0 (lines_of t e) in
    record {
      size = m;
      table = ap (λ (x : Turned). x.table) h.0;
      long = l;
      enough = omega (arith, lines-short t e);
      front = ap (take n) h.1 ∙ front_of text (lines_of t e) n m (omega (arith, lines-short t e));
    }

-- ---- the loop

after-after : (at k : ℕ) (x a : List ℕ) (o : Outcome) → after at x (after k a o) ≡ after (at + k) (x ++ a) o
unfolding after
after-after at k x a o = rw (append_assoc x a o.text, add_assoc at k o.consumed)

module _ (s : Table) (es before : List ℕ) (last : Bool) where
  -- after some turns: `at` bytes are consumed, the text so far stands at the front of `out`, and the rest of the walk goes on from here
  pub record Came (t : Table) (at to turns : ℕ) (out : List ℕ) : Type 0 where
    pub within : at ≤ length es
    pub room : to ≤ length before
    pub same : length out ≡ length before
    pub text : out ≡ sets before 0 (take to out)
    pub rest : walk_of s es (length before) last ≡ after at (take to out) (walk_from turns t (drop at es) (length before - to) last)

  after_nothing : (o : Outcome) → after 0 [] o ≡ o
  unfolding after
  after_nothing o = rw (zero-add o.consumed)

  pub came-first : Came s 0 0 (length es) before
  unfolding walk_of
  came-first =
      let e : length before - 0 ≡ length before = omega arith in
      record {
        within = omega arith;
        room = omega arith;
        same = refl;
        text = refl;
        rest = rw e (sym (after_nothing (walk_from (length es) s es (length before) last)));
      }

  module _ {t : Table} {at to turns : ℕ} {out : List ℕ} (c : Came t at to turns out) where
    -- the walk comes no further, and adds a text
    ends_with : (u : Table) (a : List ℕ) (stops : Bool) (out₁ : List ℕ) → u ≡ t → to + length a ≤ length before → out₁ ≡ sets out to a
        → walk_from turns t (drop at es) (length before - to) last ≡ ends t a stops
        → Told (walk_of s es (length before) last) before u (record { consumed = at; written = to + length a; stopped = stops }) out₁
    unfolding after
    ends_with u a stops out₁ same f o h =
        let e : walk_of s es (length before) last ≡ record { table = t; consumed = at + 0; text = take to out ++ a; stopped = stops } = c.rest ∙ ap (after at (take to out)) h in
        let n : length (take to out) ≡ to = length-take-le to out (omega (arith, c.room, c.same)) in
        record {
          answer = rw (e, add-zero at, length-append (take to out) a, n);
          table = same ∙ sym (ap (λ (w : Outcome). w.table) e);
          text = runs-2 before 0 to (take to out) a c.text o (omega (arith, n)) ∙ sym (ap (λ (w : Outcome). sets before 0 w.text) e);
        }

    left-off : walk_from turns t (drop at es) (length before - to) last ≡ ends t [] false
        → Told (walk_of s es (length before) last) before t (record { consumed = at; written = to; stopped = false }) out
    left-off h =
        let w = ends_with t [] false out refl (omega (arith, c.room)) refl h in
        let e : to + 0 ≡ to = add-zero to in
        subst (λ (n : ℕ). Told (walk_of s es (length before) last) before t (record { consumed = at; written = n; stopped = false }) out) e w

    -- no turn is left, and so no byte
    pub none_left : turns ≡ 0 → Told (walk_of s es (length before) last) before t (record { consumed = at; written = to; stopped = false }) out
    unfolding walk_from
    none_left z = left-off (rw z)

    module _ {e : Result Event NoEvent} (more : 0 < turns) (reads : e ≡ event_of (drop at es)) where
      one_more : turns ≡ suc (turns - 1)
      one_more = omega arith

      pub wait-ends : waits e last ≡ true → Told (walk_of s es (length before) last) before t (record { consumed = at; written = to; stopped = false }) out
      wait-ends h = left-off (rw one_more (turn-waits t (drop at es) (length before - to) last (turns - 1) (rw reads at h)))

      pub full-ends : waits e last ≡ false → length before - to < 4096
          → Told (walk_of s es (length before) last) before t (record { consumed = at; written = to; stopped = false }) out
      full-ends h f = left-off (rw one_more (turn-full t (drop at es) (length before - to) last (turns - 1) (rw reads at h) f))

      -- its record lies within the events
      pub record-within : at + record_size e ≤ length es
      record-within = omega (arith, record-fits (drop at es), length-drop at es, ap record_size reads, c.within)

      -- of a turn that was made: its lines are in the scratch text, and were copied
      module _ {u : Table} {n size : ℕ} {text text₁ out₁ : List ℕ} (k : Lines t u e n text text₁)
          (h : waits e last ≡ false) (f : 4096 ≤ length before - to) (sized : size ≡ record_size e)
          (copied : out₁ ≡ sets out to (take n text₁)) where
        o : out₁ ≡ sets out to (lines_of t e)
        o = copied ∙ ap (sets out to) k.front

        pub stop-ends : size ≡ 0
            → Told (walk_of s es (length before) last) before u
            (record { consumed = at; written = to + n; stopped = true }) out₁
        stop-ends none =
            let z : record_size e ≡ 0 = sym sized ∙ none in
            let left : ℕ = length before - to in
            let step = turn-stops t (drop at es) left last (turns - 1) (rw reads at h) f (rw reads at z) in
            rw k.size
            (ends_with u (lines_of t e) true out₁ (k.table ∙ no_call t e z) (omega (arith, c.room, lines-short t e)) o
            (rw one_more (rw reads step)))

        pub goes_on : (size ≡ 0 → ⊥) → Came u (at + size) (to + n) (turns - 1) out₁
        goes_on some =
            let a : List ℕ = lines_of t e in
            let m : ℕ = record_size e in
            let z : m ≡ 0 → ⊥ = λ q. some (sized ∙ q) in
            let g : length a ≤ 4096 = lines-short t e in
            let l : length (take to out) ≡ to = length-take-le to out (omega (arith, c.room, c.same)) in
            let q : take (to + length a) out₁ ≡ take to out ++ a =
            ap (take (to + length a)) o ∙ take-sets out to a (omega (arith, c.room, c.same)) in
            let left : ℕ = length before - to in
            let on : Outcome = walk_from (turns - 1) (after_event t e) (drop m (drop at es)) (left - length a) last in
            let step : walk_from turns t (drop at es) left last ≡ after m a on =
            subst (λ (j : ℕ). walk_from j t (drop at es) left last ≡ after m a on) (sym one_more)
            (rw reads (turn-goes t (drop at es) left last (turns - 1) (rw reads at h) f (rw reads at z))) in
            let r : left - length a ≡ length before - (to + length a) = omega arith in
            rw (k.table, sized, k.size)
            (record {
              within = record-within;
              room = omega (arith, c.room);
              same = ap length o ∙ length-sets out to a ∙ c.same;
              text = runs-2 before 0 to (take to out) a c.text o (omega (arith, l)) ∙ ap (sets before 0) (sym q);
              rest = c.rest ∙ ap (after at (take to out)) step ∙ after-after at m (take to out) a _
                  ∙ rw (q, drop-drop m at es, r) refl;
            })
