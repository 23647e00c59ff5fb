-- The three ways of a message: refused before its body is looked at, refused with its body, or written. Assumes nothing.
use mathlib.Core.Path.{◌≡◌, refl, ap, sym, ◌∙◌}
use mathlib.Core.Bool.{Bool, true, false}
use mathlib.Core.List.{List}
use Prim.Native.Nat.{ℕ}
use lib.ListN.{length}
use lib.Seq.{sets}
use lib.Dec.{ltb}
use Rattle.wire.specs.Choice.{pick}
use Rattle.link_state.specs.declared.Link.{Link}
use Rattle.packet_out.specs.Size.{size_of, fits_of}
use Rattle.packet_out.specs.Packet.{sealed_of}
use Rattle.packet_out.proofs.SealLaws.{sealed-over}
use Rattle.send_rules.specs.Control.{check_send, step_by, buffer_by}
use Rattle.message_out.specs.Outgoing.{kind_of, body_of, wrong_way, number_zero, payload_misread}
use Rattle.message_out.specs.MessageStep.{message_answer, message_step, message_buffer}
use Rattle.message_out.specs.Parts.{check_early, placed_answer, placed_in}
use Rattle.message_out.specs.declared.Outgoing as O
use Rattle.message_out.proofs.PlaceLaws.{told}
use Rattle.refusal.specs.declared.Refusal.TheVariants.{LengthOverLimit, NumberZero, PayloadReadsAsHeader, BufferTooSmall, TypeNotRpc}
use Rattle.std.specs.Prelude.{Err, Result, Ok, ⊤}
use Rattle.std.specs.Result.{result_and}
use Rattle.refusal.specs.declared.Refusal.{Refusal}

-- an answer for a body as the answer for its packet
abbrev sent_by : Link → Result ℕ Refusal → Result ℕ Refusal
sent_by l (Ok k) = Ok (size_of l k)
sent_by l (Err k) = Err k

-- the early rows, and what comes after them
abbrev early-by : Result ⊤ Refusal → Bool → Result ⊤ Refusal
early-by s y = result_and s (pick y (Err TypeNotRpc) (Ok tt))

in-halves : (s : Result ⊤ Refusal) (y : Bool) (x : Result ℕ Refusal)
    → result_and s (pick y (Err TypeNotRpc) x) ≡ result_and (early-by s y) x
in-halves (Err k) y x = refl
in-halves (Ok u) true x = refl
in-halves (Ok u) false x = refl

by-sent : (l : Link) (x y z u : Bool) (k : ℕ)
    → pick x (Err NumberZero) (pick y (Err PayloadReadsAsHeader) (pick z (Err LengthOverLimit) (pick u (Err BufferTooSmall) (Ok (size_of l k)))))
    ≡ sent_by l (pick x (Err NumberZero) (pick y (Err PayloadReadsAsHeader) (pick z (Err LengthOverLimit) (pick u (Err BufferTooSmall) (Ok k)))))
by-sent l true y z u k = refl
by-sent l false true z u k = refl
by-sent l false false true u k = refl
by-sent l false false false true k = refl
by-sent l false false false false k = refl

module _ (l : Link) (w : O.Outgoing) (p b : List ℕ) where
  -- the answer in two halves, before and in the body
  halves : message_answer l w p (length b) ≡ result_and (check_early l w) (sent_by l (placed_answer l w p (length b)))
  unfolding message_answer check_early placed_answer fits_of
  halves =
      let len : ℕ = length (body_of w p) in
      in-halves (check_send l (kind_of w) false) (wrong_way l.set.server w) _
      ∙ ap (result_and (check_early l w)) (by-sent l (number_zero w) (payload_misread w p) (ltb 16777199 len) (ltb (length b) (size_of l len)) len)

  -- the answer where none of the early rows applies
  pub answered : {a : Result ℕ Refusal} → check_early l w ≡ Ok tt → a ≡ placed_answer l w p (length b)
      → message_answer l w p (length b) ≡ sent_by l a
  answered h e = (rw h at halves) ∙ ap (sent_by l) (sym e)

  -- the step where one does
  pub early-step : {k : Refusal} → check_early l w ≡ Err k
      → (record { link = l; answer = Err k } ≡ message_step l w p (length b)) × (b ≡ message_buffer l w p b)
  unfolding message_step message_buffer
  early-step {k} e =
      let t : message_answer l w p (length b) ≡ Err k = rw e at halves in
      (sym (ap (step_by l (kind_of w) 0) t), sym (ap (buffer_by l (kind_of w) (body_of w p) b) t))

  -- 20, 22, 5, 19
  pub refused-early : {r : Result ℕ Refusal} {k : Refusal} → r ≡ Err k → check_early l w ≡ Err k
      → (r ≡ message_answer l w p (length b)) × (b ≡ message_buffer l w p b)
  unfolding message_buffer
  refused-early {r} {k} f e =
      let t : message_answer l w p (length b) ≡ Err k = rw e at halves in
      (f ∙ sym t, sym (ap (buffer_by l (kind_of w) (body_of w p) b) t))

  -- 12, 15, 2, 16
  pub refused-body : {a r : Result ℕ Refusal} {k : Refusal} {b1 : List ℕ} → r ≡ Err k → check_early l w ≡ Ok tt
      → a ≡ placed_answer l w p (length b) → b1 ≡ placed_in a b (body_of w p) → a ≡ Err k
      → (r ≡ message_answer l w p (length b)) × (b1 ≡ message_buffer l w p b)
  unfolding message_buffer
  refused-body {a} {r} {k} g e h i f =
      let t : message_answer l w p (length b) ≡ Err k = answered e h ∙ ap (sent_by l) f in
      (g ∙ sym t, i ∙ ap (λ (x : Result ℕ Refusal). placed_in x b (body_of w p)) f ∙ sym (ap (buffer_by l (kind_of w) (body_of w p) b) t))

  -- the body is there, and is sealed
  pub sealed : {a : Result ℕ Refusal} {len kind size : ℕ} {b1 b2 : List ℕ} → check_early l w ≡ Ok tt
      → a ≡ placed_answer l w p (length b) → b1 ≡ placed_in a b (body_of w p) → a ≡ Ok len → kind ≡ kind_of w
      → size ≡ size_of l len → b2 ≡ sealed_of l kind len b1
      → (◌≡◌ {A = Result ℕ Refusal} (Ok size) (message_answer l w p (length b))) × (b2 ≡ message_buffer l w p b)
  unfolding message_buffer
  sealed {a} {len} {kind} {size} {b1} e h i f n q s =
      let g = told l w p (length b) h f in
      let t : message_answer l w p (length b) ≡ Ok size = answered e h ∙ (ap (sent_by l) f ∙ ap (λ (k : ℕ). Ok k) (sym q)) in
      let there : b1 ≡ sets b 12 (body_of w p) = i ∙ ap (λ (x : Result ℕ Refusal). placed_in x b (body_of w p)) f in
      let s' = s ∙ ap (λ (k : ℕ). sealed_of l k len b1) n in (
        sym t,
        sealed-over l (kind_of w) len b (body_of w p) g.0 g.1 g.2 there s' ∙ sym (ap (buffer_by l (kind_of w) (body_of w p) b) t),
      )
