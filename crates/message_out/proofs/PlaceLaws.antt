-- A body in its place: the answer by the buffer's room, and the part of the buffer that comes back. Assumes nothing.
use native.Mathlib.Omega.{arith}
use native.Mathlib.Nat.{zero-add}
use borrow.Author.Tests.{ltb-true, ltb-false, lt-ltb, le-ltb}
use borrow.Rule.Slice.PartMut.{put_mid, put_same}
use mathlib.Core.Path.{◌≡◌, refl, ap, sym, subst, ◌∙◌}
use mathlib.Core.Bool.{Bool, true, false}
use mathlib.Core.List.{List, [], ◌∷◌, ◌++◌, append_assoc}
use Prim.Native.Nat.{ℕ, zero, suc, ◌+◌, ◌-◌, ◌%◌, ◌≤◌, ◌<◌}
use lib.ListN.{length, take, drop, length-drop, take-append-drop}
use lib.Seq.{sets, sets-eq, drop-drop, length-take-le}
use lib.Dec.{ltb}
use Rattle.wire.specs.Choice.{pick}
use Rattle.wire.proofs.StoreLaws.{sets-past}
use Rattle.link_state.specs.declared.Link.{Link}
use Rattle.packet_padding.specs.Padding.{pads_of, tail_of}
use Rattle.packet_out.specs.Size.{size_of, usable_of}
use Rattle.body.specs.Written.{bytes_after}
use Rattle.message_out.specs.Outgoing.{body_of, number_zero, payload_misread}
use Rattle.message_out.specs.Parts.{body_answer, without_room, placed_answer, placed_in}
use Rattle.message_out.specs.declared.Outgoing as O
use Rattle.refusal.specs.declared.Refusal.TheVariants.{LengthOverLimit, NumberZero, PayloadReadsAsHeader, BufferTooSmall}
use Rattle.std.specs.Prelude.{Err, Result, Ok}
use Rattle.refusal.specs.declared.Refusal.{Refusal}

-- ---- tests

-- two tests that say the same
same_test : (a b c d : ℕ) → (a < b → c < d) → (b ≤ a → d ≤ c) → ltb a b ≡ ltb c d
same_test a b c d f g = go (ltb a b) refl
  where
    go : (x : Bool) → ltb a b ≡ x → x ≡ ltb c d
    go true e = sym (lt-ltb c d (f (ltb-true a b e)))
    go false e = sym (le-ltb c d (g (ltb-false a b e)))

-- a packet over its limit is a body over its own
over : (len : ℕ) → ltb 16777215 (len + 16) ≡ ltb 16777199 len
over len = same_test 16777215 (len + 16) 16777199 len (λ h. omega arith) (λ h. omega arith)

-- ---- the room of a padded packet

module _ (l : Link) (room len : ℕ) where
  -- a packet has room exactly if its length has room in what is usable
  usable-test : ltb room (size_of l len) ≡ ltb (usable_of l room) (len + 16)
  unfolding size_of tail_of usable_of
  usable-test = go (pads_of l)
    where
      go : (b : Bool) → ltb room (len + 16 + pick b ((4 - (len + 16) % 4) % 4) 0) ≡ ltb (pick b (room - room % 4) room) (len + 16)
      go true = same_test room (len + 16 + (4 - (len + 16) % 4) % 4) (room - room % 4) (len + 16) (λ h. omega arith) (λ h. omega arith)
      go false = same_test room (len + 16 + 0) room (len + 16) (λ h. omega arith) (λ h. omega arith)

  usable-fits : size_of l len ≤ room → len + 16 ≤ usable_of l room
  usable-fits h = ltb-false (usable_of l room) (len + 16) (sym usable-test ∙ le-ltb room (size_of l len) h)

module _ (l : Link) (room : ℕ) where
  usable-there : usable_of l room ≤ room
  unfolding usable_of
  usable-there = go (pads_of l)
    where
      go : (b : Bool) → pick b (room - room % 4) room ≤ room
      go true = omega arith
      go false = omega arith

  pub usable-bound : {u : ℕ} → u ≡ usable_of l room → u ≤ room
  usable-bound e = omega (arith, usable-there)

-- what the code adds up
pub size_is : (l : Link) (len : ℕ) {zeros : ℕ} → zeros ≡ tail_of l (len + 16) → len + 16 + zeros ≡ size_of l len
unfolding size_of
size_is l len e = ap (λ (z : ℕ). len + 16 + z) e

by-test : (P : Result ℕ Refusal → Type 0) (b : Bool) (u v : Result ℕ Refusal) → P u → (b ≡ false → P v) → P (pick b u v)
by-test P true u v p q = p
by-test P false u v p q = q refl

module _ (l : Link) (w : O.Outgoing) (p : List ℕ) where
  -- ---- the answer

  no_size : (x y z u : Bool) (k : ℕ)
      → without_room (pick x (Err NumberZero) (pick y (Err PayloadReadsAsHeader) (pick z (Err LengthOverLimit) (pick u (Err BufferTooSmall) (Ok k)))))
      ≡ pick x (Err NumberZero) (pick y (Err PayloadReadsAsHeader) (pick z (Err LengthOverLimit) (Err BufferTooSmall)))
  no_size true y z u k = refl
  no_size false true z u k = refl
  no_size false false true u k = refl
  no_size false false false true k = refl
  no_size false false false false k = refl

  -- under 16 bytes not even an empty body has room
  pub answer-without-room : (n m : ℕ) {u : ℕ} {r a : Result ℕ Refusal} → u ≡ usable_of l n → u < 16 → r ≡ body_answer w p m → a ≡ without_room r → a ≡ placed_answer l w p n
  unfolding body_answer placed_answer
  answer-without-room n m g h e f =
      f ∙ ap without_room e
      ∙ no_size (number_zero w) (payload_misread w p) (ltb 16777215 (length (body_of w p) + 16)) (ltb m (length (body_of w p))) (length (body_of w p))
      ∙ rw (over (length (body_of w p)), usable-test l n (length (body_of w p)), lt-ltb (usable_of l n) (length (body_of w p) + 16) (omega arith)) refl

  -- the part between header and checksum has 16 bytes less than what is usable of the buffer
  pub answer-in-part : (b : List ℕ) (m : ℕ) {u : ℕ} {r : Result ℕ Refusal} → u ≡ usable_of l (length b) → 16 ≤ u → m ≡ u - 16 → r ≡ body_answer w p (length (take m (drop 12 b)))
      → r ≡ placed_answer l w p (length b)
  unfolding body_answer placed_answer
  answer-in-part b m g h k e =
      let len : ℕ = length (body_of w p) in
      let i = usable-there l (length b) in
      let n : length (take m (drop 12 b)) ≡ m = length-take-le m (drop 12 b) (rw length-drop (omega arith)) in
      let t : ltb (length (take m (drop 12 b))) len ≡ ltb (length b) (size_of l len) =
      same_test (length (take m (drop 12 b))) len (usable_of l (length b)) (len + 16) (λ q. omega arith) (λ q. omega arith) ∙ sym (usable-test l (length b) len)
      in e ∙ rw (over len, t) refl

  -- what a size tells
  abbrev Good : ℕ → Result ℕ Refusal → Type 0
  Good n (Ok k) = (length (body_of w p) ≡ k) × (k ≤ 16777199) × (size_of l k ≤ n)
  Good n (Err k) = Unit

  good : (n : ℕ) → Good n (placed_answer l w p n)
  unfolding placed_answer
  good n =
      let len : ℕ = length (body_of w p) in
      by-test (Good n) (number_zero w) _ _ tt λ x. by-test (Good n) (payload_misread w p) _ _ tt λ y.
      by-test (Good n) (ltb 16777199 len) _ _ tt λ z. by-test (Good n) (ltb n (size_of l len)) _ _ tt λ u.
      (refl, ltb-false 16777199 len z, ltb-false n (size_of l len) u)

  pub told : (n : ℕ) {r : Result ℕ Refusal} {k : ℕ} → r ≡ placed_answer l w p n → r ≡ Ok k → (length (body_of w p) ≡ k) × (k ≤ 16777199) × (size_of l k ≤ n)
  told n {r} {k} e f = subst (Good n) (sym e ∙ f) (good n)

-- ---- the part that comes back

cut : (k m : ℕ) (s : List ℕ) → k ≤ m → drop k (take m s) ++ drop m s ≡ drop k s
cut zero m s h = take-append-drop m s
cut (suc k) zero s h = absurd (omega arith)
cut (suc k) (suc m) [] h = refl
cut (suc k) (suc m) (x ∷ s) h = cut k m s (omega arith)

-- a run stored at the front of a part is one stored in the whole
sets-within : (b : List ℕ) (a m : ℕ) (xs : List ℕ) → length xs ≤ m → a + m ≤ length b → put_mid a m b (sets (take m (drop a b)) 0 xs) ≡ sets b a xs
sets-within b a m xs h g =
    let d : List ℕ = drop a b in
    let n : length (take m d) ≡ m = length-take-le m d (rw length-drop (omega arith)) in
    let s : sets (take m d) 0 xs ≡ xs ++ drop (0 + length xs) (take m d) = sets-eq xs (take m d) 0 (omega arith) in
    ap (λ (y : List ℕ). take a b ++ (y ++ drop m d)) (s ∙ ap (λ (k : ℕ). xs ++ drop k (take m d)) (zero-add (length xs)))
    ∙ ap (λ (y : List ℕ). take a b ++ y) (append_assoc xs (drop (length xs) (take m d)) (drop m d) ∙ ap (λ (y : List ℕ). xs ++ y) (cut (length xs) m d h ∙ drop-drop (length xs) a b))
    ∙ sym (append_assoc (take a b) xs (drop (a + length xs) b))
    ∙ sym (sets-eq xs b a (omega arith))

module _ (l : Link) (w : O.Outgoing) (p b : List ℕ) where
  -- with a body in it, or as it was
  pub part-back : (m : ℕ) {u : ℕ} (r : Result ℕ Refusal) {y : List ℕ} → u ≡ usable_of l (length b) → 16 ≤ u → m ≡ u - 16 → r ≡ body_answer w p (length (take m (drop 12 b))) → y ≡ bytes_after r (take m (drop 12 b)) (body_of w p)
      → put_mid 12 m b y ≡ placed_in r b (body_of w p)
  part-back m (Ok k) q h i e f =
      let g = told l w p (length b) (answer-in-part l w p b m q h i e) refl in
      let j = usable-fits l (length b) k g.2 in
      let t = usable-there l (length b) in
      ap (put_mid 12 m b) f ∙ sets-within b 12 m (body_of w p) (omega arith) (omega arith)
  part-back m (Err k) q h i e f = ap (put_mid 12 m b) f ∙ put_same 12 m b

module _ (w : O.Outgoing) (p b : List ℕ) where
  -- an empty part comes back empty
  pub nothing-back : (r a : Result ℕ Refusal) {y : List ℕ} → a ≡ without_room r → y ≡ bytes_after r [] (body_of w p) → put_mid 0 0 b y ≡ placed_in a b (body_of w p)
  nothing-back (Ok k) (Err j) e f = ap (λ (t : List ℕ). t ++ b) (f ∙ sets-past [] 0 (body_of w p) (omega arith))
  nothing-back (Ok k) (Ok j) e f = let z : ◌≡◌ {A = ℕ} 0 1 = cc in absurd (omega arith)
  nothing-back (Err k) (Err j) e f = ap (λ (t : List ℕ). t ++ b) f
  nothing-back (Err k) (Ok j) e f = let z : ◌≡◌ {A = ℕ} 0 1 = cc in absurd (omega arith)
