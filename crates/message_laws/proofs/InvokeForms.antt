-- An invoke's body reads to what it says, in each form that says its actor and timeout. Assumes nothing.
use mathlib.Core.Path.{◌≡◌, refl, sym, ap, ◌∙◌}
use Prim.Native.Nat.{ℕ, ◌+◌, ◌-◌, ◌≤◌, ◌<◌, ◌^◌}
use native.Mathlib.Omega.{arith}
use mathlib.Core.List.{List, [], ◌++◌, append_assoc}
use mathlib.Core.Bool.{Bool, true, false}
use lib.ListN.{length, take, drop, length-append}
use lib.Seq.{drop_at, take_all}
use lib.IntN.{ℤ}
use lib.Dec.{ltb}
use mir.Syntax.{w64}
use mir.Val.{to_z, of_z, SFits}
use mir.Facts.{to_z-of_z, Fits-of_z}
use borrow.Author.Tests.{le-ltb, lt-ltb, ltb-true, ltb-false, eq-eqb}
use Rattle.wire.specs.Bytes.{le, part, bytes, within}
use Rattle.wire.specs.Choice.{pick}
use Rattle.wire.proofs.ByteLaws.{le_bytes, length-bytes, part-mid}
use Rattle.message_laws.specs.Invokes.{Together, Before, Behind, Extra, NoExtra, Has}
use Rattle.message_laws.specs.Invokes.{extra_bytes, actor_header, flags_header, headers_of, body_with, timeout_in, rest_at}
use Rattle.message_laws.specs.RoundTrip.{invoke_with, ActorFits, TimeoutFits}
use Rattle.message_laws.proofs.Within.{within-is}
use Rattle.header.specs.Headers.{request_kind, kind_of, is_header, reads_as_header}
use Rattle.header.specs.declared.Side.TheVariants.{Server}
use Rattle.header.specs.declared.Kind as K
use Rattle.invoke.specs.Fields.{is_given, effective_timeout}
use Rattle.invoke_headers.specs.declared.Next.{Next}
use Rattle.invoke_headers.specs.declared.Next.TheVariants.{More, Done}
use Rattle.invoke_headers.specs.declared.Headers.{Headers}
use Rattle.invoke_headers.specs.Headers.{read_extra, flags_of, actor_of, both_of, by_kind, next_of, go_on}
use Rattle.invoke_headers.specs.Headers.{headers_from, start}
use Rattle.invoke_in.specs.ReadInvoke.{meaning, read_invoke}
use Rattle.invoke_in.proofs.InvokeLaws.{weight, turn, read_is}
use Rattle.invoke_out.specs.WriteInvoke.{marker_bytes, payload_refused}
use Rattle.refusal.specs.declared.Refusal.TheVariants.{NumberZero}
use Rattle.std.specs.Prelude.{Err, Option, Some, None, Result, Ok}
use Rattle.refusal.specs.declared.Refusal.{Refusal}

-- ---- one header, behind p

module _ (s : List ℕ) (h : Headers) where
  next-is : (v : ℕ) → h.at + 4 ≤ length s → le (part s h.at 4) ≡ v → next_of s h ≡ by_kind s h (kind_of Server v)
  unfolding next_of
  next-is v p e = simp (le-ltb (length s - h.at) 4 (omega arith), e)

-- a number of k bytes behind q
number_at : (q : List ℕ) (k v : ℕ) (x : List ℕ) (at : ℕ) → length q ≡ at → v < 256 ^ k
    → le (part (q ++ (bytes k v ++ x)) at k) ≡ v
number_at q k v x at l f = ap le (part-mid q (bytes k v) x at k l (length-bytes k v)) ∙ le_bytes k v f

module _ (q x : List ℕ) (at : ℕ) (l : length q ≡ at) where
  extra-at : (t : Option ℕ) → TimeoutFits t
      → read_extra (q ++ (extra_bytes t ++ x)) at ≡ Ok (record { timeout = t; next = at + length (extra_bytes t) })
  unfolding read_extra extra_bytes
  extra-at None f =
      let s : List ℕ = q ++ (bytes 4 0 ++ x) in
      rw (
        le-ltb (length s - at) 4 (simp (length-append, length-bytes) (omega (arith, l))),
        number_at q 4 0 x at l (omega arith),
        length-bytes 4 0,
      )
  extra-at (Some t) f =
      let y : List ℕ = bytes 4 t ++ x in
      let s : List ℕ = q ++ (bytes 4 0x800000 ++ y) in
      let q' : List ℕ = q ++ bytes 4 0x800000 in
      let l' : length q' ≡ at + 4 = simp (length-append, length-bytes, l) in
      let field : le (part s (at + 4) 4) ≡ t =
      rw (append_assoc q (bytes 4 0x800000) y) at (number_at q' 4 t x (at + 4) l' f) in
      rw (
        append_assoc (bytes 4 0x800000) (bytes 4 t) x,
        le-ltb (length s - at) 4 (simp (length-append, length-bytes) (omega (arith, l))),
        number_at q 4 0x800000 y at l (omega arith),
        le-ltb (length s - at) 8 (simp (length-append, length-bytes) (omega (arith, l))),
        field,
        length-append (bytes 4 0x800000) (bytes 4 t),
        length-bytes 4 0x800000,
        length-bytes 4 t,
      )

-- what one header says of those before it
abbrev with_actor : Headers → ℤ → Headers
with_actor h a =
    record { at = h.at + 12; actor = Some a; extra = h.extra; timeout = h.timeout; tl2 = false }

abbrev with_timeout : Headers → Option ℤ → ℕ → Option ℕ → Headers
with_timeout h a k t =
    record { at = h.at + k + length (extra_bytes t); actor = a; extra = true; timeout = t; tl2 = false }

module _ (p x : List ℕ) (h : Headers) (l : length p ≡ h.at) where
  value-at : (v : ℕ) (y : List ℕ) → v < 4294967296
      → next_of (p ++ (bytes 4 v ++ y)) h ≡ by_kind (p ++ (bytes 4 v ++ y)) h (kind_of Server v)
  value-at v y f =
      next-is (p ++ (bytes 4 v ++ y)) h v
      (simp (length-append, length-bytes) (omega (arith, l))) (number_at p 4 v y h.at l f)

  -- p and a value
  behind : (v : ℕ) → length (p ++ bytes 4 v) ≡ h.at + 4
  behind v = simp (length-append, length-bytes, l)

  id-at : (v : ℕ) (a : ℤ) (y : List ℕ) → SFits w64 a
      → to_z w64 (le (part (p ++ (bytes 4 v ++ (bytes 8 (of_z w64 a) ++ y))) (h.at + 4) 8)) ≡ a
  id-at v a y f =
      let b : List ℕ = bytes 8 (of_z w64 a) ++ y in
      let e : le (part (p ++ (bytes 4 v ++ b)) (h.at + 4) 8) ≡ of_z w64 a =
      rw (append_assoc p (bytes 4 v) b) at
      (number_at (p ++ bytes 4 v) 8 (of_z w64 a) y (h.at + 4) (behind v) (Fits-of_z f).fits) in
      rw e (to_z-of_z f)

  actor-at : (a : ℤ) → SFits w64 a → is_given h.actor ≡ false
      → next_of (p ++ (actor_header a ++ x)) h ≡ Ok (More (with_actor h a))
  unfolding actor_header actor_of kind_of request_kind
  actor-at a f none =
      let y : List ℕ = bytes 8 (of_z w64 a) ++ x in
      let s : List ℕ = p ++ (bytes 4 0x7568aabd ++ y) in
      rw (append_assoc (bytes 4 0x7568aabd) (bytes 8 (of_z w64 a)) x)
      (value-at 0x7568aabd y (omega arith)
      ∙ rw (
        none,
        le-ltb (length s - h.at) 12 (simp (length-append, length-bytes) (omega (arith, l))),
        id-at 0x7568aabd a x f,
      ))

  flags-at : (t : Option ℕ) → TimeoutFits t → h.extra ≡ false
      → next_of (p ++ (flags_header t ++ x)) h ≡ Ok (More (with_timeout h h.actor 4 t))
  unfolding flags_header flags_of kind_of request_kind
  flags-at t f none =
      let y : List ℕ = extra_bytes t ++ x in
      let v : List ℕ = bytes 4 0xe352035e in
      let e : read_extra (p ++ (v ++ y)) (h.at + 4) ≡ Ok (record { timeout = t; next = h.at + 4 + length (extra_bytes t) }) =
      rw (append_assoc p v y) at (extra-at (p ++ v) x (h.at + 4) (behind 0xe352035e) t f) in
      rw (append_assoc v (extra_bytes t) x) (value-at 0xe352035e y (omega arith) ∙ rw (none, e))

  both_at : (a : ℤ) (t : Option ℕ) → SFits w64 a → TimeoutFits t → is_given h.actor ≡ false → h.extra ≡ false
      → next_of (p ++ ((bytes 4 0xf0a5acf7 ++ (bytes 8 (of_z w64 a) ++ extra_bytes t)) ++ x)) h
      ≡ Ok (More (with_timeout h (Some a) 12 t))
  unfolding both_of kind_of request_kind
  both_at a t f g none none' =
      let z : List ℕ = extra_bytes t ++ x in
      let b : List ℕ = bytes 8 (of_z w64 a) in
      let v : List ℕ = bytes 4 0xf0a5acf7 in
      let s : List ℕ = p ++ (v ++ (b ++ z)) in
      let q : List ℕ = (p ++ v) ++ b in
      let e : read_extra s (h.at + 12) ≡ Ok (record { timeout = t; next = h.at + 12 + length (extra_bytes t) }) =
      rw (append_assoc (p ++ v) b z, append_assoc p v (b ++ z)) at
      (extra-at q x (h.at + 12) (simp (length-append, length-bytes, l) (omega arith)) t g) in
      rw (append_assoc v (b ++ extra_bytes t) x, append_assoc b (extra_bytes t) x)
      (value-at 0xf0a5acf7 (b ++ z) (omega arith)
      ∙ rw (
        none,
        none',
        le-ltb (length s - h.at) 12 (simp (length-append, length-bytes) (omega (arith, l))),
        id-at 0xf0a5acf7 a z f,
        e,
      ))

-- ---- the marker, or a payload that is no header

abbrev ended : Headers → Bool → Headers
ended h true = record { at = h.at + 4; actor = h.actor; extra = h.extra; timeout = h.timeout; tl2 = true }
ended h false = h

pub other : (k : K.Kind) → is_header k ≡ false → k ≡ K.TheVariants.Other
other K.TheVariants.Other e = refl
other K.TheVariants.Flags e = cc
other K.TheVariants.Actor e = cc
other K.TheVariants.ActorFlags e = cc
other K.TheVariants.Diagonal e = cc
other K.TheVariants.Marker e = cc
other K.TheVariants.ResultHeader e = cc
other K.TheVariants.Error e = cc
other K.TheVariants.NumberedError e = cc

module _ (p payload : List ℕ) (h : Headers) (l : length p ≡ h.at) where
  no_header : (b : Bool) → ltb (length payload) 4 ≡ b
      → pick b false (is_header (kind_of Server (le (part payload 0 4)))) ≡ false
      → next_of (p ++ payload) h ≡ Ok (Done h)
  unfolding next_of flags_of actor_of both_of
  no_header true e c =
      simp
      (lt-ltb (length (p ++ payload) - h.at) 4 (simp length-append (omega (arith, ltb-true (length payload) 4 e))))
  no_header false e c =
      let q : part (p ++ payload) h.at 4 ≡ part payload 0 4 = ap (take 4) (drop_at p payload h.at l) in
      simp (
        le-ltb (length (p ++ payload) - h.at) 4 (simp length-append (omega (arith, ltb-false (length payload) 4 e))),
        q,
        other (kind_of Server (le (part payload 0 4))) c,
      )

  tail-back : (m : Bool) → payload_refused m payload ≡ false
      → next_of (p ++ (marker_bytes m ++ payload)) h ≡ Ok (Done (ended h m))
  unfolding marker_bytes payload_refused reads_as_header flags_of actor_of both_of kind_of request_kind
  tail-back true c = value-at p payload h l 0x29324c54 payload (omega arith)
  tail-back false c = no_header (ltb (length payload) 4) refl c

-- ---- the whole

-- the headers from h on end with d
abbrev Ends : List ℕ → Headers → Headers → Type 0
Ends s h d = (k : ℕ) → weight h < k → headers_from k s h ≡ Ok (Done d)

module _ (s : List ℕ) (h d : Headers) where
  ends-here : next_of s h ≡ Ok (Done d) → Ends s h d
  ends-here e k w = turn k s h w ∙ ap (λ (x : Result Next Refusal). go_on x (headers_from (k - 1) s)) e

  ends-later : (g : Headers) → weight g < weight h → next_of s h ≡ Ok (More g) → Ends s g d → Ends s h d
  ends-later g f e more k w =
      turn k s h w ∙ ap (λ (x : Result Next Refusal). go_on x (headers_from (k - 1) s)) e ∙ more (k - 1) (omega (arith, f, w))

actor-length : (a : ℤ) → length (actor_header a) ≡ 12
unfolding actor_header
actor-length a = simp (length-append, length-bytes)

flags-length : (t : Option ℕ) → length (flags_header t) ≡ 4 + length (extra_bytes t)
unfolding flags_header
flags-length t = simp (length-append, length-bytes)

abbrev has_extra : Extra → Bool
has_extra NoExtra = false
has_extra (Has place t) = true

-- the headers of actor and extra, read
abbrev said : Option ℤ → Extra → Headers
said a e =
    record { at = 8 + length (headers_of a e); actor = a; extra = has_extra e; timeout = timeout_in e; tl2 = false }

abbrev ExtraFits : Extra → Type 0
ExtraFits e = TimeoutFits (timeout_in e)

module _ (n : ℤ) (m : Bool) (payload : List ℕ) (c : payload_refused m payload ≡ false) where
  abbrev number : List ℕ
  number = bytes 8 (of_z w64 n)

  abbrev tail : List ℕ
  tail = marker_bytes m ++ payload

  -- behind all headers
  end_of : (a : Option ℤ) (e : Extra) → Ends (body_with e n a m payload) (said a e) (ended (said a e) m)
  unfolding body_with
  end_of a e =
      let h : List ℕ = headers_of a e in
      ends-here (number ++ (h ++ tail)) (said a e) (ended (said a e) m)
      (rw (append_assoc number h tail) at
      (tail-back (number ++ h) payload (said a e) (simp (length-append, length-bytes)) m c))

  at-is : (a : Option ℤ) (x : Bool) (t : Option ℕ) {j k : ℕ} → j ≡ k
      → ◌≡◌ {A = Result Next Refusal} (Ok (More (record { at = j; actor = a; extra = x; timeout = t; tl2 = false })))
      (Ok (More (record { at = k; actor = a; extra = x; timeout = t; tl2 = false })))
  at-is a x t e =
      ap (λ (z : ℕ). Ok (More (record { at = z; actor = a; extra = x; timeout = t; tl2 = false }))) e

  headers-read : (a : Option ℤ) (e : Extra) → ActorFits a → ExtraFits e
      → Ends (body_with e n a m payload) start (ended (said a e) m)
  unfolding body_with headers_of
  headers-read None NoExtra fa ft = end_of None NoExtra
  headers-read (Some a) NoExtra fa ft =
      ends-later _ start _ (said (Some a) NoExtra) (omega arith)
      (actor-at number tail start (length-bytes 8 (of_z w64 n)) a fa refl
      ∙ at-is (Some a) false None (omega (arith, actor-length a)))
      (end_of (Some a) NoExtra)
  headers-read None (Has place t) fa ft =
      ends-later _ start _ (said None (Has place t)) (omega arith)
      (flags-at number tail start (length-bytes 8 (of_z w64 n)) t ft refl
      ∙ at-is None true t (omega (arith, flags-length t)))
      (end_of None (Has place t))
  headers-read (Some a) (Has Together t) fa ft =
      ends-later _ start _ (said (Some a) (Has Together t)) (omega arith)
      (both_at number tail start (length-bytes 8 (of_z w64 n)) a t fa ft refl refl
      ∙ at-is (Some a) true t (simp (length-append, length-bytes) (omega arith)))
      (end_of (Some a) (Has Together t))
  headers-read (Some a) (Has Before t) fa ft =
      let h : List ℕ = flags_header t in
      let g : Headers = with_timeout start None 4 t in
      let one : next_of (number ++ ((h ++ actor_header a) ++ tail)) start ≡ Ok (More g) =
      rw (append_assoc h (actor_header a) tail)
      (flags-at number (actor_header a ++ tail) start (length-bytes 8 (of_z w64 n)) t ft refl) in
      let two : next_of (number ++ ((h ++ actor_header a) ++ tail)) g ≡ Ok (More (with_actor g a)) =
      rw (append_assoc h (actor_header a) tail)
      (rw (append_assoc number h (actor_header a ++ tail)) at
      (actor-at (number ++ h) tail g (simp (length-append, length-bytes, flags-length) (omega arith)) a fa refl)) in
      ends-later _ start _ g (omega arith) one
      (ends-later _ g _ (said (Some a) (Has Before t)) (omega arith)
      (two ∙ at-is (Some a) true t (simp (length-append, flags-length, actor-length) (omega arith)))
      (end_of (Some a) (Has Before t)))
  headers-read (Some a) (Has Behind t) fa ft =
      let h : List ℕ = actor_header a in
      let g : Headers = with_actor start a in
      let one : next_of (number ++ ((h ++ flags_header t) ++ tail)) start ≡ Ok (More g) =
      rw (append_assoc h (flags_header t) tail)
      (actor-at number (flags_header t ++ tail) start (length-bytes 8 (of_z w64 n)) a fa refl) in
      let k : Headers = with_timeout g (Some a) 4 t in
      let two : next_of (number ++ ((h ++ flags_header t) ++ tail)) g ≡ Ok (More k) =
      rw (append_assoc h (flags_header t) tail)
      (rw (append_assoc number h (flags_header t ++ tail)) at
      (flags-at (number ++ h) tail g (simp (length-append, length-bytes, actor-length) (omega arith)) t ft refl)) in
      ends-later _ start _ g (omega arith) one
      (ends-later _ g _ (said (Some a) (Has Behind t)) (omega arith)
      (two ∙ at-is (Some a) true t (simp (length-append, flags-length, actor-length) (omega arith)))
      (end_of (Some a) (Has Behind t)))

  size : (a : Option ℤ) (e : Extra) → length (body_with e n a m payload) ≡ rest_at e a m + length payload
  unfolding body_with
  size a e = simp (length-append, length-bytes) (omega arith)

  number-first : (a : Option ℤ) (e : Extra) → SFits w64 n → le (part (body_with e n a m payload) 0 8) ≡ of_z w64 n
  unfolding body_with
  number-first a e f = number_at [] 8 (of_z w64 n) (headers_of a e ++ tail) 0 refl (Fits-of_z f).fits

  ended_is : (a : Option ℤ) (e : Extra) (m : Bool)
      → ended (said a e) m ≡ record { at = rest_at e a m; actor = a; extra = has_extra e; timeout = timeout_in e; tl2 = m }
  unfolding marker_bytes
  ended_is a e true =
      let l : 8 + length (headers_of a e) + 4 ≡ rest_at e a true = simp length-bytes (omega arith) in
      ap (λ (k : ℕ). record { at = k; actor = a; extra = has_extra e; timeout = timeout_in e; tl2 = true }) l
  ended_is a e false =
      let l : 8 + length (headers_of a e) ≡ rest_at e a false = omega arith in
      ap (λ (k : ℕ). record { at = k; actor = a; extra = has_extra e; timeout = timeout_in e; tl2 = false }) l

  -- EACH FORM READS TO WHAT IT SAYS, with a timeout of 0 as none
  pub form-reads : (a : Option ℤ) (e : Extra) → SFits w64 n → (of_z w64 n ≡ 0 → ⊥) → ActorFits a → ExtraFits e
      → read_invoke (body_with e n a m payload)
      ≡ Ok
      (invoke_with n a (effective_timeout (timeout_in e)) m (rest_at e a m) (length payload))
  form-reads a e f z fa ft =
      let s = body_with e n a m payload in
      let first = number-first a e f in
      read_is s (Ok (Done (ended (said a e) m))) (omega (arith, size a e)) (λ x. z (sym first ∙ x))
      (headers-read a e fa ft (length s) (omega (arith, size a e)))
      ∙ ap (λ (x : ℕ). meaning s (to_z w64 x) (Ok (Done (ended (said a e) m)))) first
      ∙ ap (λ (x : ℤ). meaning s x (Ok (Done (ended (said a e) m)))) (to_z-of_z f)
      ∙ ap (λ (h : Headers). meaning s n (Ok (Done h))) (ended_is a e m)
      ∙ ap (λ (k : ℕ). Ok (invoke_with n a (effective_timeout (timeout_in e)) m (rest_at e a m) k))
      (omega (arith, size a e))

  -- and the part that it names is the payload
  rest : (a : Option ℤ) (e : Extra) → drop (rest_at e a m) (body_with e n a m payload) ≡ payload
  unfolding body_with
  rest a e =
      let h : List ℕ = headers_of a e in
      let q : List ℕ = number ++ (h ++ marker_bytes m) in
      let s : q ++ payload ≡ number ++ (h ++ tail) =
      append_assoc number (h ++ marker_bytes m) payload
      ∙ ap (λ (x : List ℕ). number ++ x) (append_assoc h (marker_bytes m) payload) in
      ap (drop (rest_at e a m)) (sym s) ∙ drop_at q payload (rest_at e a m) (simp (length-append, length-bytes))

  pub form-part : (a : Option ℤ) (e : Extra)
      → within (body_with e n a m payload) (rest_at e a m) (length payload) ≡ payload
  form-part a e =
      within-is (body_with e n a m payload) (rest_at e a m) (length payload) payload (omega (arith, size a e))
      (ap (take (length payload)) (rest a e) ∙ take_all (length payload) payload (omega arith))

-- with number 0 every form is 12
pub form-of-0 : (n : ℤ) (m : Bool) (payload : List ℕ) (a : Option ℤ) (e : Extra) → SFits w64 n → of_z w64 n ≡ 0
    → read_invoke (body_with e n a m payload) ≡ Err NumberZero
unfolding read_invoke body_with
form-of-0 n m payload a e f z =
    let x : List ℕ = headers_of a e ++ (marker_bytes m ++ payload) in
    let s : List ℕ = bytes 8 (of_z w64 n) ++ x in
    let v : le (part s 0 8) ≡ of_z w64 n = number_at [] 8 (of_z w64 n) x 0 refl (Fits-of_z f).fits in
    rw (le-ltb (length s) 8 (simp (length-append, length-bytes) (omega arith)), v, eq-eqb (of_z w64 n) 0 z)
