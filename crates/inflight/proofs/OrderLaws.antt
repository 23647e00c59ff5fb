-- Laws of the order of slots.
-- Assumes nothing.
use mathlib.Core.Path.{◌≡◌, refl, sym, ap, ◌∙◌}
use Prim.Native.Nat.{ℕ, zero, suc, ◌+◌, ◌-◌, ◌%◌, ◌≤◌, ◌<◌}
use native.Mathlib.Omega.{arith}
use native.Mathlib.Numerals.{add-one}
use mathlib.Core.Bool.{Bool, true, false}
use mathlib.Core.List.{List, [], ◌∷◌, ◌++◌, append_assoc, append-nil, map}
use lib.ListN.{take-append-drop, drop_of_length-le, replicate, length-replicate, length, take, drop, get_or, set, length-append, length-map}
use lib.Seq.{take-suc, drop-cons, set_at, get_or-append-add, get_or-drop, length-take-le}
use Rattle.wire.specs.Choice.{pick}
use lib.Bits.{bit_and}
use lib.Count.{count_trailing_zeros}
use Rattle.inflight.specs.Masks.{slots, has, outside, laid_out, placed_anew}
use Rattle.inflight.proofs.MaskLaws.{Popped, none}

pub outside-snoc : (m : ℕ) (xs : List ℕ) (x : ℕ) → outside m (xs ++ x ∷ []) ≡ outside m xs ++ pick (has m x) [] (x ∷ [])
unfolding outside
outside-snoc m [] x = refl
outside-snoc m (y ∷ xs) x = go (has m y) (outside-snoc m xs x)
  where
    go : (t : Bool) → outside m (xs ++ x ∷ []) ≡ outside m xs ++ pick (has m x) [] (x ∷ []) → pick t (outside m (xs ++ x ∷ [])) (y ∷ outside m (xs ++ x ∷ [])) ≡ pick t (outside m xs) (y ∷ outside m xs) ++ pick (has m x) [] (x ∷ [])
    go true h = h
    go false h = ap (λ (l : List ℕ). y ∷ l) h

module _ (m : ℕ) (xs : List ℕ) (i : ℕ) (h : i < length xs) where
  pub outside-yes : has m (get_or xs i 0) ≡ true → outside m (take (i + 1) xs) ≡ outside m (take i xs)
  outside-yes e = rw (add-one, take-suc xs i 0) (outside-snoc m (take i xs) (get_or xs i 0) ∙ rw e (append-nil (outside m (take i xs))))

  pub outside-no : has m (get_or xs i 0) ≡ false → outside m (take (i + 1) xs) ≡ outside m (take i xs) ++ get_or xs i 0 ∷ []
  outside-no e = rw (add-one, take-suc xs i 0) (outside-snoc m (take i xs) (get_or xs i 0) ∙ rw e)

-- slots take their places anew: one slot more takes the next place
pub placed_anew-snoc : (xs : List ℕ) (x k : ℕ) (os : List ℕ) → placed_anew (xs ++ x ∷ []) k os ≡ set (placed_anew xs k os) (x % 64) (k + length xs)
unfolding placed_anew
placed_anew-snoc [] x k os = let z : k ≡ k + 0 = omega arith in ap (set os (x % 64)) z
placed_anew-snoc (y ∷ xs) x k os =
    let z : suc k + length xs ≡ k + suc (length xs) = omega arith in
    placed_anew-snoc xs x (suc k) (set os (y % 64) k) ∙ ap (set (placed_anew xs (suc k) (set os (y % 64) k)) (x % 64)) z

-- a turn of a loop that lays out the slots of a mask, and its end
module _ (os : List ℕ) (m i : ℕ) (p : Popped m) (q : i ≡ count_trailing_zeros 64 m) where
  pub laid_out-turn : (r : ℕ) (xs : List ℕ) → r ≡ bit_and m (m - 1) → laid_out os (slots r) (set xs (get_or os i 0 % 64) i) ≡ laid_out os (slots m) xs
  unfolding laid_out
  laid_out-turn r xs s =
      ap (λ (x : ℕ). laid_out os (slots x) (set xs (get_or os i 0 % 64) i)) s ∙ ap (λ (x : ℕ). laid_out os (x ∷ slots (bit_and m (m - 1))) xs) q ∙ ap (λ (l : List ℕ). laid_out os l xs) (sym p.turn)

pub laid_out-none : (os : List ℕ) (m : ℕ) (xs : List ℕ) → m ≡ 0 → laid_out os (slots m) xs ≡ xs
unfolding laid_out
laid_out-none os m xs e = rw (e, none)

-- one more is laid behind those that are laid over the front of a list
pub put_next : {A : Type 0} (os xs : List A) (j : ℕ) (e d : A) → length os ≡ j → j < length xs → set (os ++ drop j xs) j e ≡ (os ++ e ∷ []) ++ drop (j + 1) xs
put_next os xs j e d l h = rw (drop-cons xs j d h, set_at os (get_or xs j d) (drop (suc j) xs) e j l, add-one j) (sym (append_assoc os (e ∷ []) (drop (suc j) xs)))

-- behind what is laid over the front a list is as it was
pub past : {A : Type 0} (os xs : List A) (i j : ℕ) (d : A) → length os ≡ j → j ≤ i → get_or (os ++ drop j xs) i d ≡ get_or xs i d
past os xs i j d l h =
    let q : i ≡ length os + (i - j) = omega arith in
    let r : j + (i - j) ≡ i = omega arith in
    ap (λ (n : ℕ). get_or (os ++ drop j xs) n d) q ∙ get_or-append-add os (drop j xs) (i - j) d ∙ get_or-drop j xs (i - j) d ∙ ap (λ (n : ℕ). get_or xs n d) r

pub map-append : {A B : Type 0} (f : A → B) (a b : List A) → map f (a ++ b) ≡ map f a ++ map f b
map-append f [] b = refl
map-append f (x ∷ a) b = ap (λ l. f x ∷ l) (map-append f a b)

-- a turn of a loop that changes each element of a list
pub map-turn : (f : ℕ → ℕ) (ms xs : List ℕ) (i : ℕ) → i < length ms → xs ≡ map f (take i ms) ++ drop i ms → set xs i (f (get_or xs i 0)) ≡ map f (take (i + 1) ms) ++ drop (i + 1) ms
map-turn f ms xs i h e =
    let l : length (map f (take i ms)) ≡ i = length-map (take i ms) f ∙ length-take-le i ms (omega arith) in
    let v : get_or xs i 0 ≡ get_or ms i 0 = ap (λ (o : List ℕ). get_or o i 0) e ∙ past (map f (take i ms)) ms i i 0 l (omega arith) in
    let t : map f (take (i + 1) ms) ≡ map f (take i ms) ++ f (get_or ms i 0) ∷ [] = rw (add-one, take-suc ms i 0) (map-append f (take i ms) (get_or ms i 0 ∷ [])) in
    rw (v, e) (put_next (map f (take i ms)) ms i (f (get_or ms i 0)) 0 l h ∙ ap (λ (o : List ℕ). o ++ drop (i + 1) ms) (sym t))

-- a turn of a loop that writes one value over a part of a list
replicate-snoc : {A : Type 0} (i : ℕ) (x : A) → replicate (suc i) x ≡ replicate i x ++ x ∷ []
replicate-snoc zero x = refl
replicate-snoc (suc i) x = ap (λ l. x ∷ l) (replicate-snoc i x)

pub fill-turn : {A : Type 0} (os xs ys : List A) (x d : A) (i j k : ℕ) → length os + i ≡ j → k ≡ j + 1 → j < length xs → ys ≡ (os ++ replicate i x) ++ drop j xs
    → set ys j x ≡ (os ++ replicate (i + 1) x) ++ drop k xs
fill-turn os xs ys x d i j k l m h e =
    let n : length (os ++ replicate i x) ≡ j = length-append os (replicate i x) ∙ (let r = length-replicate i x in omega arith) in
    let q : os ++ replicate (i + 1) x ≡ (os ++ replicate i x) ++ x ∷ [] = rw (add-one, replicate-snoc i x) (sym (append_assoc os (replicate i x) (x ∷ []))) in
    rw (e, q, m) (put_next (os ++ replicate i x) xs j x d n h)

pub fill_start : {A : Type 0} (n j : ℕ) (xs : List A) (x : A) → j ≡ n → xs ≡ (take n xs ++ replicate 0 x) ++ drop j xs
fill_start n j xs x e = rw e (sym (ap (λ l. l ++ drop n xs) (append-nil (take n xs)) ∙ take-append-drop n xs))

pub fill_end : {A : Type 0} (os xs : List A) (x y : A) (i j n : ℕ) → i ≡ n → length xs ≤ j → x ≡ y → (os ++ replicate i x) ++ drop j xs ≡ os ++ replicate n y
fill_end os xs x y i j n e h q = rw (e, q, drop_of_length-le xs h) (append-nil (os ++ replicate n y))
