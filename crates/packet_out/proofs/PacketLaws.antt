-- The lengths of a packet's parts, and of runs of stores at the front of a list. Assumes nothing.
use native.Mathlib.Omega.{arith}
use mathlib.Core.Path.{◌≡◌, refl, ap, sym, ◌∙◌}
use mathlib.Core.List.{List, [], ◌∷◌, ◌++◌, append_assoc}
use Prim.Native.Nat.{ℕ, suc, ◌+◌, ◌≤◌}
use native.Mathlib.Nat.{add-suc, suc-add}
use lib.ListN.{length, take, drop, set, length-append, length-take, length-drop, length-replicate, take-append-drop}
use lib.Seq.{sets, take_at, drop-drop, drop-set-lt}
use Rattle.wire.specs.Bytes.{part, bytes}
use Rattle.wire.proofs.ByteLaws.{length-bytes}
use Rattle.wire.proofs.StoreLaws.{runs-3, front-stored}
use Rattle.link_state.specs.declared.Link.{Link}
use Rattle.packet_out.specs.Size.{size_of}
use Rattle.packet_out.specs.Packet.{head_of, front_of, packet_of}

pub length-head : (x y z : ℕ) → length (head_of x y z) ≡ 12
unfolding head_of
length-head x y z = simp (length-append, length-bytes)

pub length_front : (l : Link) (kind : ℕ) (body : List ℕ) → length (front_of l kind body) ≡ length body + 12
unfolding front_of
length_front l kind body = simp (length-append, length-head) (omega arith)

pub length-packet : (l : Link) (kind : ℕ) (body : List ℕ) → length (packet_of l kind body) ≡ size_of l (length body)
unfolding packet_of size_of
length-packet l kind body = simp (length-append, length-bytes, length_front, length-replicate) (omega arith)

-- ---- stores at the front

-- three fields, one after the other, are the header
pub head-stored : {b1 b2 b3 : List ℕ} (b : List ℕ) (x y z : ℕ) → b1 ≡ sets b 0 (bytes 4 x) → b2 ≡ sets b1 4 (bytes 4 y) → b3 ≡ sets b2 8 (bytes 4 z)
    → b3 ≡ sets b 0 (head_of x y z)
unfolding head_of
head-stored b x y z e1 e2 e3 = runs-3 b 0 4 8 (bytes 4 x) (bytes 4 y) (bytes 4 z) e1 e2 e3 (rw length-bytes refl) (rw length-bytes refl)

pub take-front : (b xs : List ℕ) (n : ℕ) → length xs ≡ n → n ≤ length b → take n (sets b 0 xs) ≡ xs
take-front b xs n e h = ap (take n) (front-stored b xs (omega arith)) ∙ take_at xs (drop (length xs) b) n e

-- what lies behind a run of stores stays
pub drop-sets : (n : ℕ) (b : List ℕ) (i : ℕ) (xs : List ℕ) → i + length xs ≤ n → drop n (sets b i xs) ≡ drop n b
drop-sets n b i [] h = refl
drop-sets n b i (x ∷ xs) h = drop-sets n (set b i x) (suc i) xs (omega (arith, add-suc i (length xs), suc-add i (length xs))) ∙ drop-set-lt n b i x (omega (arith, add-suc i (length xs)))

-- what is there already may be stored again
pub store-again : (b xs : List ℕ) (n : ℕ) → length xs + n ≤ length b → sets b 0 (xs ++ part b (length xs) n) ≡ sets b 0 xs
store-again b xs n h =
    let d : List ℕ = drop (length xs) b in
    let t : length (take n d) ≡ n = simp (length-take, length-drop) (omega arith) in
    let e : length (xs ++ take n d) ≡ length xs + n = simp length-append (omega (arith, t)) in
    front-stored b (xs ++ take n d) (omega arith)
    ∙ (ap (λ (k : ℕ). (xs ++ take n d) ++ drop k b) e
    ∙ (append_assoc xs (take n d) (drop (length xs + n) b)
    ∙ (ap (λ (r : List ℕ). xs ++ (take n d ++ r)) (sym (drop-drop n (length xs) b))
    ∙ (ap (λ (r : List ℕ). xs ++ r) (take-append-drop n d)
    ∙ sym (front-stored b xs (omega arith))))))
