-- The front as its stores leave it, and its length. Assumes nothing.
use Rattle.std.proofs.Common.{◌≡◌, ℕ, ◌+◌, Bool, true, false, List, ◌++◌, length, drop, refl, sym, ap, ap₂, ◌∙◌, append_assoc, arith, length-append}
use Rattle.std.proofs.lemmas.List.{append-nil, take_at, drop_at, drop_all}
use Rattle.std.proofs.lemmas.List.Edits.{sets}
use borrow.Rule.Slice.PartMut.{put_mid}
use Rattle.wire.specs.Bytes.{bytes}
use Rattle.wire.proofs.ByteLaws.{length-bytes}
use Rattle.wire.proofs.StoreLaws.{runs-4}
use Rattle.key_front.specs.declared.Ends.{Ends}
use Rattle.key_front.specs.Front.{randoms_of, direction_of, ip_or_time, in_version0, front_of}

length-direction : (server : Bool) → length (direction_of server) ≡ 6
unfolding direction_of
length-direction true = refl
length-direction false = refl

-- n bytes over the front of a run, and k over the rest
pub halves-stored : (n k : ℕ) (a b z : List ℕ) → length a ≡ n → length b ≡ k → length z ≡ k
    → put_mid n k (a ++ z) b ≡ a ++ b
halves-stored n k a b z p q r =
    let e = ap (drop k) (drop_at a z n p) ∙ drop_all k z (omega arith) in
    ap₂ (λ (x y : List ℕ). x ++ (b ++ y)) (take_at a z n p) e ∙ ap (λ (x : List ℕ). a ++ x) (append-nil b)

module _ (s : Ends) (r : length (randoms_of s) ≡ 32) where
  pub length_front : (version : ℕ) (server : Bool) → length (front_of version server s) ≡ 54
  unfolding front_of randoms_of
  length_front version server =
      let h : length s.server.random + length s.client.random ≡ 32 = sym (length-append s.server.random _) ∙ r in
      simp (length-append, length-bytes, length-direction) (omega arith)

  -- seven runs of stores, one after another
  pub parts-stored : {b1 b2 b3 b4 b5 b6 b7 : List ℕ} (b : List ℕ) (version : ℕ) (server : Bool) {t : List ℕ}
      {x y z w : ℕ} → t ≡ randoms_of s → x ≡ ip_or_time version s.server
      → y ≡ in_version0 version s.client.port → z ≡ in_version0 version s.client.ip
      → w ≡ in_version0 version s.server.port
      → b1 ≡ sets b 0 t → b2 ≡ sets b1 32 (bytes 4 s.client.time) → b3 ≡ sets b2 36 (bytes 4 x)
      → b4 ≡ sets b3 40 (bytes 2 y)
      → b5 ≡ sets b4 42 (direction_of server) → b6 ≡ sets b5 48 (bytes 4 z) → b7 ≡ sets b6 52 (bytes 2 w)
      → b7 ≡ sets b 0 (front_of version server s)
  unfolding front_of randoms_of
  parts-stored {b1} {b2} {b3} {b4} {b5} {b6} b version server {t} {x} {y} {z} {w} er ex ey ez ew e1 e2 e3 e4 e5 e6 e7 =
      let x' = ip_or_time version s.server in
      let y' = in_version0 version s.client.port in
      let z' = in_version0 version s.client.ip in
      let w' = in_version0 version s.server.port in
      let f1 = e1 ∙ ap (sets b 0) er in
      let f3 = e3 ∙ ap (λ (n : ℕ). sets b2 36 (bytes 4 n)) ex in
      let f4 = e4 ∙ ap (λ (n : ℕ). sets b3 40 (bytes 2 n)) ey in
      let f6 = e6 ∙ ap (λ (n : ℕ). sets b5 48 (bytes 4 n)) ez in
      let f7 = e7 ∙ ap (λ (n : ℕ). sets b6 52 (bytes 2 n)) ew in
      runs-4 b 0 32 36 40 (randoms_of s) (bytes 4 s.client.time) (bytes 4 x') (bytes 2 y'
      ++ (direction_of server ++ (bytes 4 z' ++ bytes 2 w'))) f1 e2 f3
      (runs-4 b3 40 42 48 52 (bytes 2 y') (direction_of server) (bytes 4 z') (bytes 2 w') f4 e5 f6 f7
      (rw length-bytes refl) (rw (length-direction server) refl) (rw length-bytes refl))
      (rw r refl) (rw length-bytes refl) (rw length-bytes refl)
      ∙ ap (sets b 0) (append_assoc s.server.random s.client.random _)
