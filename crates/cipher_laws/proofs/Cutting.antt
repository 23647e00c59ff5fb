-- ANY CUTTING: a stream goes through the cipher in pieces of whole blocks, and the other side may cut it otherwise.
-- Assumes nothing.
use mathlib.Core.Path.{◌≡◌, refl, sym, ap, ap₂, ◌∙◌}
use mathlib.Core.List.{List, [], ◌∷◌, ◌++◌, flatten}
use Prim.Native.Nat.{ℕ, ◌%◌}
use native.Mathlib.Omega.{arith}
use lib.ListN.{length, take, length-append}
use lib.Seq.{take_at}
use Rattle.aes.specs.Aes.{keys}
use Rattle.aes.specs.Back.{back_keys, back_cipher}
use Rattle.aes.specs.Cbc.{vector, encipher, encipher_answer, encipher_buffer, encipher_vector, next_vector}
use Rattle.aes.specs.Cbc.{before, decipher_all, decipher_answer, decipher_buffer, decipher_vector}
use Rattle.cipher_laws.specs.Sizes.{Bytes, Sized, Whole}
use Rattle.cipher_laws.specs.Pieces.{Way, next, forth, back, passed, carried, AllWhole, AllBytes, Joined}
use Rattle.cipher_laws.proofs.Blocks.{bytes-append}
use Rattle.cipher_laws.proofs.Schedule.{keys_of}
use Rattle.cipher_laws.proofs.Back.{long-back-keys}
use Rattle.cipher_laws.proofs.Calls.{undone, joined-forth, joined_back}
use Rattle.cipher_laws.proofs.Calls.{sizes-forth, sizes-back, bytes-forth, bytes_back}

-- the pieces joined
pub whole-joined : (ps : List (List ℕ)) → AllWhole ps → Whole (flatten ps)
unfolding flatten
whole-joined [] h = refl
whole-joined (p ∷ ps) h =
    let a = h.0 in
    let b = whole-joined ps h.1 in
    let l = length-append p (flatten ps) in
    omega arith

pub bytes-joined : (ps : List (List ℕ)) → AllBytes ps → Bytes (flatten ps)
unfolding flatten
bytes-joined [] h = tt
bytes-joined (p ∷ ps) h = bytes-append p (flatten ps) h.0 (bytes-joined ps h.1)

-- ---- either way: piece by piece, and going on

module _ (k : Way) where
  -- after some pieces, more of them
  pub passed_on : (v : List ℕ) (ps qs : List (List ℕ))
      → passed k v (ps ++ qs) ≡ passed k v ps ++ passed k (carried k v ps) qs
  unfolding passed carried
  passed_on v [] qs = refl
  passed_on v (p ∷ ps) qs = ap (λ (x : List (List ℕ)). k.buffer v p ∷ x) (passed_on (next k v p) ps qs)

  pub carried_on : (v : List ℕ) (ps qs : List (List ℕ)) → carried k v (ps ++ qs) ≡ carried k (carried k v ps) qs
  unfolding carried
  carried_on v [] qs = refl
  carried_on v (p ∷ ps) qs = carried_on (next k v p) ps qs

  module _ (joins : (v s t : List ℕ) → Whole s → Whole t → Joined k v s t)
      (nothing : (v : List ℕ) → (k.buffer v [] ≡ []) × (next k v [] ≡ v)) where
    as_one : (v : List ℕ) (ps : List (List ℕ)) → AllWhole ps
        → (flatten (passed k v ps) ≡ k.buffer v (flatten ps)) × (carried k v ps ≡ (next k v (flatten ps)))
    unfolding flatten passed carried
    as_one v [] h = (sym (nothing v).0, sym (nothing v).1)
    as_one v (p ∷ ps) h =
        let j = joins v p (flatten ps) h.0 (whole-joined ps h.1) in
        let i = as_one (next k v p) ps h.1 in (
          ap (λ (x : List ℕ). k.buffer v p ++ x) i.0 ∙ sym j.buffers,
          i.1 ∙ sym j.vectors,
        )

nothing-forth : (w v : List ℕ) → (encipher_buffer w v [] ≡ []) × ((encipher_vector w v []) ≡ v)
unfolding encipher_buffer encipher_answer encipher vector next_vector
nothing-forth w v = (refl, refl)

nothing-back : (d v : List ℕ) → (decipher_buffer (back_cipher d) v [] ≡ []) × ((decipher_vector v []) ≡ v)
unfolding decipher_buffer decipher_answer decipher_all before next_vector
nothing-back d v = (refl, refl)

-- enciphering piece by piece is enciphering the joined pieces, and hands back the same vector
pub enciphered : (w v : List ℕ) (ps : List (List ℕ)) → AllWhole ps
    → (flatten (passed (forth w) v ps) ≡ encipher_buffer w v (flatten ps))
    × (carried (forth w) v ps ≡ (encipher_vector w v (flatten ps)))
enciphered w v ps h = as_one (forth w) (joined-forth w) (nothing-forth w) v ps h

-- and so deciphering
pub deciphered : (d v : List ℕ) (qs : List (List ℕ)) → AllWhole qs
    → (flatten (passed (back d) v qs) ≡ decipher_buffer (back_cipher d) v (flatten qs))
    × (carried (back d) v qs ≡ (decipher_vector v (flatten qs)))
deciphered d v qs h = as_one (back d) (joined_back d) (nothing-back d) v qs h

-- what a stream is made of stays so: bytes, whole blocks, and a block as the vector
pub kept-forth : {w v : List ℕ} (ps : List (List ℕ)) → Sized 240 w → Sized 16 v → AllBytes ps
    → AllBytes (passed (forth w) v ps) × Sized 16 (carried (forth w) v ps)
unfolding passed carried
kept-forth [] k hv u = (tt, hv)
kept-forth {w} {v} (p ∷ ps) k hv u =
    let b = bytes-forth p k hv u.0 in
    let i = kept-forth {v = (encipher_vector w v p)} ps k b.1 u.1 in
    ((b.0, i.0), i.1)

pub kept_back : {d v : List ℕ} (qs : List (List ℕ)) → Sized 240 d → Sized 16 v → AllBytes qs
    → AllBytes (passed (back d) v qs) × Sized 16 (carried (back d) v qs)
unfolding passed carried
kept_back [] k hv u = (tt, hv)
kept_back {d} {v} (q ∷ qs) k hv u =
    let b = bytes_back q k hv u.0 in
    let i = kept_back {v = (decipher_vector v q)} qs k b.1 u.1 in
    ((b.0, i.0), i.1)

pub whole-forth : (w v : List ℕ) (ps : List (List ℕ)) → length w ≡ 240 → AllWhole ps → AllWhole (passed (forth w) v ps)
unfolding passed
whole-forth w v [] k h = tt
whole-forth w v (p ∷ ps) k h =
    (ap (λ (n : ℕ). n % 16) (sizes-forth w v p k) ∙ h.0, whole-forth w (encipher_vector w v p) ps k h.1)

-- THE THEOREM: what was enciphered in pieces of whole blocks, and is deciphered in any other pieces of whole blocks,
-- gives the clear bytes; and both sides are left with the same vector
pub any-cutting : {key v : List ℕ} (ps qs : List (List ℕ)) → Sized 32 key → Sized 16 v → AllBytes ps → AllWhole ps
    → AllWhole qs → flatten qs ≡ flatten (passed (forth (keys key)) v ps)
    → (flatten (passed (back (back_keys (keys key))) v qs) ≡ flatten ps)
    × (carried (back (back_keys (keys key))) v qs ≡ carried (forth (keys key)) v ps)
any-cutting {key} {v} ps qs hk hv u h i e =
    let a = enciphered (keys key) v ps h in
    let b = deciphered (back_keys (keys key)) v qs i in
    let c = undone (flatten ps) hk hv (bytes-joined ps u) (whole-joined ps h) in
    let f : flatten qs ≡ encipher_buffer (keys key) v (flatten ps) = e ∙ a.0 in (
      b.0 ∙ ap (decipher_buffer (back_cipher (back_keys (keys key))) v) f ∙ c.0,
      b.1 ∙ ap (λ (x : List ℕ). (decipher_vector v x)) f ∙ ap (next_vector v) c.1 ∙ sym a.1,
    )

-- where nobody cuts it otherwise, each piece comes back as it was
pub each-piece : {key v : List ℕ} (ps : List (List ℕ)) → Sized 32 key → Sized 16 v → AllBytes ps → AllWhole ps
    → (passed (back (back_keys (keys key))) v (passed (forth (keys key)) v ps) ≡ ps)
    × (carried (back (back_keys (keys key))) v (passed (forth (keys key)) v ps) ≡ carried (forth (keys key)) v ps)
unfolding passed carried
each-piece [] hk hv u h = (refl, refl)
each-piece {key} {v} (p ∷ ps) hk hv u h =
    let d = back_keys (keys key) in
    let n = (encipher_vector (keys key) v p) in
    let cs = passed (forth (keys key)) n ps in
    let a = undone p hk hv u.0 h.0 in
    let i = each-piece {v = n} ps hk (bytes-forth p (keys_of hk) hv u.0).1 u.1 h.1 in
    let e : (decipher_vector v (encipher_buffer (keys key) v p)) ≡ n = ap (next_vector v) a.1 in (
      ap₂ ◌∷◌ a.0 (ap (λ (x : List ℕ). passed (back d) x cs) e ∙ i.0),
      ap (λ (x : List ℕ). carried (back d) x cs) e ∙ i.1,
    )

-- and so far as the ciphered bytes came, in pieces of whole blocks, with the rest r to come, they give as many clear
-- bytes
pub so_far : {key v : List ℕ} (ps qs : List (List ℕ)) (r : List ℕ) → Sized 32 key → Sized 16 v → AllBytes ps
    → AllWhole ps → AllWhole qs → flatten qs ++ r ≡ flatten (passed (forth (keys key)) v ps)
    → flatten (passed (back (back_keys (keys key))) v qs) ≡ take (length (flatten qs)) (flatten ps)
so_far {key} {v} ps qs r hk hv u h i e =
    let w = keys key in
    let d = back_keys w in
    let t = flatten qs in
    let a = enciphered w v ps h in
    let b = deciphered d v qs i in
    let c = undone (flatten ps) hk hv (bytes-joined ps u) (whole-joined ps h) in
    let f : t ++ r ≡ encipher_buffer w v (flatten ps) = e ∙ a.0 in
    let l1 = length-append t r in
    let l2 = ap length f ∙ sizes-forth w v (flatten ps) (keys_of hk).long in
    let h1 = whole-joined ps h in
    let h2 = whole-joined qs i in
    let z : Whole r = omega arith in
    let j = (joined_back d v t r h2 z).buffers in
    let x = decipher_buffer (back_cipher d) v t in
    let y = decipher_buffer (back_cipher d) (decipher_vector v t) r in
    let g : x ++ y ≡ flatten ps = sym j ∙ ap (decipher_buffer (back_cipher d) v) f ∙ c.0 in
    let m : length x ≡ length t = sizes-back d v t (long-back-keys (keys_of hk)) hv.long in
    b.0 ∙ sym (take_at x y (length t) m) ∙ ap (take (length t)) g
