-- Digests have 16 and 20 bytes; what a message's answer says; the message as it stands in its buffer. Assumes nothing.
use Rattle.std.proofs.Common.{◌≡◌, ℕ, ◌≤◌, Bool, true, false, List, ◌++◌, length, take, drop, refl, sym, ap, ap₂, ◌∙◌, ltb, arith, length-append, Result, Ok, Err}
use borrow.Author.Tests.{ltb-false}
use Rattle.wire.proofs.ByteLaws.{length-bytes, part-sets}
use Rattle.wire.proofs.StoreLaws.{front-stored}
use Rattle.md5_hash.specs.Md5 as md
use Rattle.refusal.specs.declared.Refusal.{Refusal}
use Rattle.key_front.specs.declared.Ends.{Ends}
use Rattle.key_front.specs.Front.{randoms_of}
use Rattle.key_message.specs.Message.{size_of, size_or_refusal, message, stored, message_buffer}
use Rattle.key_message.proofs.Laid.{length-message}
use Rattle.link_keys.specs.Keys.{key_of, vector_of, with_keys, derived}
use Rattle.link_keys.specs.declared.Derived.{Derived}

pub length-md5 : (s : List ℕ) → length (md.md5 s) ≡ 16
unfolding md.md5 md.digest
length-md5 s = simp (length-append, length-bytes)

-- a size is the message's, and the buffer has room for it
pub size-told : (version key room : ℕ) {n : ℕ} → size_or_refusal version key room ≡ Ok n
    → (n ≡ size_of version key) × (n ≤ room)
unfolding size_or_refusal
size-told version key room {n} e = go (ltb 4096 key) (ltb 2 version) (ltb room (size_of version key)) refl refl refl
  where
    go : (a b c : Bool) → ltb 4096 key ≡ a → ltb 2 version ≡ b → ltb room (size_of version key) ≡ c
        → (n ≡ size_of version key) × (n ≤ room)
    go true b c f g h = absurd (cc (rw f at e))
    go false true c f g h = absurd (cc (rw (f, g) at e))
    go false false true f g h = absurd (cc (rw (f, g, h) at e))
    go false false false f g h =
        let i : n ≡ size_of version key = cc (rw (f, g, h) at e) in
        (i, omega (arith, ltb-false room (size_of version key) h))

module _ (version : ℕ) (server : Bool) (s : Ends) (key shared b : List ℕ) where
  pub refused-keys : {k : Refusal} → size_or_refusal version (length key) (length b) ≡ Err k
      → Err k ≡ derived version server s key shared b
  unfolding derived with_keys
  refused-keys e = rw e refl

  -- what the buffer holds, so far as the size goes, is the message
  pub keys-told : {n : ℕ} {b1 x v : List ℕ} → size_or_refusal version (length key) (length b) ≡ Ok n
      → b1 ≡ message_buffer version server s key shared b → n ≤ length b
      → length (message version server s key shared) ≡ n
      → x ≡ key_of (take n b1) → v ≡ vector_of (take n b1)
      → ◌≡◌ {A = Result Derived Refusal} (Ok (record { size = n; key = x; vector = v }))
      (derived version server s key shared b)
  unfolding derived with_keys message_buffer stored
  keys-told {n} e f h l i j =
      let m = message version server s key shared in
      let t : take n _ ≡ m = ap (take n) (rw e at f) ∙ part-sets b 0 n m l (omega arith) in
      rw (e, ← t) (ap₂ (λ (x v : List ℕ). Ok (record { size = n; key = x; vector = v })) i j)

  -- NOTHING ELSE: the buffer afterwards is the message, and behind it what stood there before
  pub buffer-told : length (randoms_of s) ≡ 32 → length shared ≡ 32 → {n : ℕ}
      → size_or_refusal version (length key) (length b) ≡ Ok n
      → message_buffer version server s key shared b ≡ message version server s key shared ++ drop n b
  unfolding message_buffer stored
  buffer-told r l {n} e =
      let t = size-told version (length key) (length b) e in
      let w : length (message version server s key shared) ≡ n =
      length-message s r version server key shared l ∙ sym t.0 in
      rw e
      (front-stored b (message version server s key shared) (omega (arith, t.1))
      ∙ ap (λ (k : ℕ). message version server s key shared ++ drop k b) w)
