-- The message as its stores leave it, and its length. Assumes nothing.
use Rattle.std.proofs.Common.{◌≡◌, ℕ, ◌+◌, Bool, true, false, List, length, eqb, refl, ap, ◌∙◌, arith, length-append, Ok, Err}
use Rattle.std.proofs.lemmas.List.{append-nil}
use Rattle.std.proofs.lemmas.List.Edits.{sets}
use Rattle.wire.proofs.StoreLaws.{runs-4}
use Rattle.refusal.specs.declared.Refusal.{Refusal}
use Rattle.key_front.specs.declared.Ends.{Ends}
use Rattle.key_front.specs.Front.{randoms_of, front_of}
use Rattle.key_front.proofs.Laid.{length_front}
use Rattle.key_message.specs.Message.{shared_of, message, size_of, size_or_refusal, stored, message_buffer}

module _ (s : Ends) (r : length (randoms_of s) ≡ 32) where
  module _ (version : ℕ) (server : Bool) (key shared : List ℕ) {a : ℕ} (m : a ≡ 54 + length key)
      {x : List ℕ} (h : x ≡ randoms_of s) where
    -- the key, the random bytes again, and the shared bytes where the version has them
    pub message-stored : {b1 b2 b3 b4 : List ℕ} (b : List ℕ) → b1 ≡ sets b 0 (front_of version server s)
        → b2 ≡ sets b1 54 key → b3 ≡ sets b2 a x
        → b4 ≡ sets b3 (a + 32) (shared_of version shared) → b4 ≡ sets b 0 (message version server s key shared)
    unfolding message
    message-stored {b1} {b2} b e1 e2 e3 e4 =
        runs-4 b 0 54 a (a + 32) (front_of version server s) key (randoms_of s) (shared_of version shared) e1 e2
        (e3 ∙ ap (sets b2 a) h) e4 (omega (arith, length_front s r version server)) m (rw r refl)

    pub message-with : {b1 b2 b3 b4 : List ℕ} (b : List ℕ) → eqb version 2 ≡ true
        → b1 ≡ sets b 0 (front_of version server s) → b2 ≡ sets b1 54 key → b3 ≡ sets b2 a x
        → b4 ≡ sets b3 (a + 32) shared → b4 ≡ sets b 0 (message version server s key shared)
    unfolding shared_of
    message-with b t e1 e2 e3 e4 = message-stored b e1 e2 e3 (rw t e4)

    pub message-without : {b1 b2 b3 : List ℕ} (b : List ℕ) → eqb version 2 ≡ false
        → b1 ≡ sets b 0 (front_of version server s) → b2 ≡ sets b1 54 key → b3 ≡ sets b2 a x
        → b3 ≡ sets b 0 (message version server s key shared)
    unfolding shared_of
    message-without b t e1 e2 e3 = message-stored b e1 e2 e3 (rw t refl)

  -- the size is the message's length
  pub length-message : (version : ℕ) (server : Bool) (key shared : List ℕ) → length shared ≡ 32
      → length (message version server s key shared) ≡ size_of version (length key)
  unfolding message size_of shared_of
  length-message version server key shared e = go (eqb version 2) refl
    where
      go : (t : Bool) → eqb version 2 ≡ t → length (message version server s key shared) ≡ size_of version (length key)
      go true h = rw h (simp (length-append, length_front s r, r, e) (omega arith))
      go false h = rw h (simp (length-append, length_front s r, r, append-nil) (omega arith))

-- the buffer by the answer
pub buffer-kept : (version : ℕ) (server : Bool) (s : Ends) (key shared b : List ℕ) {k : Refusal}
    → size_or_refusal version (length key) (length b) ≡ Err k
    → b ≡ message_buffer version server s key shared b
unfolding message_buffer stored
buffer-kept version server s key shared b e = rw e refl

pub buffer-written : (version : ℕ) (server : Bool) (s : Ends) (key shared b : List ℕ) {n : ℕ} {b1 : List ℕ}
    → size_or_refusal version (length key) (length b) ≡ Ok n
    → b1 ≡ sets b 0 (message version server s key shared) → b1 ≡ message_buffer version server s key shared b
unfolding message_buffer stored
buffer-written version server s key shared b e h = rw e h
