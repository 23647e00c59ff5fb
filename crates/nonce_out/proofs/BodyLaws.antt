-- The body of a Nonce: as the stores leave it, its length, and its fields. Assumes nothing.
use mathlib.Core.Path.{◌≡◌, refl, ap, ◌∙◌}
use mathlib.Core.Bool.{Bool, true, false}
use mathlib.Core.List.{List, [], ◌++◌, append_assoc, append-nil}
use Prim.Native.Nat.{ℕ, ◌<◌, ◌^◌}
use lib.ListN.{length, length-append, replicate}
use lib.Seq.{sets}
use Rattle.wire.specs.Bytes.{le, part, bytes}
use Rattle.wire.specs.Choice.{pick}
use Rattle.wire.proofs.ByteLaws.{length-bytes, le_bytes, part-mid}
use Rattle.wire.proofs.StoreLaws.{runs-2, runs-3, runs-4}
use Rattle.link_state.specs.declared.Link.{Link}
use Rattle.link_state.specs.declared.Moment.{Moment}
use Rattle.link_cipher.specs.Offered.{encryption_of, offers_or_takes, sent_key_id, sent_point}
use Rattle.nonce_out.specs.declared.Drawn.{Drawn}
use Rattle.nonce_out.specs.Nonce.{version_of, nonce_head, nonce_body, our_nonce}

length_fields : (k e v t : ℕ) → length (nonce_head k e v t) ≡ 12
unfolding nonce_head
length_fields k e v t = simp (length-append, length-bytes)

pub fields-stored : {b1 b2 b3 b4 b5 : List ℕ} (b : List ℕ) (k e v t : ℕ) → b1 ≡ sets b 12 (bytes 4 k)
    → b2 ≡ sets b1 16 (bytes 1 e)
    → b3 ≡ sets b2 17 (bytes 1 v) → b4 ≡ sets b3 18 (bytes 2 0) → b5 ≡ sets b4 20 (bytes 4 t)
    → b5 ≡ sets b 12 (nonce_head k e v t)
unfolding nonce_head
fields-stored {b1} b k e v t e1 e2 e3 e4 e5 =
    runs-2 b 12 16 (bytes 4 k) (bytes 1 e ++ (bytes 1 v ++ (bytes 2 0 ++ bytes 4 t))) e1
    (runs-4 b1 16 17 18 20 (bytes 1 e) (bytes 1 v) (bytes 2 0) (bytes 4 t) e2 e3 e4 e5
    (rw length-bytes refl) (rw length-bytes refl) (rw length-bytes refl))
    (rw length-bytes refl)

body-stored : {b1 b2 b3 : List ℕ} (b : List ℕ) (k e v t : ℕ) (random point : List ℕ) → length random ≡ 16
    → b1 ≡ sets b 12 (nonce_head k e v t) → b2 ≡ sets b1 24 random → b3 ≡ sets b2 40 point
    → b3 ≡ sets b 12 (nonce_body k e v t random point)
unfolding nonce_body
body-stored b k e v t random point n e1 e2 e3 =
    runs-3 b 12 24 40 (nonce_head k e v t) random point e1 e2 e3 (rw length_fields refl) (rw n refl)

-- the same of the fields that the calls answered
pub nonce-stored : {b1 b2 b3 point : List ℕ} {k e v : ℕ} (b : List ℕ) (l : Link) (drawn : Drawn) (m : Moment)
    → length drawn.random ≡ 16 → k ≡ sent_key_id l → e ≡ encryption_of l → v ≡ version_of l
    → point ≡ sent_point l drawn.point → b1 ≡ sets b 12 (nonce_head k e v m.time) → b2 ≡ sets b1 24 drawn.random
    → b3 ≡ sets b2 40 point → b3 ≡ sets b 12 (our_nonce l drawn m)
unfolding our_nonce
nonce-stored {k = k} {e = e} {v = v} b l drawn m n ek ee ev ep e1 e2 e3 =
    rw (← ek, ← ee, ← ev, ← ep) (body-stored b k e v m.time drawn.random _ n e1 e2 e3)

pub length-nonce : (k e v t : ℕ) (random point : List ℕ) → length random ≡ 16 → length point ≡ 32
    → length (nonce_body k e v t random point) ≡ 60
unfolding nonce_body
length-nonce k e v t random point n p = simp (length-append, length_fields, n, p)

-- the point is of 32 bytes, if the card's is
pub length-point : (l : Link) (point : List ℕ) → length point ≡ 32 → length (sent_point l point) ≡ 32
unfolding sent_point
length-point l point p = go (offers_or_takes l)
  where
    go : (b : Bool) → length (pick b point (replicate 32 0)) ≡ 32
    go true = p
    go false = refl

pub length-ours : (l : Link) (drawn : Drawn) (m : Moment) → length drawn.random ≡ 16 → length drawn.point ≡ 32
    → length (our_nonce l drawn m) ≡ 60
unfolding our_nonce
length-ours l drawn m n p = length-nonce _ _ _ _ _ _ n (length-point l drawn.point p)

-- ---- the fields, as a reader finds them

module _ (keyid encryption version time : ℕ) (random point : List ℕ) where
  abbrev body : List ℕ
  body = nonce_body keyid encryption version time random point

  pub nonce-key-id : keyid < 2 ^ 32 → le (part body 0 4) ≡ keyid
  unfolding nonce_body nonce_head
  nonce-key-id h =
      let T : List ℕ = (bytes 1 encryption ++ (bytes 1 version ++ (bytes 2 0 ++ bytes 4 time))) ++ (random ++ point) in
      let q : body ≡ [] ++ (bytes 4 keyid ++ T) = simp append_assoc in
      ap (λ (t : List ℕ). le (part t 0 4)) q
      ∙ (ap le (part-mid [] (bytes 4 keyid) T 0 4 refl (length-bytes 4 keyid)) ∙ le_bytes 4 keyid h)

  pub nonce-cipher : encryption < 256 → le (part body 4 1) ≡ encryption
  unfolding nonce_body nonce_head
  nonce-cipher h =
      let T : List ℕ = (bytes 1 version ++ (bytes 2 0 ++ bytes 4 time)) ++ (random ++ point) in
      let q : body ≡ bytes 4 keyid ++ (bytes 1 encryption ++ T) = simp append_assoc in
      ap (λ (t : List ℕ). le (part t 4 1)) q
      ∙ (ap le (part-mid (bytes 4 keyid) (bytes 1 encryption) T 4 1 (length-bytes 4 keyid) (length-bytes 1 encryption))
      ∙ le_bytes 1 encryption h)

  pub nonce-version : version < 256 → le (part body 5 1) ≡ version
  unfolding nonce_body nonce_head
  nonce-version h =
      let H : List ℕ = bytes 4 keyid ++ bytes 1 encryption in
      let e : length H ≡ 5 = simp (length-append, length-bytes) in
      let T : List ℕ = (bytes 2 0 ++ bytes 4 time) ++ (random ++ point) in
      let q : body ≡ H ++ (bytes 1 version ++ T) = simp append_assoc in
      ap (λ (t : List ℕ). le (part t 5 1)) q
      ∙ (ap le (part-mid H (bytes 1 version) T 5 1 e (length-bytes 1 version)) ∙ le_bytes 1 version h)

  pub nonce-time : time < 2 ^ 32 → le (part body 8 4) ≡ time
  unfolding nonce_body nonce_head
  nonce-time h =
      let H : List ℕ = bytes 4 keyid ++ (bytes 1 encryption ++ (bytes 1 version ++ bytes 2 0)) in
      let e : length H ≡ 8 = simp (length-append, length-bytes) in
      let q : body ≡ H ++ (bytes 4 time ++ (random ++ point)) = simp append_assoc in
      ap (λ (t : List ℕ). le (part t 8 4)) q
      ∙ (ap le (part-mid H (bytes 4 time) (random ++ point) 8 4 e (length-bytes 4 time)) ∙ le_bytes 4 time h)

  pub nonce-random : length random ≡ 16 → part body 12 16 ≡ random
  unfolding nonce_body
  nonce-random n =
      part-mid (nonce_head keyid encryption version time) random point 12 16
      (length_fields keyid encryption version time) n

  pub nonce-point : length random ≡ 16 → length point ≡ 32 → part body 28 32 ≡ point
  unfolding nonce_body
  nonce-point n p =
      let H : List ℕ = nonce_head keyid encryption version time ++ random in
      let e : length H ≡ 28 = simp (length-append, length_fields, n) in
      let q : body ≡ H ++ (point ++ []) = simp (append_assoc, append-nil) in
      ap (λ (t : List ℕ). part t 28 32) q ∙ part-mid H point [] 28 32 e p
