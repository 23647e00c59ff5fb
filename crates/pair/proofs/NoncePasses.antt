-- A Nonce of ours passes at the other side: its bytes, its clock, its encryption and its KeyID. Assumes nothing.
use borrow.Author.Tests.{le-ltb, le-leb, eq-eqb}
use native.Mathlib.Omega.{arith}
use mathlib.Core.Path.{◌≡◌, refl, sym}
use mathlib.Core.Bool.{Bool, true, false, not, ◌&&◌, cond}
use mathlib.Core.List.{List, ◌++◌}
use Prim.Native.Nat.{ℕ, zero, suc, ◌+◌, ◌-◌, ◌≤◌, ◌<◌, ◌^◌}
use lib.IntN.{pos, negsuc}
use lib.ListN.{length, replicate}
use lib.Dec.{ltb, eqb, lit<}
use Rattle.wire.specs.Bytes.{bytes}
use Rattle.wire.specs.Choice.{pick}
use Rattle.wire.proofs.ByteLaws.{Small}
use Rattle.link_state.specs.declared.Link.{Link}
use Rattle.link_state.specs.declared.Settings.{Settings}
use Rattle.link_state.specs.declared.Moment.{Moment}
use Rattle.link_cipher.specs.Offered.{offer_of}
use Rattle.link_cipher.specs.Chosen.{server_refuses, client_refuses, encryption_refused, chosen_of, cipher_refused}
use Rattle.opening.specs.Clock.{nonce_clock, clock_of, within30, near_of}
use Rattle.opening.specs.Nonce.{least_of, beyond_of, check_nonce}
use Rattle.nonce_out.specs.Nonce.{nonce_head, nonce_body}
use Rattle.nonce_out.proofs.BodyLaws.{length-nonce, nonce-key-id, nonce-cipher, nonce-version, nonce-time}
use Rattle.pair.specs.Opens.{Choices, settings_of, both_of, Meet}
use Rattle.pair.proofs.SumLaws.{small-append, small_bytes}
use Rattle.std.specs.Prelude.{Ok, is_some}

-- ---- clocks that are at most 30 apart are near

pub near : (a b : ℕ) → a ≤ b + 30 → b ≤ a + 30 → is_some (clock_of a b) ≡ true
unfolding clock_of
near a zero h g = simp (le-leb (a + 0) 30 (omega arith))
near a (suc k) h g = by-test (ltb a (suc k))
  where
    by-test : (t : Bool) → is_some (within30 (cond t (negsuc (suc k - suc a)) (pos (a - suc k)))) ≡ true
    by-test true = simp (le-leb (suc k - suc a) 29 (omega arith))
    by-test false = simp (le-leb (a - suc k) 30 (omega arith))

-- ---- bytes

pub small-zeros : (n : ℕ) → Small (replicate n 0)
small-zeros zero i = lit< tt
small-zeros (suc n) zero = lit< tt
small-zeros (suc n) (suc i) = small-zeros n i

-- the card's point, or zeros
pub point-length : (b : Bool) (p : List ℕ) → length p ≡ 32 → length (pick b p (replicate 32 0)) ≡ 32
point-length true p h = h
point-length false p h = refl

pub point-small : (b : Bool) (p : List ℕ) → Small p → Small (pick b p (replicate 32 0))
point-small true p h = h
point-small false p h = small-zeros 32

pub pick_small : (b : Bool) (k : ℕ) → k < 2 ^ 32 → pick b k 0 < 2 ^ 32
pick_small true k h = h
pick_small false k h = lit< tt

module _ (k e version time : ℕ) (random point : List ℕ) where
  pub small-nonce : Small random → Small point → Small (nonce_body k e version time random point)
  unfolding nonce_body nonce_head
  small-nonce g h =
      let t : List ℕ = bytes 2 0 ++ bytes 4 time in
      small-append (bytes 4 k ++ (bytes 1 e ++ (bytes 1 version ++ t))) (random ++ point)
      (small-append (bytes 4 k) (bytes 1 e ++ (bytes 1 version ++ t)) (small_bytes 4 k)
      (small-append (bytes 1 e) (bytes 1 version ++ t) (small_bytes 1 e)
      (small-append (bytes 1 version) t (small_bytes 1 version)
      (small-append (bytes 2 0) (bytes 4 time) (small_bytes 2 0) (small_bytes 4 time)))))
      (small-append random point g h)

  -- 9 is decided by the encryption and the KeyID
  pub nine : (l : Link) → k < 2 ^ 32 → e < 256 → encryption_refused l.set e ≡ false
      → (chosen_of l.set e && not (eqb k l.keyid)) ≡ false
      → cipher_refused l (nonce_body k e version time random point) ≡ false
  unfolding cipher_refused
  nine l hk he taken same =
      rw (nonce-cipher k e version time random point he, nonce-key-id k e version time random point hk, taken, same)

  -- a Nonce of ours passes, where the clocks are near and its encryption and KeyID are not refused
  pub nonce-passes : (l : Link) (m : Moment) → length random ≡ 16 → length point ≡ 32 → version ≤ 2
      → l.set.lowest ≤ version
      → time < 2 ^ 32 → is_some (clock_of time m.time) ≡ true
      → cipher_refused l (nonce_body k e version time random point) ≡ false
      → check_nonce l (nonce_body k e version time random point) m ≡ Ok tt
  unfolding check_nonce least_of beyond_of near_of nonce_clock
  nonce-passes l m n p v low t near ok =
      simp (
        length-nonce k e version time random point n p,
        nonce-version k e version time random point (omega arith),
        nonce-time k e version time random point t,
        near,
        ok,
        le-ltb 2 version v,
        le-ltb version l.set.lowest low,
        least (ltb version 2),
        off l.set.server,
      )
    where
      least : (b : Bool) → ltb 60 (pick b 28 60) ≡ false
      least true = refl
      least false = refl

      off : (b : Bool) → (not b && false) ≡ false
      off true = refl
      off false = refl

-- ---- the cipher: what a client offers and a server answers, and what each makes of it

pub offer-small : (set : Settings) → offer_of set < 256
unfolding offer_of
offer-small set = go set.cipher set.only
  where
    go : (a b : Bool) → pick (not a) 0 (pick b 1 2) < 256
    go true true = lit< tt
    go true false = lit< tt
    go false b = lit< tt

pub answer-small : (b : Bool) → pick b 1 0 < 256
answer-small true = lit< tt
answer-small false = lit< tt

module _ (x y : Choices) where
  -- the server chooses the cipher exactly if both have it
  pub offer-chosen : chosen_of (settings_of true y) (offer_of (settings_of false x)) ≡ both_of x y
  unfolding chosen_of offer_of
  offer-chosen = go x.cipher x.only y.cipher
    where
      go : (a o b : Bool) → pick (not b) false (not (eqb (pick (not a) 0 (pick o 1 2)) 0)) ≡ (a && b)
      go true true true = refl
      go true false true = refl
      go true o false = refl
      go false o true = refl
      go false o false = refl

  -- and the client hears so
  pub answer-chosen : chosen_of (settings_of false x) (pick (both_of x y) 1 0) ≡ both_of x y
  unfolding chosen_of
  answer-chosen = go x.cipher y.cipher
    where
      go : (a b : Bool) → pick (not a) false (eqb (pick (a && b) 1 0) 1) ≡ (a && b)
      go true true = refl
      go true false = refl
      go false b = refl

  module _ (meet : Meet x y) where
    -- neither refuses the other's encryption
    pub offer-taken : encryption_refused (settings_of true y) (offer_of (settings_of false x)) ≡ false
    unfolding encryption_refused server_refuses offer_of
    offer-taken = go x.cipher x.only y.cipher y.only meet.client_not_alone meet.server_not_alone
      where
        go : (a o b q : Bool) → (a && (o && not b)) ≡ false → (b && (q && not a)) ≡ false
            → pick (not b) (eqb (pick (not a) 0 (pick o 1 2)) 1) (pick q (eqb (pick (not a) 0
            (pick o 1 2)) 0) false) ≡ false
        go true true true true e f = refl
        go true true true false e f = refl
        go true false true true e f = refl
        go true false true false e f = refl
        go true true false q e f = e
        go true false false q e f = refl
        go false o true true e f = f
        go false o true false e f = refl
        go false o false q e f = refl

    pub answer-taken : encryption_refused (settings_of false x) (pick (both_of x y) 1 0) ≡ false
    unfolding encryption_refused client_refuses
    answer-taken = go x.cipher x.only y.cipher meet.client_not_alone
      where
        go : (a o b : Bool) → (a && (o && not b)) ≡ false
            → pick (not a) (not (eqb (pick (a && b) 1 0) 0)) (pick o (not (eqb (pick (a && b) 1 0) 1)) (ltb 1 (pick
            (a && b) 1 0)))
            ≡ false
        go true true true e = refl
        go true false true e = refl
        go true true false e = e
        go true false false e = refl
        go false o b e = refl

    -- the KeyIDs are the same where the cipher is chosen
    pub offer-key : (both_of x y && not (eqb (pick x.cipher x.keyid 0) y.keyid)) ≡ false
    offer-key = go x.cipher y.cipher meet.same_key
      where
        go : (a b : Bool) → ((a && b) ≡ true → x.keyid ≡ y.keyid)
            → ((a && b) && not (eqb (pick a x.keyid 0) y.keyid)) ≡ false
        go true true same = rw (eq-eqb x.keyid y.keyid (same refl))
        go true false same = refl
        go false b same = refl

    pub answer-key : (both_of x y && not (eqb (pick (both_of x y) y.keyid 0) x.keyid)) ≡ false
    answer-key = go x.cipher y.cipher meet.same_key
      where
        go : (a b : Bool) → ((a && b) ≡ true → x.keyid ≡ y.keyid)
            → ((a && b) && not (eqb (pick (a && b) y.keyid 0) x.keyid)) ≡ false
        go true true same = rw (eq-eqb y.keyid x.keyid (sym (same refl)))
        go true false same = refl
        go false b same = refl
