-- What is read of a Nonce: of every one that a receive call accepts, and of ours what was written. Assumes nothing.
use native.Mathlib.Omega.{arith}
use borrow.Author.Tests.{ltb-false, le-ltb}
use mathlib.Core.Path.{◌≡◌, refl, ◌∙◌}
use mathlib.Core.Bool.{Bool, true, false}
use mathlib.Core.List.{List}
use Prim.Native.Nat.{ℕ, ◌+◌, ◌≤◌, ◌<◌, ◌^◌}
use lib.ListN.{length}
use lib.Dec.{ltb}
use Rattle.wire.specs.Bytes.{within}
use Rattle.wire.specs.Choice.{pick}
use Rattle.link_state.specs.declared.Link.{Link}
use Rattle.link_state.specs.declared.Moment.{Moment}
use Rattle.opening.specs.Nonce.{least_of, version_at, check_nonce}
use Rattle.nonce_out.specs.Nonce.{nonce_body}
use Rattle.nonce_out.proofs.BodyLaws.{length-nonce, nonce-version, nonce-time, nonce-random, nonce-point}
use Rattle.nonce_in.specs.declared.NonceFields.{NonceFields}
use Rattle.nonce_in.specs.Fields.{point_place, fields_of, nonce_of}
use Rattle.refusal.specs.declared.Refusal.TheVariants.{OpeningShort}
use Rattle.refusal.specs.declared.Refusal.{Refusal}
use Rattle.std.specs.Prelude.{Result, Ok, Err, ⊤}

-- a body that is long enough is read
long-read : (b : List ℕ) → least_of (version_at b) ≤ length b → nonce_of b ≡ Ok (fields_of b)
unfolding nonce_of
long-read b h = rw (le-ltb (length b) (least_of (version_at b)) h)

-- ACCEPTED, THEN READ: no Nonce that a receive call accepts is refused here
pub accepted-read : (l : Link) (b : List ℕ) (m : Moment) → check_nonce l b m ≡ Ok tt
    → nonce_of b ≡ Ok (fields_of b)
unfolding check_nonce
accepted-read l b m e = go (ltb (length b) (least_of (version_at b))) _ refl e
  where
    go : (x : Bool) (n : Result ⊤ Refusal) → ltb (length b) (least_of (version_at b)) ≡ x
        → pick x (Err OpeningShort) n ≡ Ok tt → nonce_of b ≡ Ok (fields_of b)
    go true n q e = cc
    go false n q z = long-read b (ltb-false (length b) (least_of (version_at b)) q)

-- what an answer says of the body
took : (b : List ℕ) (f : NonceFields) → nonce_of b ≡ Ok f → (f ≡ fields_of b) × (least_of (version_at b) ≤ length b)
unfolding nonce_of
took b f = go (ltb (length b) (least_of (version_at b))) refl
  where
    go : (x : Bool) → ltb (length b) (least_of (version_at b)) ≡ x → pick x (Err OpeningShort) (Ok (fields_of b)) ≡ Ok f
        → (f ≡ fields_of b) × (least_of (version_at b) ≤ length b)
    go true q e = cc
    go false q e = let g : f ≡ fields_of b = cc in (g, ltb-false (length b) (least_of (version_at b)) q)

fit : (version n : ℕ) → least_of version ≤ n → (28 ≤ n) × ((point_place version).at + (point_place version).len ≤ n)
unfolding least_of point_place
fit version n = go (ltb version 2)
  where
    go : (x : Bool) → pick x 28 60 ≤ n → (28 ≤ n) × (28 + pick x 0 32 ≤ n)
    go true h = (omega arith, omega arith)
    go false h = (omega arith, omega arith)

-- HELD: the places that are named lie in the body, so that all their bytes are there
pub places-held : (b : List ℕ) (f : NonceFields) → nonce_of b ≡ Ok f
    → (f.random.at + f.random.len ≤ length b) × (f.point.at + f.point.len ≤ length b)
unfolding fields_of
places-held b f e = rw (took b f e).0 (fit (version_at b) (length b) (took b f e).1)

most : (version : ℕ) → least_of version ≤ 60
unfolding least_of
most version = go (ltb version 2)
  where
    go : (x : Bool) → pick x 28 60 ≤ 60
    go true = omega arith
    go false = omega arith

-- READ BACK: of a Nonce as we write it, the version, the time, the random bytes and, from version 2 on, the point
module _ (k e version time : ℕ) (random point : List ℕ) (v : version < 256) (t : time < 2 ^ 32)
    (n : length random ≡ 16) (p : length point ≡ 32) where
  abbrev body : List ℕ
  body = nonce_body k e version time random point

  pub nonce-back : nonce_of body
      ≡ Ok (record {
        version = version;
        time = time;
        random = record { at = 12; len = 16 };
        point = point_place version;
      })
  unfolding fields_of
  nonce-back =
      long-read body
      (rw (nonce-version k e version time random point v, length-nonce k e version time random point n p)
      (most version))
      ∙ rw (nonce-version k e version time random point v, nonce-time k e version time random point t)

  pub random-back : within body 12 16 ≡ random
  random-back =
      rw (length-nonce k e version time random point n p) (nonce-random k e version time random point n)

  pub point-back : within body 28 32 ≡ point
  point-back =
      rw (length-nonce k e version time random point n p) (nonce-point k e version time random point n p)
