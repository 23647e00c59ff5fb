-- Which Nonce is refused (document 01, "Opening": "Nonce body: KeyID 4, encryption 1, version 1, flags 2, time 4, random
-- 16, DH point 32"; flags and anything after are ignored). Assumes nothing.
use Rattle.std.specs.Prelude.{ℕ, Bool, not, ◌&&◌, List, [], ◌∷◌, length, ltb, Result, Ok, Err, ⊤}
use Rattle.wire.specs.Bytes.{le, part}
use Rattle.wire.specs.Choice.{pick, first}
use Rattle.link_state.specs.declared.Link.{Link}
use Rattle.link_state.specs.declared.Settings.{Settings}
use Rattle.link_state.specs.declared.Moment.{Moment}
use Rattle.link_cipher.specs.Chosen.{cipher_refused}
use Rattle.opening.specs.Clock.{near_of}
use Rattle.refusal.specs.declared.Refusal.{Refusal}
use Rattle.refusal.specs.declared.Refusal.TheVariants.{OpeningShort, Clocks, VersionTooOld, Encryption, BeyondOffer}

-- "At least 28 bytes, and at least 60 if the version is 2 or more"
unfoldable pub least_of : ℕ → ℕ
least_of version = pick (ltb version 2) 28 60

-- the version in a Nonce's body
abbrev pub version_at : List ℕ → ℕ
version_at b = le (part b 5 1)

-- "A version above a client's own is 10"; our version is 2
unfoldable pub beyond_of : Settings → ℕ → Bool
beyond_of set version = not set.server && ltb 2 version

-- "opening body short; clocks; encryption; beyond our offer", in the order 7, 8, 9, 10; 9 is by the link's settings and
-- KeyID (document 02, A9), and a version below its lowest is 24, "after 8 and before 9" (document 02, A11)
unfoldable pub check_nonce : Link → List ℕ → Moment → Result ⊤ Refusal
check_nonce l b m =
    first (
    (ltb (length b) (least_of (version_at b)), Err OpeningShort) ∷
    (not (near_of b m), Err Clocks) ∷
    (ltb (version_at b) l.set.lowest, Err VersionTooOld) ∷
    (cipher_refused l b, Err Encryption) ∷
    (beyond_of l.set (version_at b), Err BeyondOffer) ∷
    []
    ) (Ok tt)
