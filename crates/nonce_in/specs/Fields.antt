-- What a derivation needs of a Nonce (document 01, "Opening": "Nonce body: KeyID 4, encryption 1, version 1, flags 2,
-- time 4, random 16, DH point 32"). Assumes nothing.
use Rattle.std.specs.Prelude.{ℕ, List, [], ◌∷◌, length, ltb, Result, Ok, Err}
use Rattle.wire.specs.Bytes.{le, part}
use Rattle.wire.specs.Choice.{pick, first}
use Rattle.opening.specs.Nonce.{least_of, version_at}
use Rattle.nonce_in.specs.declared.Place.{Place}
use Rattle.nonce_in.specs.declared.NonceFields.{NonceFields}
use Rattle.refusal.specs.declared.Refusal.{Refusal}
use Rattle.refusal.specs.declared.Refusal.TheVariants.{OpeningShort}

-- a Nonce has a DH point from version 2 on: those before end with the random bytes, and "anything after is ignored"
unfoldable pub point_place : ℕ → Place
point_place version = record { at = 28; len = pick (ltb version 2) 0 32 }

unfoldable pub fields_of : List ℕ → NonceFields
fields_of b =
    record {
      version = version_at b;
      time = le (part b 8 4);
      random = record { at = 12; len = 16 };
      point = point_place (version_at b);
    }

-- 7 for a short body, by the rule of a receive call: "At least 28 bytes, and at least 60 if the version is 2 or more"
unfoldable pub nonce_of : List ℕ → Result NonceFields Refusal
nonce_of b = first ((ltb (length b) (least_of (version_at b)), Err OpeningShort) ∷ []) (Ok (fields_of b))
