-- Where a server of ours answers 9 to a client of ours (document 02, A9). Assumes nothing.
use Rattle.std.specs.Prelude.{Bool, true, not, ◌&&◌, [], ◌∷◌, eqb}
use Rattle.wire.specs.Choice.{first}
use Rattle.pair.specs.Opens.{Choices, both_of}

-- a client that is cipher only meets a server that is clear only; a server that is cipher only meets a client that is
-- clear only; or both have the cipher, and their KeyIDs differ
unfoldable pub nine_of : Choices → Choices → Bool
nine_of x y =
    first (
    (x.cipher && (x.only && not y.cipher), true) ∷
    (y.cipher && (y.only && not x.cipher), true) ∷
    []
    ) (both_of x y && not (eqb x.keyid y.keyid))
