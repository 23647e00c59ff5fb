-- The init message's front (document 02, A8: "for versions 0, 1 and 2, as the protocol document lists them"; in the
-- order of that document's table). Assumes nothing.
use Rattle.std.specs.Prelude.{ℕ, Bool, List, [], ◌∷◌, ◌++◌, eqb}
use Rattle.wire.specs.Bytes.{bytes}
use Rattle.wire.specs.Choice.{pick}
use Rattle.key_front.specs.declared.End.{End}
use Rattle.key_front.specs.declared.Ends.{Ends}

-- the direction: "SERVER" for what the server sends, "CLIENT" for what the client sends
unfoldable pub direction_of : Bool → List ℕ
direction_of server = pick server (83 ∷ 69 ∷ 82 ∷ 86 ∷ 69 ∷ 82 ∷ []) (67 ∷ 76 ∷ 73 ∷ 69 ∷ 78 ∷ 84 ∷ [])

-- version 0 has the server's IP, versions 1 and 2 its time in that place
unfoldable pub ip_or_time : ℕ → End → ℕ
ip_or_time version s = pick (eqb version 0) s.ip s.time

-- the client's IP and both ports stand in version 0; versions 1 and 2 have zeros there
unfoldable pub in_version0 : ℕ → ℕ → ℕ
in_version0 version x = pick (eqb version 0) x 0

-- all that stands before the key: Server Nonce, Client Nonce, Client Time, Server IP, Client Port, direction, Client
-- IP, Server Port
unfoldable pub front_of : ℕ → Bool → Ends → List ℕ
front_of version server s =
    s.server.random
    ++ (s.client.random
    ++ (bytes 4 s.client.time
    ++ (bytes 4 (ip_or_time version s.server)
    ++ (bytes 2 (in_version0 version s.client.port)
    ++ (direction_of server
    ++ (bytes 4 (in_version0 version s.client.ip)
    ++ bytes 2 (in_version0 version s.server.port)))))))

-- Server Nonce and Client Nonce, as they stand behind the key once more
unfoldable pub randoms_of : Ends → List ℕ
randoms_of s = s.server.random ++ s.client.random
