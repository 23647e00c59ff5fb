-- From when on a link has the other side's Nonce. Assumes nothing.
use Rattle.std.specs.Prelude.{ℕ, Bool}
use Rattle.wire.specs.Choice.{pick}

-- the stage from which on a server, or a client, has the other side's Nonce: "client Nonce, server Nonce" come first
abbrev pub heard_from : Bool → ℕ
heard_from server = pick server 1 2
