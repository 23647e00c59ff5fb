-- Our Nonce (document 01, "Opening": "Nonce body: KeyID 4, encryption 1, version 1, flags 2, time 4, random 16, DH
-- point 32 .. We write 60 bytes with KeyID, flags and DH point zero, encryption 0"; where the cipher is offered or
-- taken, as document 02, A9, says). Assumes nothing.
use Rattle.std.specs.Prelude.{ℕ, false, List, ◌++◌, ltb}
use Rattle.wire.specs.Bytes.{bytes}
use Rattle.wire.specs.Choice.{pick}
use Rattle.link_state.specs.declared.Link.{Link}
use Rattle.link_state.specs.declared.Moment.{Moment}
use Rattle.link_cipher.specs.Offered.{encryption_of, sent_key_id, sent_point}
use Rattle.send_rules.specs.Control.{control_step, control_buffer}
use Rattle.send_rules.specs.declared.Step.{Step}
use Rattle.nonce_out.specs.declared.Drawn.{Drawn}

-- "Our version is 2; a server writes the smaller of the client's and 2"
unfoldable pub version_of : Link → ℕ
version_of l = pick l.set.server (pick (ltb l.version 2) l.version 2) 2

-- KeyID, encryption, version, flags, time
unfoldable pub nonce_head : ℕ → ℕ → ℕ → ℕ → List ℕ
nonce_head keyid encryption version time =
    bytes 4 keyid ++ (bytes 1 encryption ++ (bytes 1 version ++ (bytes 2 0 ++ bytes 4 time)))

-- a body of these fields
unfoldable pub nonce_body : ℕ → ℕ → ℕ → ℕ → List ℕ → List ℕ → List ℕ
nonce_body keyid encryption version time random point = nonce_head keyid encryption version time ++ (random ++ point)

-- ours, with "16 random bytes given by the caller" and, where the cipher is offered or taken, KeyID and the card's
-- point
unfoldable pub our_nonce : Link → Drawn → Moment → List ℕ
our_nonce l drawn m =
    nonce_body (sent_key_id l) (encryption_of l) (version_of l) m.time drawn.random (sent_point l drawn.point)

-- a send call
unfoldable pub nonce_step : Link → Drawn → Moment → ℕ → Step
nonce_step l drawn m room = control_step l 0x7acb87aa false (our_nonce l drawn m) 0 room

-- and the buffer after it
unfoldable pub nonce_buffer : Link → Drawn → Moment → List ℕ → List ℕ
nonce_buffer l drawn m b = control_buffer l 0x7acb87aa false (our_nonce l drawn m) b
