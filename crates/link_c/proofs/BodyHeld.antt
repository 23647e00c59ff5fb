-- The part of the bytes that `relay_body` names is the body (document 01, "Packets"): for all bytes and every answer of a
-- receive call, whether or not it was given for these bytes. Assumes nothing.
use mathlib.Core.Path.{◌≡◌, refl}
use Prim.Native.Nat.{ℕ, ◌+◌}
use mathlib.Core.Bool.{Bool, true, false}
use mathlib.Core.List.{List, []}
use lib.ListN.{length}
use lib.Dec.{leb}
use Rattle.wire.specs.Bytes.{part}
use Rattle.wire.specs.Choice.{pick}
use Rattle.packet.specs.Body.{body_of}
use Rattle.packet.specs.declared.Arrival.{Arrival}
use Rattle.packet.specs.declared.Arrival.TheVariants.{Incomplete, Packet}
use Rattle.receive_c.specs.ArrivalFields.{arrival_fields}
use Rattle.link_c.specs.BodyPlace.{nowhere, body_place}
use Rattle.link_c.specs.declared.RelayPart.{RelayPart}
use Rattle.std.specs.Prelude.{Err, Result, Ok}
use Rattle.refusal.specs.declared.Refusal.{Refusal}

-- the bytes at a place
abbrev pub part_at : List ℕ → RelayPart → List ℕ
part_at s p = part s p.at p.len

-- of one of two places, the second empty
one_of : (s : List ℕ) (fits : Bool) (p : RelayPart) → part_at s (pick fits p nowhere) ≡ pick fits (part_at s p) []
one_of s true p = refl
one_of s false p = refl

pub body-held : (s : List ℕ) (a : Result Arrival Refusal) → part_at s (body_place (length s) (arrival_fields a)) ≡ body_of s a
unfolding arrival_fields body_place body_of
body-held s (Ok (Incomplete k)) = refl
body-held s (Ok (Packet kind consumed at len)) = one_of s (leb (at + len) (length s)) (record { at = at; len = len })
body-held s (Err k) = refl
