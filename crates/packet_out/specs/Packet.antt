-- The bytes of a packet (document 01, "Packets": "Bytes 0-3 length, 4-7 number, 8-11 type, then the body, then a 4-byte
-- checksum over all before it"). Assumes nothing.
use Rattle.std.specs.Prelude.{ℕ, ◌+◌, List, [], ◌∷◌, ◌++◌, length, replicate, ltb}
use Rattle.std.proofs.lemmas.List.Edits.{sets}
use Rattle.wire.specs.Bytes.{part, bytes}
use Rattle.wire.specs.Choice.{first}
use Rattle.link_state.specs.declared.Link.{Link}
use Rattle.packet.specs.Sum.{sum_of}
use Rattle.packet_padding.specs.Padding.{tail_of}
use Rattle.packet_out.specs.Size.{size_of}

-- length, number, type
unfoldable pub head_of : ℕ → ℕ → ℕ → List ℕ
head_of size number kind = bytes 4 size ++ (bytes 4 number ++ bytes 4 kind)

-- all before the checksum
unfoldable pub front_of : Link → ℕ → List ℕ → List ℕ
front_of l kind body = head_of (length body + 16) l.sends kind ++ body

-- a packet of a link, under the checksum in use and the next number; "zeros follow the checksum" where they do
-- (document 02, A7)
unfoldable pub packet_of : Link → ℕ → List ℕ → List ℕ
packet_of l kind body =
    front_of l kind body ++ (bytes 4 (sum_of l (front_of l kind body)) ++ replicate (tail_of l (length body + 16)) 0)

-- a buffer that holds a body of so many bytes from byte 12 on, after it was sealed: "Bytes past the packet stay". One
-- that has no room for the packet stays whole
unfoldable pub sealed_of : Link → ℕ → ℕ → List ℕ → List ℕ
sealed_of l kind len b =
    first (
    (ltb 16777199 len, b) ∷
    (ltb (length b) (size_of l len), b) ∷
    []
    ) (sets b 0 (packet_of l kind (part b 12 len)))
