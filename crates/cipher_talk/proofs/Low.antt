-- Packets and words are bytes, and whole words. Assumes nothing.
use native.Mathlib.Omega.{arith}
use mathlib.Core.Path.{◌≡◌, ap, ◌∙◌}
use mathlib.Core.List.{List, [], ◌∷◌, ◌++◌, append_assoc}
use Prim.Native.Nat.{ℕ, zero, suc, ◌+◌}
use lib.ListN.{length, replicate}
use lib.Dec.{lit<}
use Rattle.wire.specs.Bytes.{bytes}
use Rattle.wire.proofs.ByteLaws.{Small}
use Rattle.cipher_laws.specs.Sizes.{Bytes}
use Rattle.link_state.specs.declared.Link.{Link}
use Rattle.packet.specs.Sum.{sum_of}
use Rattle.packet_padding.specs.Padding.{tail_of, fours_of}
use Rattle.packet_out.specs.Packet.{front_of, packet_of}
use Rattle.pair.proofs.SumLaws.{small-append, small_bytes, small-front}
use Rattle.pair.proofs.NoncePasses.{small-zeros}

pub low-bytes : (s : List ℕ) → Small s → Bytes s
low-bytes [] h = tt
low-bytes (b ∷ s) h = (h 0, low-bytes s (λ i. h (suc i)))

pub small-packet : (l : Link) (kind : ℕ) (body : List ℕ) → Small body → Small (packet_of l kind body)
unfolding packet_of
small-packet l kind body h =
    let f = front_of l kind body in
    small-append f (bytes 4 (sum_of l f) ++ replicate (tail_of l (length body + 16)) 0) (small-front l kind body h)
    (small-append (bytes 4 (sum_of l f)) (replicate (tail_of l (length body + 16)) 0) (small_bytes 4 (sum_of l f))
    (small-zeros (tail_of l (length body + 16))))

pub small-fours : (w : ℕ) → Small (fours_of w)
unfolding fours_of
small-fours zero i = lit< tt
small-fours (suc w) i = small-append (bytes 4 4) (fours_of w) (small_bytes 4 4) (λ j. small-fours w j) i

pub fours-add : (v w : ℕ) → fours_of v ++ fours_of w ≡ fours_of (v + w)
unfolding fours_of
fours-add zero w = let e : w ≡ 0 + w = omega arith in ap fours_of e
fours-add (suc v) w =
    let e : suc (v + w) ≡ suc v + w = omega arith in
    append_assoc (bytes 4 4) (fours_of v) (fours_of w)
    ∙ (ap (λ (t : List ℕ). bytes 4 4 ++ t) (fours-add v w) ∙ ap fours_of e)
