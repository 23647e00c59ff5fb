-- Clear bytes of whole blocks that are enciphered at one end, come to the other in any pieces of whole blocks, and are
-- deciphered and taken there. Assumes nothing.
use native.Mathlib.Omega.{arith}
use mathlib.Core.Path.{◌≡◌, refl, ap, ◌∙◌}
use mathlib.Core.List.{List, [], ◌∷◌, ◌++◌, flatten, append-nil}
use Prim.Native.Nat.{ℕ, ◌*◌, ◌≤◌}
use lib.ListN.{length, take, drop, length-take, length-drop, take-append-drop}
use lib.Dec.{lit≤}
use Rattle.aes.specs.Aes.{keys}
use Rattle.aes.specs.Back.{back_keys, back_cipher}
use Rattle.aes.specs.Cbc.{encipher_vector, encipher_buffer, decipher_vector, decipher_buffer, next_vector}
use Rattle.cipher_laws.specs.Sizes.{Bytes, Sized, Whole}
use Rattle.cipher_laws.specs.Pieces.{back, passed, carried, AllWhole}
use Rattle.cipher_laws.proofs.Schedule.{keys_of}
use Rattle.cipher_laws.proofs.Calls.{undone, done-back, sizes-forth}
use Rattle.cipher_laws.proofs.Cutting.{deciphered}
use Rattle.link_state.specs.declared.Link.{Link}
use Rattle.link_state.specs.declared.Moment.{Moment}
use Rattle.cipher_talk.specs.Drain.{Got, Drained, Piece, joined, fed}
use Rattle.cipher_talk.specs.Comes.{Comes}
use Rattle.cipher_talk.specs.Ends.{End, Cut, cut_by, In, comes_in, all_in, AllDone}
use Rattle.cipher_talk.proofs.Pieces.{any-pieces}

-- ---- the pieces

abbrev blocks_of : List Piece → List (List ℕ)
blocks_of [] = []
blocks_of (p ∷ ps) = p.bytes ∷ blocks_of ps

-- they are all that was cut
cut-joined : (cs : List Cut) (last : Moment) (s : List ℕ) → flatten (blocks_of (cut_by cs last s)) ≡ s
unfolding cut_by flatten
cut-joined [] last s = append-nil s
cut-joined (c ∷ cs) last s =
    let n = c.blocks * 16 in
    ap (λ (x : List ℕ). take n s ++ x) (cut-joined cs last (drop n s)) ∙ take-append-drop n s

-- of whole blocks, where that was
cut-whole : (cs : List Cut) (last : Moment) (s : List ℕ) → Whole s → AllWhole (blocks_of (cut_by cs last s))
unfolding cut_by
cut-whole [] last s h = (h, tt)
cut-whole (c ∷ cs) last s h =
    (simp length-take (omega arith), cut-whole cs last (drop (c.blocks * 16) s) (simp length-drop (omega arith)))

-- and at least one
cut-some : (cs : List Cut) (last : Moment) (s : List ℕ) → 1 ≤ length (cut_by cs last s)
unfolding cut_by
cut-some [] last s = lit≤ tt
cut-some (c ∷ cs) last s = omega arith

-- none of them is refused with 37
all_done : (v : List ℕ) (ps : List Piece) → AllWhole (blocks_of ps) → AllDone v ps
all_done v [] h = tt
all_done v (p ∷ ps) h = (done-back v p.bytes h.0, all_done (decipher_vector v p.bytes) ps h.1)

-- ---- deciphered

-- the pieces in clear, under the round keys d from the vector v
opened : List ℕ → List ℕ → List Piece → List Piece
opened d v [] = []
opened d v (p ∷ ps) =
    record { bytes = decipher_buffer (back_cipher d) v p.bytes; clock = p.clock }
    ∷ opened d (decipher_vector v p.bytes) ps

open-joined : (d v : List ℕ) (ps : List Piece) → joined (opened d v ps) ≡ flatten (passed (back d) v (blocks_of ps))
unfolding opened joined passed flatten
open-joined d v [] = refl
open-joined d v (p ∷ ps) =
    ap (λ (x : List ℕ). decipher_buffer (back_cipher d) v p.bytes ++ x)
    (open-joined d (decipher_vector v p.bytes) ps)

open-long : (d v : List ℕ) (ps : List Piece) → length (opened d v ps) ≡ length ps
unfolding opened
open-long d v [] = refl
open-long d v (p ∷ ps) = let i = open-long d (decipher_vector v p.bytes) ps in omega arith

-- an end after pieces of which it took d, with this vector
abbrev pub arrived : End → Drained → List ℕ → In
arrived e d v =
    record {
      end = record {
        link = d.link;
        outward = e.outward;
        inward = record { keys = e.inward.keys; vector = v };
        held = d.left;
      };
      got = d.got;
    }

-- what an end makes of pieces is what its link makes of them in clear
in-clear : (e : End) (ps : List Piece)
    → all_in e ps
    ≡ arrived e (fed e.link e.held (opened e.inward.keys e.inward.vector ps))
    (carried (back e.inward.keys) e.inward.vector (blocks_of ps))
unfolding all_in comes_in fed opened carried
in-clear e [] = refl
in-clear e (p ∷ ps) =
    let i : In = comes_in e p in
    ap (λ (r : In). record { end = r.end; got = i.got ++ r.got }) (in-clear i.end ps)

some-pieces : {k k2 : Link} {s t : List ℕ} {gs : List Got} → Comes k s gs k2 t → (h : List ℕ) (ps : List Piece)
    → 1 ≤ length ps → h ++ joined ps ≡ s → fed k h ps ≡ record { link = k2; got = gs; left = t }
some-pieces c h [] n e = absurd (omega arith)
some-pieces c h (p ∷ ps) n e = any-pieces c h p ps e

-- ---- THE LAW: bytes s that b takes, behind what it holds, it takes so too when they come enciphered in any pieces of
-- whole blocks; and its vector is then the other side's

module _ (b : End) {key v : List ℕ} (s : List ℕ) (hk : Sized 32 key) (hv : Sized 16 v)
    (in_keys : b.inward.keys ≡ back_keys (keys key)) (vectors : b.inward.vector ≡ v) (low : Bytes s)
    (whole : Whole s) (cs : List Cut) (last : Moment) where
  abbrev ciphered : List ℕ
  ciphered = encipher_buffer (keys key) v s

  abbrev pieces : List Piece
  pieces = cut_by cs last ciphered

  blocks : AllWhole (blocks_of pieces)
  blocks = cut-whole cs last ciphered (omega (arith, sizes-forth (keys key) v s (keys_of hk).long))

  pub none-refused : AllDone b.inward.vector pieces
  none-refused = all_done b.inward.vector pieces blocks

  clear-again : joined (opened b.inward.keys b.inward.vector pieces) ≡ s
  clear-again =
      let d = back_keys (keys key) in
      rw (in_keys, vectors)
      (open-joined d v pieces
      ∙ ((deciphered d v (blocks_of pieces) blocks).0
      ∙ (ap (decipher_buffer (back_cipher d) v) (cut-joined cs last ciphered) ∙ (undone s hk hv low whole).0)))

  vector-again : carried (back b.inward.keys) b.inward.vector (blocks_of pieces)
      ≡ (encipher_vector (keys key) v s)
  vector-again =
      let d = back_keys (keys key) in
      rw (in_keys, vectors)
      ((deciphered d v (blocks_of pieces) blocks).1
      ∙ (ap (λ (x : List ℕ). (decipher_vector v x)) (cut-joined cs last ciphered)
      ∙ ap (next_vector v) (undone s hk hv low whole).1))

  pub carries : {k2 : Link} {t : List ℕ} {gs : List Got} → Comes b.link (b.held ++ s) gs k2 t
      → all_in b pieces
      ≡ arrived b (record { link = k2; got = gs; left = t }) (encipher_vector (keys key) v s)
  carries {k2} {t} {gs} c =
      let ps = opened b.inward.keys b.inward.vector pieces in
      let n : 1 ≤ length ps =
      omega (arith, open-long b.inward.keys b.inward.vector pieces, cut-some cs last ciphered) in
      let f : fed b.link b.held ps ≡ record { link = k2; got = gs; left = t } =
      some-pieces c b.held ps n (ap (λ (x : List ℕ). b.held ++ x) clear-again) in
      in-clear b pieces
      ∙ (ap (λ (d : Drained). arrived b d (carried (back b.inward.keys) b.inward.vector (blocks_of pieces))) f
      ∙ ap (arrived b (record { link = k2; got = gs; left = t })) vector-again)
