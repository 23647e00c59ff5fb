-- The version that a link writes into a Nonce is not below its lowest, and where it stands. Assumes nothing.
use borrow.Author.Tests.{leb-true, eqb-true}
use native.Mathlib.Omega.{arith}
use mathlib.Core.Path.{◌≡◌, refl, ap, ◌∙◌}
use mathlib.Core.Bool.{Bool, true, false}
use mathlib.Core.List.{List, ◌++◌, append_assoc}
use Prim.Native.Nat.{ℕ, ◌+◌, ◌%◌, ◌≤◌, ◌<◌}
use lib.ListN.{length, replicate, length-append}
use lib.Dec.{ltb, leb, eqb}
use Rattle.wire.specs.Bytes.{le, part, bytes}
use Rattle.wire.specs.Choice.{pick}
use Rattle.wire.proofs.ByteLaws.{length-bytes, le_bytes, part-mid}
use Rattle.link_state.specs.declared.Link.{Link}
use Rattle.link_state.specs.declared.Settings.{Settings}
use Rattle.link_state.specs.declared.Moment.{Moment}
use Rattle.link_state.specs.Turn.{may_send}
use Rattle.packet.specs.Sum.{sum_of}
use Rattle.packet_padding.specs.Padding.{tail_of}
use Rattle.packet_out.specs.Packet.{head_of, front_of, packet_of}
use Rattle.packet_out.proofs.PacketLaws.{length-head}
use Rattle.send_rules.specs.Control.{control_answer}
use Rattle.nonce_out.proofs.SentLaws.{small-version, nonce-answered, nonce-left}
use Rattle.nonce_out.specs.declared.Drawn.{Drawn}
use Rattle.nonce_out.specs.Nonce.{version_of, nonce_head, nonce_body, our_nonce, nonce_step}
use Rattle.send.specs.Send.{send_of, send_buffer}
use Rattle.send.specs.declared.ToSend.TheVariants.{Nonce}
use Rattle.link_versions.specs.Heard.{heard_from}
use Rattle.link_versions.proofs.Accepted.{at_turn}
use Rattle.link_versions.proofs.NoOlder.{Holds}
use Rattle.std.specs.Prelude.{Ok}

-- ---- the version that a link writes

-- a server writes no packet before it has the client's Nonce
not_first : (n : ℕ) → may_send true n ≡ true → 1 ≤ n
unfolding may_send
not_first n = go (leb 4 n) refl
  where
    go : (x : Bool) → leb 4 n ≡ x → pick x true (eqb (n % 2) 1) ≡ true → 1 ≤ n
    go true q e = let four = leb-true 4 n q in omega arith
    go false q e = let odd = eqb-true (n % 2) 1 e in omega arith

module _ (set : Settings) (k : Link) (h : Holds set (heard_from set.server) k) (low : set.lowest ≤ 2)
    (turn : may_send k.set.server k.stage ≡ true) where
  pub version-written : set.lowest ≤ version_of k
  unfolding version_of
  version-written = rw h.settings (go set.server h.version (rw h.settings at turn) (ltb k.version 2))
    where
      go : (v : Bool) → (heard_from v ≤ k.stage → set.lowest ≤ k.version) → may_send v k.stage ≡ true → (x : Bool)
          → set.lowest ≤ pick v (pick x k.version 2) 2
      go false f t x = low
      go true f t false = low
      go true f t true = f (not_first k.stage t)

-- ---- where it stands: byte 5 of the body, which is byte 17 of the packet

module _ (k : Link) (keyid encryption version time : ℕ) (random point rest : List ℕ) where
  abbrev kind : ℕ
  kind = 0x7acb87aa

  abbrev body : List ℕ
  body = nonce_body keyid encryption version time random point

  byte-17 : version < 256 → le (part (packet_of k kind body ++ rest) 17 1) ≡ version
  unfolding packet_of front_of nonce_body nonce_head
  byte-17 small =
      let H : List ℕ = head_of (length body + 16) k.sends kind ++ (bytes 4 keyid ++ bytes 1 encryption) in
      let T : List ℕ = (bytes 2 0 ++ bytes 4 time) ++
      ((random ++ point) ++ ((bytes 4 (sum_of k (front_of k kind body)) ++ replicate (tail_of k
      (length body + 16)) 0) ++ rest)) in
      let e : length H ≡ 17 = simp (length-append, length-head, length-bytes) in
      let q : packet_of k kind body ++ rest ≡ H ++ (bytes 1 version ++ T) = simp append_assoc in
      ap (λ (t : List ℕ). le (part t 17 1)) q ∙
      (ap le (part-mid H (bytes 1 version) T 17 1 e (length-bytes 1 version)) ∙ le_bytes 1 version small)

-- ---- the send call

module _ (k : Link) (p b : List ℕ) (drawn : Drawn) (m : Moment) (n : ℕ)
    (e : (send_of k Nonce p drawn m (length b)).answer ≡ Ok n) where
  step : (nonce_step k drawn m (length b)).answer ≡ Ok n
  unfolding send_of
  step = e

  pub due : may_send k.set.server k.stage ≡ true
  unfolding control_answer
  due = at_turn k 0x7acb87aa false _ n (nonce-answered k drawn b m n step)

  pub reads-version : le (part (send_buffer k Nonce p drawn m b) 17 1) ≡ version_of k
  unfolding send_buffer our_nonce
  reads-version =
      ap (λ (t : List ℕ). le (part t 17 1)) (nonce-left k drawn b m n step)
      ∙ byte-17 k _ _ (version_of k) m.time drawn.random _ _ (small-version k)
