-- Two open links step alike: after a packet each still waits for the other's next one. Assumes nothing.
use borrow.Author.Tests.{le-ltb}
use native.Mathlib.Omega.{arith}
use mathlib.Core.Path.{◌≡◌, refl, ap, sym, ◌∙◌}
use mathlib.Core.Bool.{Bool, true, false, not, ◌&&◌}
use mathlib.Core.List.{List}
use Prim.Native.Nat.{ℕ, ◌+◌, ◌%◌, ◌≤◌, ◌^◌}
use lib.Dec.{eqb}
use Rattle.link_state.specs.declared.Link.{Link}
use Rattle.link_state.specs.declared.Moment.{Moment}
use Rattle.link_state.specs.Turn.{stage_after}
use Rattle.packet.specs.Sum.{castagnoli_of}
use Rattle.packet.specs.Allowed.{allowed_of}
use Rattle.packet_padding.specs.Padding.{padded_of, pads_of}
use Rattle.link.specs.Look.{check_turn}
use Rattle.link_next.specs.Next.{agreed_after, ciphered_after, after_of}
use Rattle.send_rules.specs.Sent.{sent_of}
use Rattle.pair.specs.Awaits.{Awaits}

-- after the opening the stage stays
pub stays : (s : ℕ) → 4 ≤ s → stage_after s ≡ s
unfolding stage_after
stays s h = rw (le-ltb s 4 h)

-- a type that is allowed after the opening is no Handshake
no-handshake : (k : Link) (kind : ℕ) → 4 ≤ k.stage → allowed_of k kind ≡ true → eqb kind 0x7682eef5 ≡ false
unfolding allowed_of
no-handshake k kind over may = go (eqb kind 0x7acb87aa) (eqb kind 0x7682eef5) (simp (le-ltb k.stage 2 (omega arith), le-ltb k.stage 4 over) at may)
  where
    go : (a b : Bool) → (not a && not b) ≡ true → b ≡ false
    go a false e = refl
    go true true e = let z : ◌≡◌ {A = ℕ} 0 1 = cc in absurd (omega arith)
    go false true e = let z : ◌≡◌ {A = ℕ} 0 1 = cc in absurd (omega arith)

-- nor a Nonce
pub no-nonce : (k : Link) (kind : ℕ) → 4 ≤ k.stage → allowed_of k kind ≡ true → eqb kind 0x7acb87aa ≡ false
unfolding allowed_of
no-nonce k kind over may =
    go (eqb kind 0x7acb87aa) (eqb kind 0x7682eef5)
    (simp (le-ltb k.stage 2 (omega arith), le-ltb k.stage 4 over) at may)
  where
    go : (a b : Bool) → (not a && not b) ≡ true → a ≡ false
    go false b e = refl
    go true b e = let z : ◌≡◌ {A = ℕ} 0 1 = cc in absurd (omega arith)

-- l sent a packet of a type that is allowed after the opening, and k received it
module _ (k l : Link) (over-k : 4 ≤ k.stage) (over-l : 4 ≤ l.stage) (kind id n : ℕ) (body : List ℕ) (m : Moment) (may : allowed_of k kind ≡ true) where
  pub same-sum-k : castagnoli_of (after_of k kind body m) ≡ castagnoli_of k
  unfolding castagnoli_of after_of agreed_after
  same-sum-k = rw (stays k.stage over-k, no-handshake k kind over-k may)

  pub same-sum-l : castagnoli_of (sent_of l kind id n) ≡ castagnoli_of l
  unfolding castagnoli_of sent_of
  same-sum-l = rw (stays l.stage over-l)

  same-turn-k : check_turn (after_of k kind body m) ≡ check_turn k
  unfolding check_turn after_of
  same-turn-k = rw (stays k.stage over-k)

  pub same-turn-l : check_turn (sent_of l kind id n) ≡ check_turn l
  unfolding check_turn sent_of
  same-turn-l = rw (stays l.stage over-l)

  same-profile-k : pads_of (after_of k kind body m) ≡ pads_of k
  unfolding pads_of padded_of after_of ciphered_after
  same-profile-k = rw (stays k.stage over-k, no-nonce k kind over-k may)

  same-profile-l : pads_of (sent_of l kind id n) ≡ pads_of l
  unfolding pads_of padded_of sent_of
  same-profile-l = rw (stays l.stage over-l)

  -- k waits for l's next packet again
  pub awaits-again : Awaits k l → Awaits (after_of k kind body m) (sent_of l kind id n)
  unfolding after_of sent_of
  awaits-again a =
      record {
        number = ap (λ (x : ℕ). (x + 1) % 2 ^ 32) a.number;
        checksum = same-sum-k ∙ (a.checksum ∙ sym same-sum-l);
        stage = ap stage_after a.stage;
        profile = same-profile-k ∙ (a.profile ∙ sym same-profile-l);
        turn = same-turn-k ∙ a.turn;
      }

  -- and the other direction is as it was
  pub awaits-still : Awaits l k → Awaits (sent_of l kind id n) (after_of k kind body m)
  unfolding after_of sent_of
  awaits-still a =
      record {
        number = a.number;
        checksum = same-sum-l ∙ (a.checksum ∙ sym same-sum-k);
        stage = ap stage_after a.stage;
        profile = same-profile-l ∙ (a.profile ∙ sym same-profile-k);
        turn = same-turn-l ∙ a.turn;
      }
