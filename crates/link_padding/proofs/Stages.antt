-- The stage at which our Handshake has gone out, and the packets that bring a link there. Assumes nothing.
use native.Mathlib.Omega.{arith}
use borrow.Author.Tests.{ltb-true, ltb-false, leb-true, leb-false, eqb-true, lt-ltb, le-ltb, le-leb, lt-leb, ne_eqb}
use mathlib.Core.Path.{◌≡◌, refl, sym, ◌∙◌}
use mathlib.Core.Bool.{Bool, true, false, not, ◌&&◌}
use Prim.Native.Nat.{ℕ, ◌+◌, ◌%◌, ◌≤◌, ◌<◌}
use lib.Dec.{ltb, leb, eqb}
use Rattle.wire.specs.Choice.{pick}
use Rattle.link_state.specs.declared.Link.{Link}
use Rattle.link_state.specs.Turn.{may_send, stage_after}
use Rattle.packet.specs.Allowed.{allowed_of}
use Rattle.flush.specs.Flush.{begun_of}

same-leb : (a b c d : ℕ) → (a ≤ b → c ≤ d) → (b < a → d < c) → leb a b ≡ leb c d
same-leb a b c d f g = go (leb a b) refl
  where
    go : (x : Bool) → leb a b ≡ x → x ≡ leb c d
    go true e = sym (le-leb c d (f (leb-true a b e)))
    go false e = sym (lt-leb c d (g (leb-false a b e)))

-- at which stage our Handshake has gone out
abbrev pub from : Bool → ℕ
from server = pick server 4 3

-- whose turn it is, of an opening that is not over
turn_is : (server : Bool) (s : ℕ) → s < 4 → may_send server s ≡ true → s % 2 ≡ pick server 1 0
unfolding may_send
turn_is server s h e = eqb-true (s % 2) (pick server 1 0) (sym (rw (lt-leb 4 s h) refl) ∙ e)

-- the other side's packet is not our Handshake
pub kept : (server : Bool) (s : ℕ) → may_send (not server) s ≡ true
    → leb (from server) (stage_after s) ≡ leb (from server) s
unfolding stage_after
kept server s e = go (ltb s 4) refl server e
  where
    go : (b : Bool) → ltb s 4 ≡ b → (server : Bool) → may_send (not server) s ≡ true
        → leb (from server) (pick b (s + 1) s) ≡ leb (from server) s
    go true q true t =
        let h = ltb-true s 4 q in
        let p = turn_is false s h t in
        same-leb 4 (s + 1) 4 s (λ i. omega arith) (λ i. omega arith)
    go true q false t =
        let h = ltb-true s 4 q in
        let p = turn_is true s h t in
        same-leb 3 (s + 1) 3 s (λ i. omega arith) (λ i. omega arith)
    go false q server t = refl

-- a packet of ours, of a type that is allowed at our turn: it is our Handshake, or that went out before, exactly from
-- stage 2 on; and that shows in the stage after it
module _ (l : Link) (kind : ℕ) (turn : may_send l.set.server l.stage ≡ true) (may : allowed_of l kind
    ≡ true) where
  abbrev stage : ℕ
  stage = l.stage

  abbrev hand : Bool
  hand = eqb kind 0x7682eef5

  first_kind : stage < 2 → hand ≡ false
  unfolding allowed_of
  first_kind h =
      let e : kind ≡ 0x7acb87aa = eqb-true kind 0x7acb87aa (sym (rw (lt-ltb stage 2 h) refl) ∙ may) in
      ne_eqb kind 0x7682eef5 (λ q. omega arith)

  second-kind : 2 ≤ stage → stage < 4 → hand ≡ true
  unfolding allowed_of
  second-kind g h = sym (rw (le-ltb stage 2 g, lt-ltb stage 4 h) refl) ∙ may

  later-kind : 4 ≤ stage → hand ≡ false
  unfolding allowed_of
  later-kind g = go (eqb kind 0x7acb87aa) hand refl (sym (rw (le-ltb stage 2 (omega arith), le-ltb stage 4 g) refl)
      ∙ may)
    where
      go : (a b : Bool) → hand ≡ b → (not a && not b) ≡ true → b ≡ false
      go a false q e = refl
      go true true q e = let z : ◌≡◌ {A = ℕ} 0 1 = cc in absurd (omega arith)
      go false true q e = let z : ◌≡◌ {A = ℕ} 0 1 = cc in absurd (omega arith)

  low : (server : Bool) → stage < 2 → leb (from server) stage ≡ false
  low true h = lt-leb 4 stage (omega arith)
  low false h = lt-leb 3 stage (omega arith)

  high : (server : Bool) → 4 ≤ stage → leb (from server) stage ≡ true
  high true h = le-leb 4 stage h
  high false h = le-leb 3 stage (omega arith)

  pub counts : pick hand true (begun_of l) ≡ leb 2 stage
  unfolding begun_of
  counts = go (ltb stage 2) (ltb stage 4) refl refl
    where
      go : (a b : Bool) → ltb stage 2 ≡ a → ltb stage 4 ≡ b
          → pick hand true (leb (from l.set.server) stage) ≡ leb 2 stage
      go true b p q = let h = ltb-true stage 2 p in rw (first_kind h, low l.set.server h) (sym (lt-leb 2 stage h))
      go false true p q =
          let g = ltb-false stage 2 p in rw (second-kind g (ltb-true stage 4 q)) (sym (le-leb 2 stage g))
      go false false p q =
          let h = ltb-false stage 4 q in rw (later-kind h, high l.set.server h) (sym (le-leb 2 stage
          (omega arith)))

  next_low : (server : Bool) → stage < 2 → leb (from server) (stage + 1) ≡ false
  next_low true h = lt-leb 4 (stage + 1) (omega arith)
  next_low false h = lt-leb 3 (stage + 1) (omega arith)

  next-mid : (server : Bool) → may_send server stage ≡ true → 2 ≤ stage → stage < 4
      → leb (from server) (stage + 1) ≡ true
  next-mid true t g h = let p = turn_is true stage h t in le-leb 4 (stage + 1) (omega arith)
  next-mid false t g h = le-leb 3 (stage + 1) (omega arith)

  pub shows : leb 2 stage ≡ leb (from l.set.server) (stage_after stage)
  unfolding stage_after
  shows = go (ltb stage 2) (ltb stage 4) refl refl
    where
      go : (a b : Bool) → ltb stage 2 ≡ a → ltb stage 4 ≡ b
          → leb 2 stage ≡ leb (from l.set.server) (pick b (stage + 1) stage)
      go true true p q = let h = ltb-true stage 2 p in lt-leb 2 stage h ∙ sym (next_low l.set.server h)
      go true false p q = absurd (omega (arith, ltb-true stage 2 p, ltb-false stage 4 q))
      go false true p q = let g = ltb-false stage 2 p in le-leb 2 stage g
          ∙ sym (next-mid l.set.server turn g (ltb-true stage 4 q))
      go false false p q = let h = ltb-false stage 4 q in le-leb 2 stage (omega arith) ∙ sym (high l.set.server h)
