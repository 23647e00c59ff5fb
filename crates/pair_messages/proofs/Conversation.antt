-- Whatever two open links send each other, the other hears as what was meant; and two fresh links that open come to this.
-- Assumes nothing.
use native.Mathlib.Omega.{arith}
use borrow.Author.Tests.{le-ltb}
use mathlib.Core.Path.{◌≡◌, refl, ap, sym, ◌∙◌}
use mathlib.Core.Bool.{Bool, true, false, not}
use mathlib.Core.List.{List, [], ◌∷◌, ◌++◌}
use Prim.Native.Nat.{ℕ, ◌≤◌}
use lib.Dec.{lit<, lit≤}
use Rattle.wire.specs.Choice.{pick}
use Rattle.link_state.specs.declared.Link.{Link}
use Rattle.link_state.specs.declared.Moment.{Moment}
use Rattle.link_state.specs.Turn.{stage_after}
use Rattle.link_next.specs.Next.{after_of}
use Rattle.link.specs.declared.Received.{Received}
use Rattle.send_rules.specs.Sent.{sent_of}
use Rattle.send_rules.specs.Control.{step_by}
use Rattle.message_out.specs.Outgoing.{kind_of, body_of}
use Rattle.message_out.specs.MessageStep.{message_step}
use Rattle.pair.specs.Awaits.{Awaits}
use Rattle.pair.specs.Opens.{Choices, made_of, Meet, Caller, Able, Opened, opens}
use Rattle.pair.proofs.Opening.{opened, each-awaits}
use Rattle.pair_messages.specs.Hear.{Heard}
use Rattle.pair_messages.specs.Conversation.{Saying, Sound, AllSound, answer_to, sender, receiver, heard_of, meant_of, along, Joined}
use Rattle.pair_messages.proofs.Received.{message-received}
use Rattle.pair_messages.proofs.Delivered.{delivered, goes_on, goes_back}
use Rattle.std.specs.Prelude.{Err, Result, Ok}
use Rattle.refusal.specs.declared.Refusal.{Refusal}

-- after the opening the stage stays
stays : (s : ℕ) → 4 ≤ s → 4 ≤ stage_after s
unfolding stage_after
stays s h = rw (le-ltb s 4 h) h

other : (a b : Bool) → a ≡ not b → b ≡ not a
other true false e = refl
other false true e = refl
other true true e = let z : ◌≡◌ {A = ℕ} 0 1 = cc in absurd (omega arith)
other false false e = let z : ◌≡◌ {A = ℕ} 0 1 = cc in absurd (omega arith)

flipped : (l k : Link) → Joined l k → Joined k l
flipped l k j =
    record {
      there = j.back;
      back = j.there;
      sides = other k.set.server l.set.server j.sides;
      open_l = j.open_k;
      open_k = j.open_l;
      number_l = j.number_k;
      number_k = j.number_l;
    }

-- ---- one message from l to k

module _ (l k : Link) (s : Saying) (j : Joined l k) (ok : Sound s) where
  heard-one : (x : Result ℕ Refusal) → answer_to l s ≡ x → heard_of l k s x ≡ meant_of l k s x
  unfolding heard_of meant_of
  heard-one (Ok n) e =
      ap (λ (h : Heard). h ∷ [])
      (delivered l k s.message s.payload s.buffer n e j.there j.open_k j.number_l ok.bytes s.moment j.sides ok.fields)
  heard-one (Err r) e = refl

  -- the two links after it
  sender-is : (n : ℕ) → answer_to l s ≡ Ok n → sender l s ≡ sent_of l (kind_of s.message) 0 n
  unfolding message_step
  sender-is n e = ap (λ (x : Result ℕ Refusal). (step_by l (kind_of s.message) 0 x).link) e

  sender-stays : (r : Refusal) → answer_to l s ≡ Err r → sender l s ≡ l
  unfolding message_step
  sender-stays r e = ap (λ (x : Result ℕ Refusal). (step_by l (kind_of s.message) 0 x).link) e

  receiver-is : (n : ℕ) → answer_to l s ≡ Ok n → receiver l k s (Ok n) ≡ after_of k (kind_of s.message) (body_of s.message s.payload) s.moment
  receiver-is n e =
      ap (λ (r : Received). r.link) (message-received l k s.message s.payload s.buffer n e j.there j.open_k j.number_l ok.bytes s.moment)

  joined_by : (l2 k2 : Link) (kind n : ℕ) (body : List ℕ) → l2 ≡ sent_of l kind 0 n → k2 ≡ after_of k kind body s.moment → Awaits k2 l2 → Awaits l2 k2 → Joined l2 k2
  unfolding sent_of after_of
  joined_by l2 k2 kind n body el ek there back =
      record {
        there = there;
        back = back;
        sides = ap (λ (x : Link). x.set.server) ek ∙ (j.sides ∙ ap (λ (x : Link). not x.set.server) (sym el));
        open_l = rw el (stays l.stage j.open_l);
        open_k = rw ek (stays k.stage j.open_k);
        number_l = rw el (omega arith);
        number_k = rw ek j.number_k;
      }

  joined-still : (x : Result ℕ Refusal) → answer_to l s ≡ x → Joined (sender l s) (receiver l k s x)
  joined-still (Ok n) e =
      joined_by (sender l s) (receiver l k s (Ok n)) (kind_of s.message) n (body_of s.message s.payload) (sender-is n e) (receiver-is n e)
      (goes_on l k s.message s.payload s.buffer n e j.there j.open_k j.number_l ok.bytes s.moment j.open_l)
      (goes_back l k s.message s.payload s.buffer n e j.there j.open_k j.number_l ok.bytes s.moment j.open_l j.back)
  joined-still (Err r) e = rw (sender-stays r e) j

-- ---- all of them

-- ALL THAT IS SENT IS HEARD: what each link hears is what the other meant, message by message, for every list of messages
pub all-heard : (l k : Link) (ss : List Saying) → Joined l k → AllSound ss → along heard_of l k ss ≡ along meant_of l k ss
unfolding along
all-heard l k [] j ok = refl
all-heard l k (s ∷ ss) j ok = go s.ours (λ l2 k2 j2. all-heard l2 k2 ss j2 ok.1)
  where
    go : (b : Bool) → ((l2 k2 : Link) → Joined l2 k2 → along heard_of l2 k2 ss ≡ along meant_of l2 k2 ss)
        → pick b
        (heard_of l k s (answer_to l s) ++ along heard_of (sender l s) (receiver l k s (answer_to l s)) ss)
        (heard_of k l s (answer_to k s) ++ along heard_of (receiver k l s (answer_to k s)) (sender k s) ss)
        ≡ pick b
        (meant_of l k s (answer_to l s) ++ along meant_of (sender l s) (receiver l k s (answer_to l s)) ss)
        (meant_of k l s (answer_to k s) ++ along meant_of (receiver k l s (answer_to k s)) (sender k s) ss)
    go true rest =
        ap (λ (x : List Heard). x ++ along heard_of (sender l s) (receiver l k s (answer_to l s)) ss) (heard-one l k s j ok.0 (answer_to l s) refl)
        ∙ ap (λ (x : List Heard). meant_of l k s (answer_to l s) ++ x)
        (rest (sender l s) (receiver l k s (answer_to l s)) (joined-still l k s j ok.0 (answer_to l s) refl))
    go false rest =
        ap (λ (x : List Heard). x ++ along heard_of (receiver k l s (answer_to k s)) (sender k s) ss) (heard-one k l s (flipped l k j) ok.0 (answer_to k s) refl)
        ∙ ap (λ (x : List Heard). meant_of k l s (answer_to k s) ++ x)
        (rest (receiver k l s (answer_to k s)) (sender k s) (flipped (sender k s) (receiver k l s (answer_to k s)) (joined-still k l s (flipped l k j) ok.0 (answer_to k s) refl)))

-- ---- from the opening on

module _ (x y : Choices) (meet : Meet x y) (c s : Caller) (b1 b2 b3 b4 : List ℕ) (m3 m4 : Moment) (g : Able c s b1 b2 b3 b4) where
  -- the exchange of a fresh client and a fresh server
  abbrev exchange : Opened
  exchange = opens (made_of false x) (made_of true y) c s b1 b2 b3 b4 m3 m4

  joined : Joined exchange.client exchange.server
  joined =
      record {
        there = (each-awaits x y meet c s b1 b2 b3 b4 m3 m4 g).1;
        back = (each-awaits x y meet c s b1 b2 b3 b4 m3 m4 g).0;
        sides = rw ((opened x y meet c s b1 b2 b3 b4 m3 m4 g).0, (opened x y meet c s b1 b2 b3 b4 m3 m4 g).1);
        open_l = rw (opened x y meet c s b1 b2 b3 b4 m3 m4 g).0 (lit≤ tt);
        open_k = rw (opened x y meet c s b1 b2 b3 b4 m3 m4 g).1 (lit≤ tt);
        number_l = rw (opened x y meet c s b1 b2 b3 b4 m3 m4 g).0 (lit< tt);
        number_k = rw (opened x y meet c s b1 b2 b3 b4 m3 m4 g).1 (lit< tt);
      }

  -- so all that a client and a server send each other after their opening is heard
  pub heard-after-opening : (ss : List Saying) → AllSound ss → along heard_of exchange.client exchange.server ss ≡ along meant_of exchange.client exchange.server ss
  heard-after-opening ss ok = all-heard exchange.client exchange.server ss joined ok
