-- A link that accepted a Nonce has a version at least its lowest, after every list of calls. Assumes nothing.
use borrow.Author.Tests.{ltb-true, leb-true, eqb-true, eq-eqb}
use native.Mathlib.Omega.{arith}
use mathlib.Core.Path.{◌≡◌, refl, subst}
use mathlib.Core.Bool.{Bool, true, false}
use mathlib.Core.List.{List, [], ◌∷◌}
use Prim.Native.Nat.{ℕ, ◌+◌, ◌*◌, ◌%◌, ◌≤◌}
use lib.Dec.{ltb, leb, eqb}
use Rattle.wire.specs.Bytes.{within}
use Rattle.wire.specs.Choice.{pick}
use Rattle.link_state.specs.declared.Link.{Link}
use Rattle.link_state.specs.declared.Settings.{Settings}
use Rattle.link_state.specs.declared.Moment.{Moment}
use Rattle.link_state.specs.SetUp.{fresh_of, key_id_of, set_up_of}
use Rattle.link_state.proofs.SetUpLaws.{set-up-took}
use Rattle.link_state.specs.Turn.{may_send, stage_after}
use Rattle.packet.specs.Allowed.{allowed_of}
use Rattle.packet.specs.declared.Arrival.{Arrival}
use Rattle.packet.specs.declared.Arrival.TheVariants.{Incomplete, Packet}
use Rattle.link.specs.Look.{look_of}
use Rattle.link_next.specs.Next.{closed_of, version_after, after_of}
use Rattle.link.specs.Receive.{check_body, receive_by, receive_of}
use Rattle.link.specs.declared.Received.{Received}
use Rattle.packet_out.specs.Size.{size_of}
use Rattle.send_rules.specs.Sent.{sent_of}
use Rattle.send_rules.specs.declared.Step.{Step}
use Rattle.flush.specs.Flush.{words_due, flushed_of}
use Rattle.link_calls.specs.Calls.{Call, receives, sends, flushes, after_call, after_calls, type_of}
use Rattle.link_calls.proofs.Ways.{by-body, receive-ways, send-ways, flush-ways}
use Rattle.link_versions.specs.Heard.{heard_from}
use Rattle.link_versions.proofs.Accepted.{not-older, past-nonces}
use Rattle.std.specs.Prelude.{Err, Ok, Option, Result}
use Rattle.refusal.specs.declared.Refusal.{Refusal}

-- ---- one receive call

-- a body that the link does not refuse, of a Nonce
module _ (l : Link) (kind : ℕ) (b : List ℕ) (m : Moment) (e : check_body l kind b m ≡ Ok tt) where
  nonce-after : eqb kind 0x7acb87aa ≡ true → l.set.lowest ≤ (after_of l kind b m).version
  unfolding check_body after_of version_after
  nonce-after q = rw q (not-older l b m (rw q at e))

  other_after : eqb kind 0x7acb87aa ≡ false → (after_of l kind b m).version ≡ l.version
  unfolding after_of version_after
  other_after q = rw q

-- an accepted Nonce's version
accepted : (l : Link) (s : List ℕ) (m : Moment) (consumed at len : ℕ)
    → (receive_of l s m).answer ≡ Ok (Packet 0x7acb87aa consumed at len)
    → l.set.lowest ≤ (receive_of l s m).link.version
unfolding receive_of
accepted l s m consumed at len = go (look_of l s)
  where
    Right : Received → Type 0
    Right r = r.answer ≡ Ok (Packet 0x7acb87aa consumed at len) → l.set.lowest ≤ r.link.version

    go : (a : Result Arrival Refusal) → Right (receive_by l s m a)
    go (Ok (Incomplete k)) e = let z : ◌≡◌ {A = ℕ} 0 1 = cc in absurd (omega arith)
    go (Err k) e = let z : ◌≡◌ {A = ℕ} 0 1 = cc in absurd (omega arith)
    go (Ok (Packet kind c i n)) e =
        by-body l s m Right kind c i n (λ k e. let z : ◌≡◌ {A = ℕ} 0 1 = cc in absurd (omega arith))
        (λ ok e. nonce-after l kind (within s i n) m ok (eq-eqb kind 0x7acb87aa cc)) e

-- settings stay
receive-set : (l : Link) (s : List ℕ) (m : Moment) → (receive_of l s m).link.set ≡ l.set
unfolding closed_of after_of
receive-set l s m = receive-ways (λ (x : Link). x.set ≡ l.set) l s m refl refl (λ turn kind b may ok. refl)

-- ---- every list of calls

-- the settings are these, and from stage t on the version is at least their lowest
pub record Holds (set : Settings) (t : ℕ) (l : Link) : Type 0 where
  pub settings : l.set ≡ set
  pub version : t ≤ l.stage → set.lowest ≤ l.version

-- a stage t that is there no later than the Handshakes, and that no send of this side brings about
module _ (set : Settings) (t : ℕ) (early : t ≤ 2)
    (ours : (n : ℕ) → may_send set.server n ≡ true → t ≤ stage_after n → t ≤ n) where
  module _ (l : Link) (h : Holds set t l) where
    holds-closed : Holds set t (closed_of l)
    unfolding closed_of
    holds-closed = record { settings = h.settings; version = h.version }

    after-set : (kind : ℕ) (b : List ℕ) (m : Moment) → (after_of l kind b m).set ≡ set
    unfolding after_of
    after-set kind b m = h.settings

    holds_after : (kind : ℕ) (b : List ℕ) (m : Moment) → allowed_of l kind ≡ true
        → check_body l kind b m ≡ Ok tt → Holds set t (after_of l kind b m)
    holds_after kind b m may ok =
        record { settings = after-set kind b m; version = λ _. go (eqb kind 0x7acb87aa) refl }
      where
        go : (x : Bool) → eqb kind 0x7acb87aa ≡ x → set.lowest ≤ (after_of l kind b m).version
        go true q =
            subst (λ (x : Settings). x.lowest ≤ (after_of l kind b m).version) h.settings
            (nonce-after l kind b m ok q)
        go false q =
            let two = past-nonces l kind may q in
            rw (other_after l kind b m ok q) (h.version (omega arith))

    holds-sent : (kind id n : ℕ) → may_send l.set.server l.stage ≡ true → Holds set t (sent_of l kind id n)
    unfolding sent_of
    holds-sent kind id n turn =
        record {
          settings = h.settings;
          version = λ w. h.version (ours l.stage (rw h.settings at turn) w);
        }

    holds-flushed : (n : ℕ) → Holds set t (flushed_of l n)
    unfolding flushed_of
    holds-flushed n = record { settings = h.settings; version = h.version }

    holds-call : (c : Call) → Holds set t (after_call l c)
    holds-call (receives s m) =
        receive-ways (Holds set t) l s m h holds-closed (λ turn kind b may ok. holds_after kind b m may ok)
    holds-call (sends w p drawn m room) =
        send-ways (λ (x : Step). Holds set t x.link) l w p drawn m room (λ k. h)
        (λ id len turn may. holds-sent (type_of w) id (size_of l len) turn)
    holds-call (flushes room) =
        flush-ways (λ (x : Step). Holds set t x.link) l room (λ k. h) (λ fits. holds-flushed (words_due l * 4))

  pub holds-calls : (l : Link) (cs : List Call) → Holds set t l → Holds set t (after_calls l cs)
  holds-calls l [] h = h
  holds-calls l (c ∷ cs) h = holds-calls (after_call l c) cs (holds-call l h c)

-- NO OLDER: once a receive call accepted a Nonce, and whatever calls follow, the link's version is at least its lowest:
-- of every link, also of one that no call has made
pub no-older : (l : Link) (s : List ℕ) (m : Moment) (consumed at len : ℕ)
    → (receive_of l s m).answer ≡ Ok (Packet 0x7acb87aa consumed at len)
    → (cs : List Call) → l.set.lowest ≤ (after_calls (receive_of l s m).link cs).version
no-older l s m consumed at len e cs =
    (holds-calls l.set 0 (omega arith) (λ n _ _. omega arith) (receive_of l s m).link cs
    (record { settings = receive-set l s m; version = λ _. accepted l s m consumed at len e })
    ).version (omega arith)

-- ---- from set-up on

-- no send of a side brings it to the stage at which it has the other's Nonce
pub not-by-sending : (server : Bool) (n : ℕ) → may_send server n ≡ true → heard_from server ≤ stage_after n
    → heard_from server ≤ n
unfolding may_send stage_after
not-by-sending server n = go server (leb 4 n) refl (ltb n 4) refl
  where
    go : (v x : Bool) → leb 4 n ≡ x → (y : Bool) → ltb n 4 ≡ y → pick x true (eqb (n % 2) (pick v 1 0)) ≡ true
        → heard_from v ≤ pick y (n + 1) n → heard_from v ≤ n
    go v x p false q turn h = h
    go v true p true q turn h = absurd (omega (arith, leb-true 4 n p, ltb-true n 4 q))
    go true false p true q turn h = let odd = eqb-true (n % 2) 1 turn in omega arith
    go false false p true q turn h = let even = eqb-true (n % 2) 0 turn in omega arith

holds-fresh : (set : Settings) (keyid : ℕ) → Holds set (heard_from set.server) (fresh_of set keyid)
unfolding fresh_of
holds-fresh set keyid = record { settings = refl; version = λ w. absurd (none set.server w) }
  where
    none : (v : Bool) → heard_from v ≤ 0 → ⊥
    none true w = omega arith
    none false w = omega arith

soon : (v : Bool) → heard_from v ≤ 2
soon true = omega arith
soon false = omega arith

pub holds-from-set-up : (set : Settings) (key : Option (List ℕ)) (l : Link) → set_up_of set key ≡ Ok l
    → (cs : List Call)
    → Holds set (heard_from set.server) (after_calls l cs)
holds-from-set-up set key l e cs =
    holds-calls set (heard_from set.server) (soon set.server) (not-by-sending set.server) l cs
    (rw (set-up-took set key l e).0 (holds-fresh set (key_id_of key)))

-- NONE OPENS WITH AN OLD VERSION: a link that was set up, with a key or without, after any calls on any bytes, has a
-- version at least its lowest as soon as it has the other side's Nonce, so also when it is open
pub none-opens-older : (set : Settings) (key : Option (List ℕ)) (l : Link) → set_up_of set key ≡ Ok l
    → (cs : List Call)
    → heard_from set.server ≤ (after_calls l cs).stage → set.lowest ≤ (after_calls l cs).version
none-opens-older set key l e cs = (holds-from-set-up set key l e cs).version
