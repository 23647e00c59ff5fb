-- The cipher is never chosen unasked, and never left out where it alone is asked for, whatever bytes the other side
-- sends and whatever calls are made. Assumes nothing.
use native.Mathlib.Omega.{arith}
use mathlib.Core.Path.{◌≡◌, refl, ap, ◌∙◌}
use mathlib.Core.Bool.{Bool, true, false, not}
use mathlib.Core.List.{List, [], ◌∷◌}
use Prim.Native.Nat.{ℕ, ◌≤◌}
use lib.ListN.{length}
use lib.Dec.{ltb, eqb}
use Rattle.wire.specs.Choice.{pick}
use Rattle.link_state.specs.declared.Link.{Link}
use Rattle.link_state.specs.declared.Settings.{Settings}
use Rattle.link_state.specs.declared.Moment.{Moment}
use Rattle.link_state.specs.SetUp.{fresh_of, key_id_of, set_up_of}
use Rattle.link_state.proofs.SetUpLaws.{set-up-took}
use Rattle.link_cipher.specs.Chosen.{encryption_at, server_refuses, client_refuses}
use Rattle.link_cipher.specs.Chosen.{encryption_refused, chosen_of, cipher_refused}
use Rattle.packet.specs.Allowed.{allowed_of}
use Rattle.opening.specs.Clock.{near_of}
use Rattle.opening.specs.Nonce.{least_of, version_at, beyond_of, check_nonce}
use Rattle.link_next.specs.Next.{closed_of, ciphered_after, after_of}
use Rattle.link.specs.Receive.{check_body}
use Rattle.send_rules.specs.Sent.{sent_of}
use Rattle.send_rules.specs.declared.Step.{Step}
use Rattle.flush.specs.Flush.{flushed_of}
use Rattle.link_calls.specs.Calls.{Call, receives, sends, flushes, after_call, after_calls}
use Rattle.link_calls.proofs.Ways.{receive-ways, send-ways, flush-ways}
use Rattle.link_versions.specs.Heard.{heard_from}
use Rattle.link_versions.proofs.Accepted.{past-nonces}
use Rattle.link_versions.proofs.NoOlder.{not-by-sending}
use Rattle.std.specs.Prelude.{Ok, Option, Result, Err, ⊤}
use Rattle.refusal.specs.declared.Refusal.TheVariants.{OpeningShort, Clocks, VersionTooOld, Encryption, BeyondOffer}
use Rattle.refusal.specs.declared.Refusal.{Refusal}

-- ---- clear only

-- the settings are these, and the cipher is not chosen
record Clear (set : Settings) (l : Link) : Type 0 where
  settings : l.set ≡ set
  clear : l.ciphered ≡ false

never : (set : Settings) (e : ℕ) → set.cipher ≡ false → chosen_of set e ≡ false
unfolding chosen_of
never set e h = rw h

module _ (set : Settings) (plain : set.cipher ≡ false) where
  clear-call : (l : Link) → Clear set l → (c : Call) → Clear set (after_call l c)
  unfolding closed_of after_of ciphered_after sent_of flushed_of
  clear-call l h (receives s m) =
      receive-ways (Clear set) l s m h (record { settings = h.settings; clear = h.clear })
      (λ turn kind b may ok. record { settings = h.settings; clear = by-kind (eqb kind 0x7acb87aa) b })
    where
      by-kind : (t : Bool) (b : List ℕ) → pick t (chosen_of l.set (encryption_at b)) l.ciphered ≡ false
      by-kind true b = never l.set (encryption_at b) (ap (λ (x : Settings). x.cipher) h.settings ∙ plain)
      by-kind false b = h.clear
  clear-call l h (sends w p drawn m room) =
      send-ways (λ (x : Step). Clear set x.link) l w p drawn m room (λ k. h)
      (λ id len turn may. record { settings = h.settings; clear = h.clear })
  clear-call l h (flushes room) =
      flush-ways (λ (x : Step). Clear set x.link) l room (λ k. h)
      (λ fits. record { settings = h.settings; clear = h.clear })

  clear-calls : (l : Link) → Clear set l → (cs : List Call) → Clear set (after_calls l cs)
  clear-calls l h [] = h
  clear-calls l h (c ∷ cs) = clear-calls (after_call l c) (clear-call l h c) cs

clear-fresh : (set : Settings) (keyid : ℕ) → Clear set (fresh_of set keyid)
unfolding fresh_of
clear-fresh set keyid = record { settings = refl; clear = refl }

-- NO CIPHER UNASKED: a link that was set up clear only, with a key or without, is ciphered after no calls
pub unasked : (set : Settings) (key : Option (List ℕ)) (l : Link) → set_up_of set key ≡ Ok l → set.cipher ≡ false
    → (cs : List Call) → (after_calls l cs).ciphered ≡ false
unasked set key l e plain cs =
    (clear-calls set plain l (rw (set-up-took set key l e).0 (clear-fresh set (key_id_of key))) cs).clear

-- ---- cipher only

-- where no row of a Nonce refuses, that of 9 does not
not-nine : (a b c d f : Bool)
    → ◌≡◌ {A = Result ⊤ Refusal} (pick a (Err OpeningShort) (pick b (Err Clocks) (pick c (Err VersionTooOld) (pick d (Err Encryption) (pick f (Err BeyondOffer) (Ok tt)))))) (Ok tt)
    → d ≡ false
not-nine a b c false f h = refl
not-nine true b c true f h = cc
not-nine false true c true f h = cc
not-nine false false true true f h = cc
not-nine false false false true f h = cc

taken : (l : Link) (b : List ℕ) (m : Moment) → check_nonce l b m ≡ Ok tt → cipher_refused l b ≡ false
unfolding check_nonce
taken l b m h =
    not-nine (ltb (length b) (least_of (version_at b))) (not (near_of b m)) (ltb (version_at b) l.set.lowest)
    (cipher_refused l b) (beyond_of l.set (version_at b)) h

by-settings : (l : Link) (b : List ℕ) → cipher_refused l b ≡ false → encryption_refused l.set (encryption_at b) ≡ false
unfolding cipher_refused
by-settings l b h = go (encryption_refused l.set (encryption_at b)) _ h
  where
    go : (a c : Bool) → pick a true c ≡ false → a ≡ false
    go false c e = refl
    go true c e = e

-- what a link that is cipher only takes chooses the cipher
chosen-if : (set : Settings) (e : ℕ) → set.cipher ≡ true → set.only ≡ true → encryption_refused set e ≡ false
    → chosen_of set e ≡ true
unfolding encryption_refused server_refuses client_refuses chosen_of
chosen-if set e hc ho h = rw hc (go set.server (eqb e 0) (eqb e 1) (simp (hc, ho) at h))
  where
    go : (t a b : Bool) → pick t a (not b) ≡ false → pick t (not a) b ≡ true
    go true false b h = refl
    go true true b h = let z : ◌≡◌ {A = ℕ} 0 1 = cc in absurd (omega arith)
    go false a true h = refl
    go false a false h = let z : ◌≡◌ {A = ℕ} 0 1 = cc in absurd (omega arith)

-- the settings are these, and as soon as it has the other side's Nonce the link is ciphered
record Hidden (set : Settings) (l : Link) : Type 0 where
  settings : l.set ≡ set
  hidden : heard_from set.server ≤ l.stage → l.ciphered ≡ true

pub soon : (v : Bool) → heard_from v ≤ 2
soon true = omega arith
soon false = omega arith

module _ (set : Settings) (has : set.cipher ≡ true) (alone : set.only ≡ true) (l : Link) (h : Hidden set l) where
  nonce-hides : (kind : ℕ) (b : List ℕ) (m : Moment) → check_body l kind b m ≡ Ok tt
      → eqb kind 0x7acb87aa ≡ true → (after_of l kind b m).ciphered ≡ true
  unfolding check_body after_of ciphered_after
  nonce-hides kind b m ok q =
      rw q (chosen-if l.set (encryption_at b) (ap (λ (x : Settings). x.cipher) h.settings ∙ has)
      (ap (λ (x : Settings). x.only) h.settings ∙ alone)
      (by-settings l b (taken l b m (rw q at ok))))

  other-keeps : (kind : ℕ) (b : List ℕ) (m : Moment) → eqb kind 0x7acb87aa ≡ false
      → (after_of l kind b m).ciphered ≡ l.ciphered
  unfolding after_of ciphered_after
  other-keeps kind b m q = rw q

  after-set : (kind : ℕ) (b : List ℕ) (m : Moment) → (after_of l kind b m).set ≡ set
  unfolding after_of
  after-set kind b m = h.settings

  hidden-after : (kind : ℕ) (b : List ℕ) (m : Moment) → allowed_of l kind ≡ true
      → check_body l kind b m ≡ Ok tt → Hidden set (after_of l kind b m)
  hidden-after kind b m may ok =
      record { settings = after-set kind b m; hidden = λ _. go (eqb kind 0x7acb87aa) refl }
    where
      go : (x : Bool) → eqb kind 0x7acb87aa ≡ x → (after_of l kind b m).ciphered ≡ true
      go true q = nonce-hides kind b m ok q
      go false q =
          let two = past-nonces l kind may q in
          other-keeps kind b m q ∙ h.hidden (omega (arith, soon set.server))

  hidden-call : (c : Call) → Hidden set (after_call l c)
  unfolding closed_of sent_of flushed_of
  hidden-call (receives s m) =
      receive-ways (Hidden set) l s m h (record { settings = h.settings; hidden = h.hidden })
      (λ turn kind b may ok. hidden-after kind b m may ok)
  hidden-call (sends w p drawn m room) =
      send-ways (λ (x : Step). Hidden set x.link) l w p drawn m room (λ k. h)
      (λ id len turn may. record {
        settings = h.settings;
        hidden = λ t. h.hidden (not-by-sending set.server l.stage (rw h.settings at turn) t);
      })
  hidden-call (flushes room) =
      flush-ways (λ (x : Step). Hidden set x.link) l room (λ k. h)
      (λ fits. record { settings = h.settings; hidden = h.hidden })

hidden-calls : (set : Settings) → set.cipher ≡ true → set.only ≡ true → (l : Link) → Hidden set l → (cs : List Call)
    → Hidden set (after_calls l cs)
hidden-calls set has alone l h [] = h
hidden-calls set has alone l h (c ∷ cs) =
    hidden-calls set has alone (after_call l c) (hidden-call set has alone l h c) cs

hidden-fresh : (set : Settings) (keyid : ℕ) → Hidden set (fresh_of set keyid)
unfolding fresh_of
hidden-fresh set keyid = record { settings = refl; hidden = λ w. absurd (none set.server w) }
  where
    none : (v : Bool) → heard_from v ≤ 0 → ⊥
    none true w = omega arith
    none false w = omega arith

module _ (set : Settings) (has : set.cipher ≡ true) (alone : set.only ≡ true) where
  -- NEVER CLEAR: a link that was set up cipher only is ciphered as soon as it has the other side's Nonce, after any
  -- calls on any bytes; so it never opens clear; that nothing but Nonces goes over it clear is in proofs/OnlyNonces.antt
  pub never-clear : (key : Option (List ℕ)) (l : Link) → set_up_of set key ≡ Ok l → (cs : List Call)
      → heard_from set.server ≤ (after_calls l cs).stage → (after_calls l cs).ciphered ≡ true
  never-clear key l e cs =
      (hidden-calls set has alone l (rw (set-up-took set key l e).0 (hidden-fresh set (key_id_of key))) cs).hidden
