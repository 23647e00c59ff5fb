-- With lowest version 0 every receive call is as it was before a link had one. Assumes nothing.
use mathlib.Core.Path.{◌≡◌, refl, ap, ◌∙◌}
use mathlib.Core.List.{List}
use Prim.Native.Nat.{ℕ}
use Rattle.wire.specs.Bytes.{within}
use Rattle.link_state.specs.declared.Link.{Link}
use Rattle.link_state.specs.declared.Settings.{Settings}
use Rattle.link_state.specs.declared.Moment.{Moment}
use Rattle.link_state.specs.SetUp.{set_up_of}
use Rattle.packet.specs.declared.Arrival.{Arrival}
use Rattle.packet.specs.declared.Arrival.TheVariants.{Incomplete, Packet}
use Rattle.link.specs.Look.{look_of}
use Rattle.link_next.specs.Next.{after_of}
use Rattle.link.specs.Receive.{check_body, packet_by, receive_by, receive_of}
use Rattle.link_calls.specs.Calls.{Call, after_calls}
use Rattle.link_versions.specs.Before.{body_before, packet_by_before, receive_by_before, receive_before}
use Rattle.link_versions.proofs.NoOlder.{holds-from-set-up}
use Rattle.link_versions.proofs.AsBase.{NoneIs24, Known, body-no24, look_known, refused-alike, nonce-alike}
use Rattle.std.specs.Prelude.{Err, Ok, Option, Result, ⊤}
use Rattle.refusal.specs.declared.Refusal.{Refusal}

module _ (l : Link) (s : List ℕ) (m : Moment) (none : l.set.lowest ≡ 0) where
  body_alike : (kind : ℕ) (b : List ℕ) → check_body l kind b m ≡ body_before l kind b m
  unfolding check_body body_before
  body_alike kind b = rw (nonce-alike l s m none b)

  by-checked : (after : Link) (a : Arrival) (r : Result ⊤ Refusal) → NoneIs24 r → packet_by l after a r ≡ packet_by_before l after a r
  by-checked after a (Ok u) h = refl
  by-checked after a (Err k) h = refused-alike l k h

  by-look : (a : Result Arrival Refusal) → Known a → receive_by l s m a ≡ receive_by_before l s m a
  by-look (Ok (Incomplete k)) h = refl
  by-look (Err k) h = refused-alike l k h
  by-look (Ok (Packet kind c i n)) h =
      let b : List ℕ = within s i n in
      rw (body_alike kind b) (by-checked (after_of l kind b m) (Packet kind c i n) (body_before l kind b m) (body-no24 l 0 0 kind b m))

  -- AS BEFORE: a receive call answers, and leaves the link, as it would without lowest versions
  pub as-base : receive_of l s m ≡ receive_before l s m
  unfolding receive_of receive_before
  as-base = by-look (look_of l s) (look_known l m s)

-- every receive call on a link that was set up with lowest version 0, with a key or without, is as before, after any
-- calls
pub always-as-base : (set : Settings) (key : Option (List ℕ)) (l : Link) → set_up_of set key ≡ Ok l → set.lowest ≡ 0
    → (cs : List Call) (s : List ℕ) (m : Moment)
    → receive_of (after_calls l cs) s m ≡ receive_before (after_calls l cs) s m
always-as-base set key l e zero cs s m =
    as-base (after_calls l cs) s m (ap (λ (x : Settings). x.lowest) (holds-from-set-up set key l e cs).settings ∙ zero)
