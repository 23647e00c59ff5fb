-- What a Nonce that was accepted is, on the body that the receive call named: one that is not refused, so a second call
-- hands back the fields that a derivation needs. Assumes nothing.
use borrow.Author.Tests.{eq-eqb}
use native.Mathlib.Omega.{arith}
use mathlib.Core.Path.{◌≡◌, sym, ap, ◌∙◌}
use mathlib.Core.Bool.{true}
use mathlib.Core.List.{List}
use Prim.Native.Nat.{ℕ}
use lib.Dec.{eqb}
use Rattle.wire.specs.Bytes.{within}
use Rattle.link_state.specs.declared.Link.{Link}
use Rattle.link_state.specs.declared.Moment.{Moment}
use Rattle.packet.specs.Body.{body_of}
use Rattle.packet.specs.declared.Arrival.{Arrival}
use Rattle.packet.specs.declared.Arrival.TheVariants.{Incomplete, Packet}
use Rattle.opening.specs.Nonce.{check_nonce}
use Rattle.nonce_in.specs.Fields.{fields_of, nonce_of}
use Rattle.nonce_in.proofs.FieldLaws.{accepted-read}
use Rattle.link.specs.Look.{look_of}
use Rattle.link.specs.Receive.{check_body, receive_by, receive_of}
use Rattle.link.specs.declared.Received.{Received}
use Rattle.link_calls.proofs.Ways.{by-body}
use Rattle.std.specs.Prelude.{Err, Ok, Result}
use Rattle.refusal.specs.declared.Refusal.{Refusal}

not-refused : (l : Link) (kind : ℕ) (b : List ℕ) (m : Moment) → check_body l kind b m ≡ Ok tt
    → eqb kind 0x7acb87aa ≡ true → check_nonce l b m ≡ Ok tt
unfolding check_body
not-refused l kind b m e q = rw q at e

module _ (l : Link) (s : List ℕ) (m : Moment) (consumed at len : ℕ)
    (accepted : (receive_of l s m).answer ≡ Ok (Packet 0x7acb87aa consumed at len)) where
  -- the body that the receive call named
  abbrev named : List ℕ
  named = body_of s (receive_of l s m).answer

  -- what was accepted is not refused
  pub taken : check_nonce l named m ≡ Ok tt
  unfolding receive_of body_of
  taken = ap (λ (a : Result Arrival Refusal). check_nonce l (body_of s a) m) accepted ∙ go (look_of l s) accepted
    where
      Right : Received → Type 0
      Right r = r.answer ≡ Ok (Packet 0x7acb87aa consumed at len) → check_nonce l (within s at len) m ≡ Ok tt

      go : (a : Result Arrival Refusal) → Right (receive_by l s m a)
      go (Ok (Incomplete k)) e = let z : ◌≡◌ {A = ℕ} 0 1 = cc in absurd (omega arith)
      go (Err k) e = let z : ◌≡◌ {A = ℕ} 0 1 = cc in absurd (omega arith)
      go (Ok (Packet kind c i n)) e =
          by-body l s m Right kind c i n (λ k e. let z : ◌≡◌ {A = ℕ} 0 1 = cc in absurd (omega arith))
          (λ ok e.
          let p : i ≡ at = cc in
          let q : n ≡ len = cc in
          ap (λ (b : List ℕ). check_nonce l b m)
          (ap (λ (x : ℕ). within s x len) (sym p) ∙ ap (λ (x : ℕ). within s i x) (sym q))
          ∙ not-refused l kind (within s i n) m ok (eq-eqb kind 0x7acb87aa cc)) e

  -- AN ACCEPTED NONCE'S FIELDS ARE READ: what a derivation needs of it is never refused
  pub fields-handed-back : nonce_of named ≡ Ok (fields_of named)
  fields-handed-back = accepted-read l named m taken
