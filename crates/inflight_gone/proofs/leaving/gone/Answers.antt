-- A gone peer: the slots of its requests.
-- Assumes nothing.
use mathlib.Core.Path.{◌≡◌, refl, sym, ap, ◌∙◌}
use Prim.Native.Nat.{ℕ}
use Rattle.inflight.specs.Tables.{Dropped, drop_of, slots_of, ends_at, other_at, gone_of}
use Rattle.inflight_gone.proofs.leaving.gone.Goals as goal

pub returns-then-no_peer : goal.returns-then-no_peer
unfolding gone_of
returns-then-no_peer c = rw (sym c.no_peer.ensures ∙ c.if-no_peer.true) (refl, refl, refl)

pub peer_slots-mask-requires : goal.peer_slots-mask-requires
peer_slots-mask-requires c = sym c.no_peer.ensures ∙ c.if-no_peer.false

pub returns : goal.returns
unfolding gone_of
returns c =
    let a = c.args in
    let t = a.table.now in
    let o = c.to_publishers.ensures in
    let d : ◌≡◌ {A = Dropped} (drop_of t c.peer_slots-mask.result (ends_at c.to_publishers.result) a.out.now) (drop_of t (slots_of t.masks t.places a.peer) (other_at a.peer) a.out.now) =
    ap (λ (x : ℕ). drop_of t x (ends_at c.to_publishers.result) a.out.now) c.peer_slots-mask.ensures
    ∙ ap (λ (i : ℕ). drop_of t (slots_of t.masks t.places a.peer) i a.out.now) o in
    let e = c.drop_slots.ensures in
    rw (sym c.no_peer.ensures ∙ c.if-no_peer.false)
    (e.0 ∙ ap (λ (r : Dropped). r.answer) d, e.1 ∙ ap (λ (r : Dropped). r.table) d, e.2 ∙ ap (λ (r : Dropped). r.slice) d)
