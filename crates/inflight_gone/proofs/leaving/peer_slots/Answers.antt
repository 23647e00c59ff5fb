-- The slots of a peer's requests.
-- Assumes nothing.
use mathlib.Core.Path.{sym, ap, ◌∙◌}
use native.Mathlib.Omega.{arith}
use borrow.Author.Tests.{leb-false}
use Rattle.inflight.specs.Model.{no_peer}
use Rattle.inflight.specs.Tables.{slots_of}
use Rattle.inflight.specs.declared.Peer.{Peer}
use Rattle.inflight_gone.proofs.leaving.peer_slots.Goals as goal

pub bounds-masks-publisher : goal.bounds-masks-publisher
bounds-masks-publisher c =
    let h = leb-false 8 c.in-Publisher.publisher (sym (ap no_peer c.in-Publisher.is) ∙ c.requires) in
    omega (arith, h)

pub returns-in-Front : goal.returns-in-Front
returns-in-Front c =
    let a = c.args in
    c.find_link.ensures
    ∙ sym (ap (λ (q : Peer). slots_of a.masks.now a.places.now q) c.in-Front.is)

pub returns-in-Publisher : goal.returns-in-Publisher
returns-in-Publisher c =
    let a = c.args in
    sym (ap (λ (q : Peer). slots_of a.masks.now a.places.now q) c.in-Publisher.is)
