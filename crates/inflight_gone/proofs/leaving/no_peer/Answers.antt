-- Whether a peer's number is out of its side's range.
-- Assumes nothing.
use Rattle.inflight_gone.proofs.leaving.no_peer.Goals as goal

pub returns-in-Front : goal.returns-in-Front
returns-in-Front c = simp c.in-Front.is

pub returns-in-Publisher : goal.returns-in-Publisher
returns-in-Publisher c = simp c.in-Publisher.is
