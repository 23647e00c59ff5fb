-- Whether the other ends of a peer's requests are at publishers.
-- Assumes nothing.
use Rattle.inflight_gone.proofs.leaving.to_publishers.Goals as goal

pub returns-in-Front : goal.returns-in-Front
returns-in-Front c = rw c.in-Front.is

pub returns-in-Publisher : goal.returns-in-Publisher
returns-in-Publisher c = rw c.in-Publisher.is
