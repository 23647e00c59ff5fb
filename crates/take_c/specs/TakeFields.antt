-- The answers of reply and cancel as structs of numbers, for C: "every refusal gives back its number alone".
-- Assumes nothing.
use Rattle.std.specs.Prelude.{pos, Result, Ok, Err}
use Rattle.refusal.specs.Numbers.{number}
use Rattle.refusal.specs.declared.Refusal.{Refusal}
use Rattle.inflight.specs.declared.FrontEnd.{FrontEnd}
use Rattle.inflight.specs.declared.PublisherEnd.{PublisherEnd}
use Rattle.take_c.specs.declared.RelayReplied.{RelayReplied}
use Rattle.take_c.specs.declared.RelayCancelled.{RelayCancelled}

-- reply hands "back the ticket's other end": link and front number
unfoldable pub reply_fields : Result FrontEnd Refusal → RelayReplied
reply_fields (Ok end) = record { refusal = 0; link = end.link; number = end.number }
reply_fields (Err refusal) = record { refusal = number refusal; link = 0; number = record { 0 = pos 0 } }

-- cancel the same: publisher and publisher number
unfoldable pub cancel_fields : Result PublisherEnd Refusal → RelayCancelled
cancel_fields (Ok end) = record { refusal = 0; publisher = end.publisher; number = end.number }
cancel_fields (Err refusal) = record { refusal = number refusal; publisher = 0; number = record { 0 = pos 0 } }
