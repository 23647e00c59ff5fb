-- What a receive call answers (document 01, "Packets": "wait for k more; one packet, with its type, the bytes used (its
-- length), and its body ..; a refusal"), as a struct for C. Assumes nothing.
use Rattle.std.specs.Prelude.{Result, Ok, Err}
use Rattle.refusal.specs.Numbers.{number}
use Rattle.refusal.specs.declared.Refusal.{Refusal}
use Rattle.packet.specs.declared.Arrival.{Arrival}
use Rattle.packet.specs.declared.Arrival.TheVariants.{Incomplete, Packet}
use Rattle.receive_c.specs.declared.RelayArrival.{RelayArrival}

unfoldable pub arrival_fields : Result Arrival Refusal → RelayArrival
-- 0: the refusal's number alone
arrival_fields (Err k) =
    record { tag = 0; refusal = number k; kind = 0; more = 0; consumed = 0; at = 0; len = 0 }
-- 1: how many bytes more are needed
arrival_fields (Ok (Incomplete k)) =
    record { tag = 1; refusal = 0; kind = 0; more = k; consumed = 0; at = 0; len = 0 }
-- 2: the packet's type, the bytes that it takes, and its body's place and length
arrival_fields (Ok (Packet kind consumed at len)) =
    record { tag = 2; refusal = 0; kind = kind; more = 0; consumed = consumed; at = at; len = len }
